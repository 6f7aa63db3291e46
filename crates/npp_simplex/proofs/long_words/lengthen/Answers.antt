use Rattle.std.proofs.Common.{arith}
use Rattle.npp_simplex.proofs.WordRows.{copied}
use Rattle.npp_simplex.proofs.long_words.lengthen.Goals as goal

pub returns : goal.returns
returns c = copied c.args.numbers.now c.loop-j.numbers c.args.words.now c.loop-j.j c.loop-j.invariant (omega arith) c.requires
