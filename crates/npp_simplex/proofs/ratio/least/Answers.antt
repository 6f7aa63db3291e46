use Rattle.std.proofs.Common.{map, arith}
use Rattle.npp_simplex.proofs.Tables.{at_read}
use Rattle.npp_simplex.proofs.Comparing.{least_more}
use Rattle.npp_simplex.proofs.ratio.least.Goals as goal

pub loop-s-preserved : goal.loop-s-preserved
loop-s-preserved g c =
    let v = g.N.Exact.rational in
    least_more (map v c.args.numbers.now) c.loop-s.s (v c.loop-s.best) (v c.index-numbers-s.result) (v c.lesser-best.result) c.loop-s.invariant (at_read v c.args.numbers.now c.loop-s.s c.index-numbers-s.result (omega arith) c.index-numbers-s.is) c.lesser-best.ensures.one_of c.lesser-best.ensures.first c.lesser-best.ensures.second
