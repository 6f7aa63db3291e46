use Rattle.std.proofs.Common.{arith}
use Rattle.npp_simplex.proofs.Reading.{taken_more}
use Rattle.npp_simplex.proofs.cells.all_rows.Goals as goal

pub loop-i-preserved : goal.loop-i-preserved
loop-i-preserved c = taken_more c.loop-i.list c.loop-i.i (omega arith) c.loop-i.invariant
