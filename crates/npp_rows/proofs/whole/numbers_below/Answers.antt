use Rattle.std.proofs.Common.{arith, refl}
use Rattle.npp_rows.proofs.ListLaws.{range_push}
use Rattle.npp_rows.proofs.whole.numbers_below.Goals as goal

pub loop-number-preserved : goal.loop-number-preserved
loop-number-preserved c = rw (c.in_ok-push.ensures.items, c.loop-number.invariant, range_push 0 c.loop-number.number c.loop-number.number (omega arith)) refl
