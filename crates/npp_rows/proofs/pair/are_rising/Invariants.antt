use Rattle.std.proofs.Common.{nat_lt}
use Rattle.npp_rows.proofs.TakenLaws.{RisesTo}
use Rattle.npp_rows.proofs.pair.are_rising.Given as goal

abbrev pub invariant-loop-number : goal.invariant-loop-number
invariant-loop-number l = RisesTo nat_lt l.numbers l.number-index l.last
