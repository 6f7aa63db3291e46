use Rattle.std.proofs.Common.{map}
use Rattle.npp_rows.specs.RowOrder.{is_before}
use Rattle.npp_rows.specs.declared.names.Multiplier.{Multiplier}
use Rattle.npp_rows.proofs.TakenLaws.{RisesTo}
use Rattle.npp_rows.proofs.multipliers.are_in_order.Given as goal

abbrev pub invariant-loop-multiplier : goal.invariant-loop-multiplier
invariant-loop-multiplier g l = RisesTo is_before (map (λ (y : Multiplier g.row.N.Denot). y.row) l.multipliers) l.multiplier-index l.last
