use Rattle.std.proofs.Common.{◌≡◌, true, take}
use Rattle.std.specs.List.{list_all}
use Rattle.npp_rows.specs.declared.names.Multiplier.{Multiplier}
use Rattle.npp_rows.specs.RowOrder.{has_row}
use Rattle.npp_rows.specs.Inverse.{conflict_program}
use Rattle.npp_rows.proofs.conflict.are_conflict_rows.Given as goal

abbrev pub invariant-loop-multiplier : goal.invariant-loop-multiplier
invariant-loop-multiplier g l = list_all (λ (y : Multiplier g.row.N.Denot). has_row ((conflict_program l.table l.two.k l.two.p l.two.l l.two.q).rows) y.row) (take l.multiplier-index l.multipliers) ≡ true
