use Rattle.std.proofs.Common.{◌≡◌, true, take}
use Rattle.std.specs.List.{list_all}
use Rattle.npp_rows.specs.declared.names.Multiplier.{Multiplier}
use Rattle.npp_rows.specs.RowOrder.{has_row}
use Rattle.npp_rows.specs.Relax.{relaxation_rows}
use Rattle.npp_rows.proofs.index.RelaxationIndex.are_rows.Given as goal

abbrev pub invariant-loop-multiplier : goal.invariant-loop-multiplier
invariant-loop-multiplier g l = list_all (λ (y : Multiplier g.row.N.Denot). has_row (relaxation_rows l.self.paths l.self.parts l.cuts) y.row) (take l.multiplier-index l.multipliers) ≡ true
