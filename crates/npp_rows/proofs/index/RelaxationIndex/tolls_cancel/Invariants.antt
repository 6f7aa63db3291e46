use Rattle.std.proofs.Common.{length, drop}
use Rattle.npp_rows.specs.Relax.{relaxation_columns}
use Rattle.npp_rows.specs.Rounding.{toll_fault_at}
use Rattle.npp_rows.proofs.TouchedLaws.{Left}
use Rattle.npp_rows.proofs.index.RelaxationIndex.tolls_cancel.Given as goal

abbrev pub invariant-loop-i : goal.invariant-loop-i
invariant-loop-i g l =
    Left (toll_fault_at (relaxation_columns l.self.paths l.self.parts) l.sums.all) (length (relaxation_columns l.self.paths l.self.parts)) (drop l.i l.columns)
