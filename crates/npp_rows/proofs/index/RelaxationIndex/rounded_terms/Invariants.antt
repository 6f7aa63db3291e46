use Rattle.std.proofs.Common.{◌≡◌, length, map, take, drop}
use Rattle.std.specs.List.{flat_map}
use Rattle.npp_rows.specs.Meaning.{cut_term_value}
use Rattle.npp_rows.specs.Relax.{relaxation_columns}
use Rattle.npp_rows.specs.Rounding.{share_fault_at, term_in}
use Rattle.npp_rows.proofs.TouchedLaws.{Left}
use Rattle.npp_rows.proofs.index.RelaxationIndex.rounded_terms.Given as goal

abbrev pub invariant-loop-i : goal.invariant-loop-i
invariant-loop-i g l =
    Left (share_fault_at (relaxation_columns l.self.paths l.self.parts) l.sums.all) (length (relaxation_columns l.self.paths l.self.parts)) (drop l.i l.columns)
    × (map (cut_term_value g.N.Exact.rational) l.terms.items ≡ flat_map (term_in (relaxation_columns l.self.paths l.self.parts) l.sums.all) (take l.i l.columns))
