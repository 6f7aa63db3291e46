use Rattle.std.proofs.Common.{◌<◌, length, map, take, All}
use Rattle.npp_rows.specs.Meaning.{cut_value, multiplier_value}
use Rattle.npp_rows.specs.Relax.{relaxation, relaxation_columns}
use Rattle.npp_rows.specs.Rounding.{StandOnlyIn}
use Rattle.npp_rows.proofs.index.RelaxationIndex.touched.Given as goal

abbrev pub invariant-loop-multiplier : goal.invariant-loop-multiplier
invariant-loop-multiplier g l =
    All (λ j. j < length (relaxation_columns l.self.paths l.self.parts)) l.columns.items
    × StandOnlyIn (relaxation l.self.paths l.self.parts (map (cut_value g.N.Exact.rational) l.cuts)) (map (multiplier_value g.N.Exact.rational) (take l.multiplier-index l.multipliers)) l.columns.items
