use Rattle.std.proofs.Common.{◌≡◌, map, take}
use Rattle.npp_frac.specs.Fits.{limit_of}
use Rattle.npp_lp.specs.RunningSums.{AreSumsOf}
use Rattle.npp_rows.specs.Meaning.{cut_value, multiplier_value}
use Rattle.npp_rows.specs.Named.{numbered}
use Rattle.npp_rows.specs.Taken.{placed}
use Rattle.npp_rows.specs.Relax.{relaxation}
use Rattle.npp_rows.proofs.index.RelaxationIndex.sums.Given as goal

abbrev pub invariant-loop-multiplier : goal.invariant-loop-multiplier
invariant-loop-multiplier g l =
    AreSumsOf (limit_of g.N.Exact.WIDTH) (numbered (relaxation l.self.paths l.self.parts (map (cut_value g.N.Exact.rational) l.cuts)))
    (placed (relaxation l.self.paths l.self.parts (map (cut_value g.N.Exact.rational) l.cuts)).rows (map (multiplier_value g.N.Exact.rational) (take l.multiplier-index l.multipliers))) l.sums.all
    × (l.sums.columns ≡ l.initial.sums.columns)
