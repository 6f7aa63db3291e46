use Rattle.std.proofs.Common.{◌≡◌, length, map, take}
use Rattle.npp_frac.specs.Fits.{limit_of}
use Rattle.npp_rows.specs.Meaning.{multiplier_value}
use Rattle.npp_rows.specs.Taken.{AreAdded}
use Rattle.npp_rows.specs.Inverse.{conflict_program}
use Rattle.npp_rows.proofs.conflict.conflict_sums.Given as goal

abbrev pub invariant-loop-multiplier : goal.invariant-loop-multiplier
invariant-loop-multiplier g l =
    AreAdded g.N.Exact.rational (limit_of g.N.Exact.WIDTH) (conflict_program l.table l.two.k l.two.p l.two.l l.two.q) (map (multiplier_value g.N.Exact.rational) (take l.multiplier-index l.multipliers)) l.sums
    × (length l.sums.sums.columns ≡ length l.table.caps)
