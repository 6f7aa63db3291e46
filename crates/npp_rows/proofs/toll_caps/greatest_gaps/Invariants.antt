use Rattle.std.proofs.Common.{◌≡◌, ◌<◌, ℕ, length, take}
use Rattle.std.specs.Prelude.{slice_index}
use Rattle.npp_rows.specs.Caps.{greatest_gap}
use Rattle.npp_rows.proofs.toll_caps.greatest_gaps.Given as goal

abbrev pub invariant-loop-cover : goal.invariant-loop-cover
invariant-loop-cover l =
    (length l.gaps.items ≡ l.tolls) × ((a : ℕ) → a < l.tolls → slice_index l.gaps.items a ≡ greatest_gap (take l.cover-index l.covers) a)
