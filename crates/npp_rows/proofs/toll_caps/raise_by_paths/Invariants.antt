use Rattle.std.proofs.Common.{◌≡◌, ◌<◌, ℕ, length, max, fold, map, take}
use Rattle.std.specs.Prelude.{slice_index}
use Rattle.npp_cover.specs.PathValue.{path_value}
use Rattle.npp_rows.specs.Caps.{toll_gap}
use Rattle.npp_rows.proofs.toll_caps.raise_by_paths.Given as goal

abbrev pub invariant-loop-path : goal.invariant-loop-path
invariant-loop-path l =
    (length l.gaps ≡ length l.initial.gaps)
    × ((a : ℕ) → a < length l.initial.gaps → slice_index l.gaps a ≡ fold max (slice_index l.initial.gaps a) (map (toll_gap a l.free) (map path_value (take l.path-index l.path-items))))
