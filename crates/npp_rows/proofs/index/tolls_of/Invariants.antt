use Rattle.std.proofs.Common.{◌≡◌, ◌==◌, ◌<◌, ℕ, map, take}
use Rattle.std.specs.List.{list_any}
use Rattle.std.specs.Int.{bit_at}
use Rattle.npp_cover.specs.PathValue.{path_value}
use Rattle.npp_cover.specs.Replaces.{path_at}
use Rattle.npp_rows.proofs.index.tolls_of.Given as goal

abbrev pub invariant-loop-path : goal.invariant-loop-path
invariant-loop-path l =
    (a : ℕ) → a < 128 → (bit_at l.set a == 1) ≡ list_any (λ p. bit_at (path_at (map path_value l.paths) p).tolls a == 1) (take l.path-index l.part)
