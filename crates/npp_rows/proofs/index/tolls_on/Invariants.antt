use Rattle.std.proofs.Common.{◌≡◌, ◌==◌, ◌++◌, map, filter}
use Rattle.std.specs.List.{list_any, range_with_len}
use Rattle.std.specs.Int.{bit_at}
use Rattle.std.specs.Prelude.{nat_lt}
use Rattle.npp_cover.specs.PathValue.{path_value}
use Rattle.npp_cover.specs.Replaces.{path_at}
use Rattle.npp_rows.proofs.index.tolls_on.Given as goal

abbrev pub invariant-loop-toll : goal.invariant-loop-toll
invariant-loop-toll l =
    l.on.items ++ filter (λ a. nat_lt a l.tolls) l.toll-iterator
    ≡ filter (λ a. list_any (λ p. bit_at (path_at (map path_value l.fn.paths) p).tolls a == 1) l.fn.part) (range_with_len 0 l.tolls)
