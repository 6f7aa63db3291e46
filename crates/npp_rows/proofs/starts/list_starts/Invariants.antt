use Rattle.std.proofs.Common.{◌≡◌, length, map}
use Rattle.std.specs.List.{range_with_len}
use Rattle.npp_cover.specs.Replaces.{sum_below}
use Rattle.npp_rows.specs.Parts.{part_at}
use Rattle.npp_rows.proofs.starts.list_starts.Given as goal

abbrev pub invariant-loop-list : goal.invariant-loop-list
invariant-loop-list l =
    (l.starts.items ≡ map (sum_below (λ k. length (part_at l.lists k))) (range_with_len 0 l.list-index))
    × (l.total ≡ sum_below (λ k. length (part_at l.lists k)) l.list-index)
