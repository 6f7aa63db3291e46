use Rattle.std.proofs.Common.{◌≡◌, length, map, slice_index_or}
use Rattle.std.specs.List.{range_with_len}
use Rattle.npp_cover.specs.Replaces.{sum_below}
use Rattle.npp_rows.specs.PathModel.{no_cover}
use Rattle.npp_rows.proofs.starts.path_starts.Given as goal

abbrev pub invariant-loop-cover : goal.invariant-loop-cover
invariant-loop-cover l =
    (l.starts.items ≡ map (sum_below (λ k. length (slice_index_or l.covers k no_cover).paths)) (range_with_len 0 l.cover-index))
    × (l.total ≡ sum_below (λ k. length (slice_index_or l.covers k no_cover).paths) l.cover-index)
