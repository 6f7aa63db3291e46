-- How many rows a relaxation has.
use Rattle.std.proofs.Common.{◌≡◌, ℕ, ◌+◌, ◌*◌, List, length, map, ◌∙◌, arith}
use Rattle.std.specs.List.{flat_map}
use Rattle.std.proofs.lemmas.List.{length-append, length-map}
use Rattle.std.proofs.lemmas.List.FromFn.{length-map-range_with_len}
use Rattle.npp_cover.specs.Replaces.{sum_below}
use Rattle.npp_rows.specs.declared.names.RowName.{RowName}
use Rattle.npp_rows.specs.declared.names.RowName.TheVariants.{Cap, Follow, Below, Use, Link, One, OneLow, Cut}
use Rattle.npp_rows.specs.PathModel.{PathModel, commodities, path_count}
use Rattle.npp_rows.specs.Relax.{relaxation_rows, allowed_tolls, on_allowed_tolls, follow_rows}
use Rattle.npp_rows.specs.Family.{paid_count}
use Rattle.npp_rows.proofs.StartLaws.{sum_below_same}
use Rattle.npp_rows.proofs.TermLaws.{flat_size}

-- how many useful paths there are is how many rows of them
pub follows_size : (m : PathModel) → length (flat_map (follow_rows m) (commodities m)) ≡ sum_below (path_count m) (length m.covers)
follows_size m =
    flat_size (follow_rows m) (length m.covers)
    ∙ sum_below_same (λ k. length (follow_rows m k)) (path_count m) (length m.covers) (λ k u. length-map-range_with_len (Follow k) 0 (path_count m k))

module _ (m : PathModel) (parts : List (List ℕ)) where
  pairs_size : (name : ℕ → ℕ → RowName) → length (on_allowed_tolls m parts name) ≡ sum_below (paid_count m parts) (length m.covers)
  pairs_size name =
      flat_size (λ k. map (λ a. name a k) (allowed_tolls m parts k)) (length m.covers)
      ∙ sum_below_same (λ k. length (map (λ a. name a k) (allowed_tolls m parts k))) (paid_count m parts) (length m.covers) (λ k u. length-map (allowed_tolls m parts k) (λ a. name a k))

  pub rows_size : (cuts : ℕ) → length (relaxation_rows m parts cuts)
      ≡ length m.caps + sum_below (path_count m) (length m.covers) + 3 * sum_below (paid_count m parts) (length m.covers) + 2 * length m.covers + cuts
  rows_size cuts =
      let caps = length-map-range_with_len Cap 0 (length m.caps) in
      let ones = length-map-range_with_len One 0 (length m.covers) in
      let lows = length-map-range_with_len OneLow 0 (length m.covers) in
      let last = length-map-range_with_len Cut 0 cuts in
      simp length-append (omega (arith, caps, follows_size m, pairs_size Below, pairs_size Use, pairs_size Link, ones, lows, last))
