-- The reply to the best tolls of a choice earns at least their value.
use Rattle.std.proofs.Common.{◌≡◌, inl, inr, ℕ, ◌<◌, cond, List, length, map, pos, sym, ap, ◌∙◌, arith}
use Rattle.std.proofs.lemmas.Int.{ints}
use Rattle.npp_frac.specs.Rational.{Rational, zero_ℚ, whole, ◌*ℚ◌, ◌≤ℚ◌}
use Rattle.npp_frac.specs.Order.{not-≤ℚ_of_<ℚ, *ℚ_mono, whole_mono}
use Rattle.npp_frac.specs.Sums.{sum_by, sum_by-map, sum_by_same, sum_by-*ℚ, sum_to_mono}
use Rattle.npp_lp.specs.Programs.{at, product_sum, goal_at, IsPoint}
use Rattle.npp_rows.specs.declared.names.ColumnName.TheVariants.{Toll}
use Rattle.npp_rows.specs.PathModel.{PathModel, tolls, commodities, path_count, uses, demand_at}
use Rattle.npp_rows.specs.Parts.{chosen}
use Rattle.npp_rows.specs.Named.{numbered}
use Rattle.npp_rows.specs.Rows.{IsChoice}
use Rattle.npp_rows.specs.Inverse.{inverse, payers, revenue_goal}
use Rattle.npp_rows.specs.Response.{path_toll, path_price, taken_path, taken_toll, demand, revenue_below}
use Rattle.npp_rows.proofs.GoalLaws.{products_by_name}
use Rattle.npp_rows.proofs.InverseLaws.{swapped, total_times, paid_if}
use Rattle.npp_inverse.specs.Offers.{HasUsefulPaths, IsNoWorse, IsFirstBest}
use Rattle.npp_inverse.proofs.OfferLaws.{first_best}
use Rattle.npp_rows.proofs.PriceLaws.{path_toll_is, range_to}
use Rattle.npp_rows.proofs.PointLaws.{number, numbers_are, point_size, chosen_cheap}

module _ (m : PathModel) (choice : List ℕ) (T : List Rational) (useful : HasUsefulPaths m) (picks : IsChoice m choice) (point : IsPoint (numbered (inverse m choice)) T) where
  -- and pays no more than the taken path
  chosen_pays : (k : ℕ) → k < length m.covers → path_toll m T k (chosen choice k) ≤ℚ taken_toll m T k
  chosen_pays k u = by (best.best (chosen choice k) (picks.each k u))
    where
      best : IsFirstBest (path_price m T k) (path_toll m T k) (path_count m k) (taken_path m T k)
      best = first_best (path_price m T k) (path_toll m T k) (path_count m k) (useful.some k u)

      by : IsNoWorse (path_price m T k (taken_path m T k)) (path_toll m T k (taken_path m T k)) (path_price m T k (chosen choice k)) (path_toll m T k (chosen choice k)) → path_toll m T k (chosen choice k) ≤ℚ taken_toll m T k
      by (inl lt) = absurd (not-≤ℚ_of_<ℚ lt (chosen_cheap m choice T point k (taken_path m T k) u best.below))
      by (inr same) = same.1

  -- the goal is what the chosen paths pay
  goal_paid : goal_at (numbered (inverse m choice)) T ≡ sum_by (λ k. demand m k *ℚ path_toll m T k (chosen choice k)) (commodities m)
  unfolding number
  goal_paid =
      ap (λ x. product_sum (length (map Toll (tolls m))) (at (map (revenue_goal m choice) (map Toll (tolls m)))) (at x)) (sym (numbers_are m choice T (point_size m choice T point)))
      ∙ products_by_name (revenue_goal m choice) (number T) (map Toll (tolls m))
      ∙ sum_by-map (λ c. revenue_goal m choice c *ℚ number T c) Toll (tolls m)
      ∙ by_tolls
    where
      by_tolls : sum_by (λ a. revenue_goal m choice (Toll a) *ℚ number T (Toll a)) (tolls m) ≡ sum_by (λ k. demand m k *ℚ path_toll m T k (chosen choice k)) (commodities m)
      by_tolls =
          sum_by_same (λ a. whole (pos (payers m choice a)) *ℚ at T a) (λ a. sum_by (λ k. whole (pos (cond (uses m k (chosen choice k) a) (demand_at m k) 0)) *ℚ at T a) (commodities m)) (tolls m)
          (λ a. total_times (λ k. cond (uses m k (chosen choice k) a) (demand_at m k) 0) (at T a) (commodities m))
          ∙ swapped (λ a k. whole (pos (cond (uses m k (chosen choice k) a) (demand_at m k) 0)) *ℚ at T a) (tolls m) (commodities m)
          ∙ sum_by_same (λ k. sum_by (λ a. whole (pos (cond (uses m k (chosen choice k) a) (demand_at m k) 0)) *ℚ at T a) (tolls m)) (λ k. demand m k *ℚ path_toll m T k (chosen choice k)) (commodities m)
          (λ k. sum_by_same (λ a. whole (pos (cond (uses m k (chosen choice k) a) (demand_at m k) 0)) *ℚ at T a) (λ a. demand m k *ℚ cond (uses m k (chosen choice k) a) (at T a) zero_ℚ) (tolls m)
          (λ a. paid_if (demand_at m k) (at T a) (uses m k (chosen choice k) a))
          ∙ sum_by-*ℚ (demand m k) (λ a. cond (uses m k (chosen choice k) a) (at T a) zero_ℚ) (tolls m)
          ∙ ap (λ q. demand m k *ℚ q) (sym (path_toll_is m T k (chosen choice k))))

  pub earns_goal : goal_at (numbered (inverse m choice)) T ≤ℚ revenue_below m T (length m.covers)
  earns_goal =
      rw (goal_paid, range_to (λ k. demand m k *ℚ path_toll m T k (chosen choice k)) (length m.covers))
      (sum_to_mono (length m.covers) (λ k. demand m k *ℚ path_toll m T k (chosen choice k)) (λ k. demand m k *ℚ taken_toll m T k)
      (λ k u. *ℚ_mono (whole_mono {m = pos 0} {n = pos (demand_at m k)} (omega (arith, ints))) (chosen_pays k u)))
