-- The reply to zero tolls fits every width.
use Rattle.std.proofs.Common.{◌≡◌, ℕ, zero, suc, ◌+◌, ◌<◌, ◌≤◌, ◌^◌, inl, inr, Bool, true, false, cond, ◌&&◌, List, [], ◌∷◌, length, map, pos, replicate, Option, Some, None, refl, sym, ap, ap₂, ◌∙◌, subst, arith, nat_abs}
use Rattle.std.specs.Prelude.{slice_index_or}
use Rattle.std.specs.List.{list_all}
use Rattle.std.proofs.Math.ListN.{get_or-eq_default}
use Rattle.std.proofs.lemmas.Bool.{cases_lt}
use Rattle.std.proofs.lemmas.List.{get_or-replicate, length-replicate}
use Rattle.npp_frac.specs.Rational.{Rational, zero_ℚ, whole, ◌+ℚ◌, ◌*ℚ◌}
use Rattle.npp_frac.specs.Ring.{zero-+ℚ, *ℚ-zero}
use Rattle.npp_frac.specs.Sums.{sum_by, sum_by-nil, sum_by-cons, sum_to}
use Rattle.npp_frac.specs.Fits.{IsWidth, limit_of, fits_add, fits_mul}
use Rattle.npp_frac.specs.FitsLaws.{fits_add_yes, fits_mul_yes}
use Rattle.npp_frac.specs.ZeroLaws.{FitsAdd-zero, FitsBelow-zero, FitsMul-zero_right, wide_enough}
use Rattle.npp_lp.specs.Programs.{at}
use Rattle.npp_lp.specs.VerdictLaws.{first_below_clear}
use Rattle.npp_rows.specs.PathModel.{PathModel, paths, path_count, path_cost, path_tolls}
use Rattle.npp_rows.specs.Limits.{IsWithinLimits}
use Rattle.npp_rows.specs.Response.{additions_fit, path_fits, path_toll, taken_path, taken_toll, demand, revenue_below, revenue_fits, commodity_fits, reply_stop}
use Rattle.npp_inverse.proofs.OfferLaws.{all_range}
use Rattle.npp_start.specs.Start.{no_tolls}
use Rattle.npp_start.proofs.WholeLaws.{whole_fits}

-- zero at each place, and past the end too
zero_at : (n a : ℕ) → at (replicate n zero_ℚ) a ≡ zero_ℚ
zero_at n a = elim (cases_lt a n) [
  | inl l ↦ get_or-replicate n a zero_ℚ zero_ℚ l
  | inr l ↦ get_or-eq_default (replicate n zero_ℚ) zero_ℚ (omega (arith, l, length-replicate {A = Rational} n zero_ℚ))
]

zero_sum : (T : List Rational) → ((a : ℕ) → at T a ≡ zero_ℚ) → (xs : List ℕ) → sum_by (at T) xs ≡ zero_ℚ
zero_sum T none [] = sum_by-nil (at T)
zero_sum T none (x ∷ xs) = sum_by-cons (at T) x xs ∙ ap (λ q. q +ℚ sum_by (at T) xs) (none x) ∙ zero-+ℚ (sum_by (at T) xs) ∙ zero_sum T none xs

module _ (w : ℕ) (width : IsWidth w) where
  zero_adds : fits_add (limit_of w) zero_ℚ zero_ℚ ≡ true
  zero_adds = sym (fits_add_yes (limit_of w) zero_ℚ zero_ℚ (FitsAdd-zero (limit_of w) zero_ℚ (FitsBelow-zero w width)))

  zeros_add : (T : List Rational) → ((a : ℕ) → at T a ≡ zero_ℚ) → (xs : List ℕ) (sum : Rational) → sum ≡ zero_ℚ → additions_fit (limit_of w) sum (map (at T) xs) ≡ true
  zeros_add T none [] sum is = refl
  zeros_add T none (x ∷ xs) sum is =
      let here : fits_add (limit_of w) sum (at T x) ≡ true = ap₂ (fits_add (limit_of w)) is (none x) ∙ zero_adds in
      let next : sum +ℚ at T x ≡ zero_ℚ = ap₂ ◌+ℚ◌ is (none x) ∙ zero-+ℚ zero_ℚ in
      let rest : additions_fit (limit_of w) (sum +ℚ at T x) (map (at T) xs) ≡ true = zeros_add T none xs (sum +ℚ at T x) next in
      rw here rest

  module _ (m : PathModel) (limits : IsWithinLimits m) where
    none : (a : ℕ) → at (no_tolls m) a ≡ zero_ℚ
    none a = zero_at (length m.caps) a

    pays_nothing : (k q : ℕ) → path_toll m (no_tolls m) k q ≡ zero_ℚ
    pays_nothing k q = zero_sum (no_tolls m) none (path_tolls m k q)

    path_yes : (k q : ℕ) → path_fits (limit_of w) m (no_tolls m) k q ≡ true
    path_yes k q =
        let sums : additions_fit (limit_of w) zero_ℚ (map (at (no_tolls m)) (path_tolls m k q)) ≡ true = zeros_add (no_tolls m) none (path_tolls m k q) zero_ℚ refl in
        let small : path_cost m k q < 2 ^ 31 = omega (arith, limits.cost k q, limits.free k) in
        let price : fits_add (limit_of w) (whole (pos (path_cost m k q))) (path_toll m (no_tolls m) k q) ≡ true =
        ap (fits_add (limit_of w) (whole (pos (path_cost m k q)))) (pays_nothing k q)
        ∙ sym (fits_add_yes (limit_of w) (whole (pos (path_cost m k q))) zero_ℚ (FitsAdd-zero (limit_of w) (whole (pos (path_cost m k q))) (whole_fits w (path_cost m k q) width small))) in
        rw (sums, price) refl

    earns_nothing : (n : ℕ) → revenue_below m (no_tolls m) n ≡ zero_ℚ
    unfolding sum_to
    earns_nothing zero = refl
    earns_nothing (suc n) =
        ap (λ q. q +ℚ demand m n *ℚ taken_toll m (no_tolls m) n) (earns_nothing n)
        ∙ zero-+ℚ (demand m n *ℚ taken_toll m (no_tolls m) n)
        ∙ ap (λ q. demand m n *ℚ q) (pays_nothing n (taken_path m (no_tolls m) n))
        ∙ *ℚ-zero (demand m n)

    revenue_yes : (k : ℕ) → revenue_fits (limit_of w) m (no_tolls m) k ≡ true
    revenue_yes k =
        let paid : taken_toll m (no_tolls m) k ≡ zero_ℚ = pays_nothing k (taken_path m (no_tolls m) k) in
        let product : fits_mul (limit_of w) (demand m k) (taken_toll m (no_tolls m) k) ≡ true =
        ap (fits_mul (limit_of w) (demand m k)) paid ∙ sym (fits_mul_yes (limit_of w) (demand m k) zero_ℚ (FitsMul-zero_right (limit_of w) (demand m k) (wide_enough w width))) in
        let sum : fits_add (limit_of w) (revenue_below m (no_tolls m) k) (demand m k *ℚ taken_toll m (no_tolls m) k) ≡ true =
        ap₂ (fits_add (limit_of w)) (earns_nothing k) (ap (λ q. demand m k *ℚ q) paid ∙ *ℚ-zero (demand m k)) ∙ zero_adds in
        rw (product, sum) refl

    commodity_yes : (k : ℕ) → commodity_fits (limit_of w) m (no_tolls m) k ≡ true
    commodity_yes k =
        let all : list_all (path_fits (limit_of w) m (no_tolls m) k) (paths m k) ≡ true =
        all_range (path_fits (limit_of w) m (no_tolls m) k) 0 (path_count m k) (λ q l u. path_yes k q) in
        let revenue : revenue_fits (limit_of w) m (no_tolls m) k ≡ true = revenue_yes k in
        rw (all, revenue) refl

    pub zero_reply_fits : reply_stop (limit_of w) m (no_tolls m) ≡ None
    zero_reply_fits =
        first_below_clear (λ k. cond (commodity_fits (limit_of w) m (no_tolls m) k) None (Some k)) (length m.covers)
        (λ k l. ap (λ b. cond b None (Some k)) (commodity_yes k))
