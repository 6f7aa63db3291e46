-- The offer that is taken among the first paths of a commodity.
use Rattle.std.proofs.Common.{◌≡◌, inl, inr, eq-or-lt_of_le, le_of_suc-le-suc, ℕ, suc, ◌+◌, ◌<◌, true, false, List, sym, ap, ◌∙◌, subst, arith}
use Rattle.std.specs.List.{list_all}
use Rattle.npp_frac.specs.Rational.{Rational}
use Rattle.npp_rows.specs.PathModel.{PathModel, path_count, paths}
use Rattle.npp_rows.specs.Response.{path_fits, path_toll, path_price, taken_path, taken_toll}
use Rattle.npp_inverse.specs.Offers.{IsOffer, IsBetter, IsNoWorse, IsFirstBest}
use Rattle.npp_inverse.proofs.OfferLaws.{only_one, better_next, worse_next, takes_first, all_range, not_all_range}

-- of the first n paths of a commodity all sums fit, and path q is taken, with this offer
pub record IsTaken (limit : ℕ) (m : PathModel) (T : List Rational) (k n q : ℕ) (toll price : Rational) : Type 0 where
  pub fits : (r : ℕ) → r < n → path_fits limit m T k r ≡ true
  pub first : IsFirstBest (path_price m T k) (path_toll m T k) n q
  pub offer : IsOffer m T k q toll price

module _ (limit : ℕ) (m : PathModel) (T : List Rational) (k : ℕ) where
  pub first_taken : (q n : ℕ) (toll price : Rational) → q ≡ 0 → n ≡ 1 → true ≡ path_fits limit m T k 0 → IsOffer m T k 0 toll price → IsTaken limit m T k n q toll price
  first_taken q n toll price e f fits offer =
      rw (e, f) (record {
        fits = λ r l. (let z : r ≡ 0 = omega arith in ap (path_fits limit m T k) z ∙ sym fits);
        first = only_one (path_price m T k) (path_toll m T k);
        offer = offer;
      })

  fits_next : (n : ℕ) → ((r : ℕ) → r < n → path_fits limit m T k r ≡ true) → true ≡ path_fits limit m T k n → (r : ℕ) → r < n + 1 → path_fits limit m T k r ≡ true
  fits_next n h fits r l =
      let l' : r < suc n = omega arith in
      elim (eq-or-lt_of_le (le_of_suc-le-suc l')) [
        | inl e ↦ ap (path_fits limit m T k) e ∙ sym fits
        | inr lt ↦ h r lt
      ]

  module _ (n q next : ℕ) (toll price toll' price' : Rational) (h : IsTaken limit m T k n q toll price) (same : next ≡ n) (fits : true ≡ path_fits limit m T k n) (offer : IsOffer m T k n toll' price') where
    pub next_taken : IsBetter price' toll' price toll → IsTaken limit m T k (n + 1) next toll' price'
    next_taken b =
        let better : IsBetter (path_price m T k n) (path_toll m T k n) (path_price m T k q) (path_toll m T k q) = rw (offer.asks, offer.pays, h.offer.asks, h.offer.pays) at b in
        rw same (record { fits = fits_next n h.fits fits; first = better_next (path_price m T k) (path_toll m T k) n q h.first better; offer = offer })

    pub still_taken : IsNoWorse price toll price' toll' → IsTaken limit m T k (n + 1) q toll price
    still_taken b =
        let kept : IsNoWorse (path_price m T k q) (path_toll m T k q) (path_price m T k n) (path_toll m T k n) = rw (offer.asks, offer.pays, h.offer.asks, h.offer.pays) at b in
        record { fits = fits_next n h.fits fits; first = worse_next (path_price m T k) (path_toll m T k) n q h.first kept; offer = h.offer }

  pub path_stops : (r : ℕ) → r < path_count m k → false ≡ path_fits limit m T k r → false ≡ list_all (path_fits limit m T k) (paths m k)
  path_stops r l f = sym (not_all_range (path_fits limit m T k) 0 (path_count m k) r (omega arith) (omega (arith, l)) (sym f))

  module _ (n q : ℕ) (toll price : Rational) (h : IsTaken limit m T k n q toll price) (all : n ≡ path_count m k) where
    whole_taken : IsTaken limit m T k (path_count m k) q toll price
    whole_taken = subst (λ (i : ℕ). IsTaken limit m T k i q toll price) all h

    pub all_fit : true ≡ list_all (path_fits limit m T k) (paths m k)
    all_fit = sym (all_range (path_fits limit m T k) 0 (path_count m k) (λ r l u. whole_taken.fits r (omega (arith, u))))

    pub path_taken : q ≡ taken_path m T k
    path_taken = sym (takes_first (path_price m T k) (path_toll m T k) (path_count m k) q whole_taken.first)

    pub toll_taken : toll ≡ taken_toll m T k
    toll_taken = whole_taken.offer.pays ∙ ap (path_toll m T k) path_taken
