-- Keys at which each row has 0: all of the rows remain there.
use Rattle.std.proofs.Common.{◌≡◌, ℕ, zero, suc, ◌+◌, ◌-◌, ◌<◌, ◌≤◌, List, [], ◌∷◌, length, get_or, slice_index, Bool, true, not, Option, Some, None, Ok, arith, ap, ap₂, sym, ◌∙◌, refl}
use Rattle.std.specs.List.{range_with_len, filter, list_all, All, AllPass}
use Rattle.std.proofs.lemmas.List.{get_or_default}
use Rattle.std.proofs.lemmas.List.Sums.{list_all-from_AllPass}
use Rattle.npp_frac.specs.Rational.{Rational, zero_ℚ, is_less, ◌/ℚ◌}
use Rattle.npp_frac.specs.Fits.{IsWidth, limit_of, fits_div}
use Rattle.npp_frac.specs.Order.{≤ℚ_of_≡, is_less_of_≤ℚ}
use Rattle.npp_frac.specs.ZeroLaws.{fits_div-zero, zero-/ℚ}
use Rattle.npp_lp.specs.VerdictLaws.{first_below_clear}
use Rattle.npp_simplex.specs.declared.stage.Stage.{Stage}
use Rattle.npp_simplex.specs.declared.stage.Stage.TheVariants.{Entry, PhaseOne, PhaseTwo}
use Rattle.npp_simplex.specs.declared.place.Step.TheVariants.{Ratio}
use Rattle.npp_simplex.specs.Tableau.{Tableau, cell}
use Rattle.npp_simplex.specs.Ratio.{compared, least_rows}
use Rattle.npp_simplex.specs.Places.{place_unless, quotient_fits, quotient_stop, quotients_stop, remaining}
use Rattle.npp_simplex.proofs.Refining.{StandsAt, range_next, remains_more}

filter_all : (p : ℕ → Bool) (xs : List ℕ) → AllPass p xs → filter p xs ≡ xs
filter_all p [] h = refl
filter_all p (x ∷ xs) h =
    let first : p x ≡ true = h 0 x (omega arith) in
    rw first (ap (λ l. x ∷ l) (filter_all p xs (λ k d l. h (suc k) d (omega arith))))

-- rows with the same number all have the least
same_least : (number : ℕ → Rational) (q : Rational) (rows : List ℕ) → All (λ i. number i ≡ q) rows → least_rows number rows ≡ rows
same_least number q rows same =
    filter_all (λ i. list_all (λ k. not (is_less (number k) (number i))) rows) rows (λ k d l.
    list_all-from_AllPass (λ j. not (is_less (number j) (number (get_or rows k d)))) rows (λ j e m.
    ap not (ap₂ is_less (same j e m) (same k d l) ∙ is_less_of_≤ℚ q q (≤ℚ_of_≡ refl))))

zero_compared : (s : Stage) (t : Tableau) (c k i : ℕ) → cell t i k ≡ zero_ℚ → compared s t c k i ≡ zero_ℚ
zero_compared Entry t c k i e = e
zero_compared PhaseOne t c k i e = ap (λ q. q /ℚ cell t i c) e ∙ zero-/ℚ (cell t i c)
zero_compared PhaseTwo t c k i e = ap (λ q. q /ℚ cell t i c) e ∙ zero-/ℚ (cell t i c)

zero_fits : (w : ℕ) → IsWidth w → (s : Stage) (t : Tableau) (c k i : ℕ) → cell t i k ≡ zero_ℚ → quotient_fits (Some (limit_of w)) s t c k i ≡ true
zero_fits w h Entry t c k i e = refl
zero_fits w h PhaseOne t c k i e = ap (λ q. fits_div (limit_of w) q (cell t i c)) e ∙ sym (fits_div-zero w (cell t i c) h)
zero_fits w h PhaseTwo t c k i e = ap (λ q. fits_div (limit_of w) q (cell t i c)) e ∙ sym (fits_div-zero w (cell t i c) h)

module _ (w : ℕ) (h : IsWidth w) (s : Stage) (t : Tableau) (c : ℕ) where
  zero_stop : (k : ℕ) (rows : List ℕ) → ((i : ℕ) → i < length rows → cell t (slice_index rows i) k ≡ zero_ℚ) → quotients_stop (Some (limit_of w)) s t c k rows ≡ None
  zero_stop k rows zeros = first_below_clear (λ i. quotient_stop (Some (limit_of w)) s t c k (slice_index rows i)) (length rows) (λ i l.
      ap (λ b. place_unless b (record { step = Ratio; row = slice_index rows i; column = k })) (zero_fits w h s t c k (slice_index rows i) (zeros i l)))

  zero_least : (k : ℕ) (rows : List ℕ) → ((i : ℕ) → i < length rows → cell t (slice_index rows i) k ≡ zero_ℚ) → least_rows (compared s t c k) rows ≡ rows
  zero_least k rows zeros = same_least (compared s t c k) zero_ℚ rows (λ i d l.
      ap (compared s t c k) (get_or_default rows i d 0 l) ∙ zero_compared s t c k (slice_index rows i) (zeros i l))

  -- the n keys from a on, at which each row has 0, are passed over
  pub remains_past : (n a e : ℕ) (rows : List ℕ) → 2 ≤ length rows → a + n ≤ e
      → ((i j : ℕ) → i < length rows → a ≤ j → j < a + n → cell t (slice_index rows i) j ≡ zero_ℚ)
      → remaining (Some (limit_of w)) s t c (range_with_len a (e - a)) rows ≡ remaining (Some (limit_of w)) s t c (range_with_len (a + n) (e - (a + n))) rows
  remains_past zero a e rows two within zeros =
      ap (λ b. remaining (Some (limit_of w)) s t c (range_with_len b (e - b)) rows) (let same : a ≡ a + 0 = omega arith in same)
  remains_past (suc n) a e rows two within zeros =
      let here : (i : ℕ) → i < length rows → cell t (slice_index rows i) a ≡ zero_ℚ = λ i l. zeros i a l (omega arith) (omega arith) in
      let rest = range_with_len (a + 1) (e - (a + 1)) in
      ap (λ ks. remaining (Some (limit_of w)) s t c ks rows) (range_next a e (omega arith))
      ∙ remains_more (Some (limit_of w)) s t c a rest rows two (zero_stop a rows here)
      ∙ ap (remaining (Some (limit_of w)) s t c rest) (zero_least a rows here)
      ∙ remains_past n (a + 1) e rows two (omega arith) (λ i j l from below. zeros i j l (omega arith) (omega arith))
      ∙ ap (λ b. remaining (Some (limit_of w)) s t c (range_with_len b (e - b)) rows) (let same : a + 1 + n ≡ a + suc n = omega arith in same)

  -- so the rows that are left at key a are left at key b
  pub stands_past : (keys rows left : List ℕ) (a b e : ℕ) → 2 ≤ length left → a ≤ b → b ≤ e
      → ((i j : ℕ) → i < length left → a ≤ j → j < b → cell t (slice_index left i) j ≡ zero_ℚ)
      → StandsAt (Some (limit_of w)) s t c keys rows a e left → StandsAt (Some (limit_of w)) s t c keys rows b e left
  stands_past keys rows left a b e two from within zeros stands = record {
    some = stands.some;
    candidates = stands.candidates;
    rest =
        let same : b ≡ a + (b - a) = omega arith in
        ap (λ k. remaining (Some (limit_of w)) s t c (range_with_len k (e - k)) left) same
        ∙ sym (remains_past (b - a) a e left two (omega arith) (λ i j l low below. zeros i j l low (omega arith)))
        ∙ stands.rest;
  }

remains_at_none : (limit : Option ℕ) (s : Stage) (t : Tableau) (c : ℕ) (rows : List ℕ) → remaining limit s t c [] rows ≡ Ok (slice_index rows 0)
remains_at_none limit s t c [] = refl
remains_at_none limit s t c (i ∷ []) = refl
remains_at_none limit s t c (i ∷ j ∷ rows) = refl

-- past the last key the first of the rows is the one that remains
pub remains_end : (limit : Option ℕ) (s : Stage) (t : Tableau) (c e : ℕ) (rows : List ℕ) → remaining limit s t c (range_with_len e (e - e)) rows ≡ Ok (slice_index rows 0)
remains_end limit s t c e rows =
    let none : e - e ≡ 0 = omega arith in
    ap (λ n. remaining limit s t c (range_with_len e n) rows) none ∙ remains_at_none limit s t c rows
