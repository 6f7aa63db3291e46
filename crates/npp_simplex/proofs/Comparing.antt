-- The steps of one comparison of the ratio test.
use Rattle.std.proofs.Common.{◌≡◌, ℕ, zero, suc, ◌+◌, ◌<◌, ◌≤◌, List, [], ◌∷◌, ◌++◌, map, length, get_or, take, set, slice_index, Bool, true, false, cond, not, Option, Some, None, ◌⊎◌, inl, inr, arith, ap, ap₂, sym, ◌∙◌, refl, subst, eq-or-lt_of_le}
use Rattle.std.specs.List.{range_with_len, filter, list_all}
use Rattle.std.proofs.Math.Seq.{take-length}
use Rattle.std.proofs.lemmas.List.{get_or-set_other, take_more, map-append, get_or_default}
use Rattle.std.proofs.lemmas.List.Elements.{filter-append}
use Rattle.std.proofs.lemmas.List.Sums.{AllPass-from_list_all, list_all-from_AllPass}
use Rattle.std.proofs.lemmas.Grind.{take-set_at}
use Rattle.npp_frac.specs.Rational.{Rational, is_less, ◌≤ℚ◌}
use Rattle.npp_frac.specs.Order.{≤ℚ_trans, is_less_no, is_less_of_≤ℚ}
use Rattle.npp_lp.specs.Programs.{at}
use Rattle.npp_lp.specs.Verdict.{first_below}
use Rattle.npp_lp.specs.VerdictLaws.{first_below_more, first_below_found}
use Rattle.npp_simplex.specs.declared.stage.Stage.{Stage}
use Rattle.npp_simplex.specs.declared.place.Place.{Place}
use Rattle.npp_simplex.specs.declared.place.Step.TheVariants.{Ratio}
use Rattle.npp_simplex.specs.Tableau.{Tableau}
use Rattle.npp_simplex.specs.Ratio.{least_rows}
use Rattle.npp_simplex.specs.Places.{place_unless, quotient_fits, quotient_stop, quotients_stop}
use Rattle.npp_simplex.specs.Meaning.{IsLeastOf, rows_up_to}
use Rattle.npp_simplex.proofs.Reading.{range_upto, filter_yes, filter_no}
use Rattle.npp_simplex.proofs.RatioLemmas.{some_least_row}

module _ (limit : Option ℕ) (s : Stage) (t : Tableau) (c key : ℕ) (xs : List ℕ) where
  abbrev stop_at : ℕ → Option Place
  stop_at k = quotient_stop limit s t c key (slice_index xs k)

  abbrev place_at : ℕ → Place
  place_at k = record { step = Ratio; row = slice_index xs k; column = key }

  pub stop_found : (j : ℕ) → j < length xs → first_below j stop_at ≡ None → false ≡ quotient_fits limit s t c key (slice_index xs j) → quotients_stop limit s t c key xs ≡ Some (place_at j)
  stop_found j l none fails = first_below_found stop_at (length xs) j (place_at j) l none (ap (λ b. place_unless b (place_at j)) (sym fails))

  pub stop_more : (j : ℕ) → first_below j stop_at ≡ None → true ≡ quotient_fits limit s t c key (slice_index xs j) → first_below (j + 1) stop_at ≡ None
  stop_more j none holds = first_below_more stop_at j none (ap (λ b. place_unless b (place_at j)) (sym holds))

-- ---- the least number

-- one of the first n numbers, and not above any of them
pub record IsLeastUpTo (xs : List Rational) (n : ℕ) (q : Rational) : Type 0 where
  pub attained : (k : ℕ) × (k < n) × (at xs k ≡ q)
  pub bound : (k : ℕ) → k < n → q ≤ℚ at xs k

pub least_more : (xs : List Rational) (n : ℕ) (q x r : Rational) → IsLeastUpTo xs n q → at xs n ≡ x → (r ≡ q) ⊎ (r ≡ x) → r ≤ℚ q → r ≤ℚ x → IsLeastUpTo xs (n + 1) r
least_more xs n q x r h here one low_q low_x =
    let a = h.attained in
    record {
      attained = elim one [
        | inl e ↦ (a.0, omega (arith, a.1), a.2 ∙ sym e)
        | inr e ↦ (n, omega arith, here ∙ sym e)
      ];
      bound = λ k less. elim (eq-or-lt_of_le (let le : k ≤ n = omega arith in le)) [
        | inl e ↦ subst (λ p. r ≤ℚ p) (sym (ap (at xs) e ∙ here)) low_x
        | inr below ↦ ≤ℚ_trans low_q (h.bound k below)
      ];
    }

-- ---- keeping rows

module _ (first : List ℕ) (p : ℕ → Bool) where
  pub kept_row : (xs ys : List ℕ) (k l s x : ℕ) → k ≤ s → s < length xs → take k xs ≡ map (slice_index first) (filter p (range_with_len 0 s)) → p s ≡ true → x ≡ slice_index first s → ys ≡ set xs k x → l ≡ k + 1 → take l ys ≡ map (slice_index first) (filter p (range_with_len 0 (s + 1)))
  kept_row xs ys k l s x le lt e holds here is more =
      ap (take l) is ∙ take-set_at xs k l x more (omega arith) ∙ ap₂ (λ a b. a ++ b ∷ []) e here
      ∙ sym (ap (map (slice_index first)) (filter_yes p s holds) ∙ map-append (slice_index first) (filter p (range_with_len 0 s)) (s ∷ []))

  pub passed_row : (xs ys : List ℕ) (k l s : ℕ) → take k xs ≡ map (slice_index first) (filter p (range_with_len 0 s)) → p s ≡ false → ys ≡ xs → l ≡ k → take l ys ≡ map (slice_index first) (filter p (range_with_len 0 (s + 1)))
  passed_row xs ys k l s e fails is same = ap₂ take same is ∙ e ∙ ap (map (slice_index first)) (sym (filter_no p s fails))

  pub rest_kept : (xs ys : List ℕ) (k s x : ℕ) → k ≤ s → ((i : ℕ) → s ≤ i → slice_index xs i ≡ slice_index first i) → ys ≡ set xs k x → (i : ℕ) → s + 1 ≤ i → slice_index ys i ≡ slice_index first i
  rest_kept xs ys k s x le h is i l = ap (λ t. slice_index t i) is ∙ get_or-set_other xs k i x 0 (λ e. omega arith) ∙ h i (omega arith)

  pub rest_same : (xs ys : List ℕ) (s : ℕ) → ((i : ℕ) → s ≤ i → slice_index xs i ≡ slice_index first i) → ys ≡ xs → (i : ℕ) → s + 1 ≤ i → slice_index ys i ≡ slice_index first i
  rest_same xs ys s h is i l = ap (λ t. slice_index t i) is ∙ h i (omega arith)

-- ---- the rows that remain are those with the least number

one_test : (a b : Bool) (rows : List ℕ) (n : ℕ) → a ≡ b → map (slice_index rows) (cond a (n ∷ []) []) ≡ cond b (slice_index rows n ∷ []) []
one_test true true rows n e = refl
one_test true false rows n e = cc
one_test false true rows n e = cc
one_test false false rows n e = refl

-- a test of the places of a list is a test of its elements
by_place : (rows : List ℕ) (p q : ℕ → Bool) (n : ℕ) → n ≤ length rows → ((k : ℕ) → k < n → p k ≡ q (slice_index rows k)) → map (slice_index rows) (filter p (range_with_len 0 n)) ≡ filter q (take n rows)
by_place rows p q zero le h = refl
by_place rows p q (suc n) le h =
    ap (λ m. map (slice_index rows) (filter p (range_with_len 0 m))) (let e : suc n ≡ n + 1 = omega arith in e)
    ∙ ap (map (slice_index rows)) (ap (filter p) (range_upto n) ∙ filter-append p (range_with_len 0 n) (n ∷ []))
    ∙ map-append (slice_index rows) (filter p (range_with_len 0 n)) (filter p (n ∷ []))
    ∙ ap₂ ◌++◌ (by_place rows p q n (omega arith) (λ k l. h k (omega arith))) (one_test (p n) (q (slice_index rows n)) rows n (h n (omega arith)))
    ∙ sym (filter-append q (take n rows) (slice_index rows n ∷ []))
    ∙ ap (filter q) (sym (take_more rows n 0 (omega arith)))
    ∙ ap (λ m. filter q (take m rows)) (let e : n + 1 ≡ suc n = omega arith in e)

all_fails : (p : ℕ → Bool) (rows : List ℕ) (k : ℕ) → k < length rows → p (slice_index rows k) ≡ false → (b : Bool) → b ≡ list_all p rows → b ≡ false
all_fails p rows k l fails false e = refl
all_fails p rows k l fails true e =
    let holds : p (slice_index rows k) ≡ true = AllPass-from_list_all p rows (sym e) k 0 l in
    let clash : true ≡ false = sym holds ∙ fails in
    cc

module _ (number : ℕ → Rational) (rows : List ℕ) (xs : List Rational) (q : Rational) (size : length xs ≡ length rows) (h : IsLeastOf xs q) (same : (k : ℕ) → k < length rows → at xs k ≡ number (slice_index rows k)) where
  least_by : (b : Bool) (j : ℕ) → j < length rows → b ≡ is_less q (at xs j) → not b ≡ list_all (λ k. not (is_less (number k) (number (slice_index rows j)))) rows
  least_by true j l e =
      let k = h.attained.0 in
      let kl : k < length rows = omega (arith, h.attained.1, size) in
      let value : number (slice_index rows k) ≡ q = sym (same k kl) ∙ h.attained.2 in
      let above : is_less (number (slice_index rows k)) (number (slice_index rows j)) ≡ true = ap₂ is_less value (sym (same j l)) ∙ sym e in
      sym (all_fails (λ k. not (is_less (number k) (number (slice_index rows j)))) rows k kl (ap not above) (list_all (λ k. not (is_less (number k) (number (slice_index rows j)))) rows) refl)
  least_by false j l e =
      let low : at xs j ≤ℚ q = is_less_no q (at xs j) (sym e) in
      sym (list_all-from_AllPass (λ k. not (is_less (number k) (number (slice_index rows j)))) rows (λ k d kl.
      let value : number (get_or rows k d) ≡ at xs k = ap number (get_or_default rows k d 0 kl) ∙ sym (same k kl) in
      let bound : q ≤ℚ at xs k = h.bound k (omega (arith, kl, size)) in
      ap not (ap₂ is_less value (sym (same j l)) ∙ is_less_of_≤ℚ (at xs k) (at xs j) (≤ℚ_trans low bound))))

  pub kept_are_least : rows_up_to q xs rows ≡ least_rows number rows
  kept_are_least =
      let all : ℕ → Bool = λ i. list_all (λ k. not (is_less (number k) (number i))) rows in
      by_place rows (λ k. not (is_less q (at xs k))) all (length rows) (omega arith) (λ j l. least_by (is_less q (at xs j)) j l refl)
      ∙ ap (filter all) (take-length rows)

-- some row is kept
pub some_kept : (number : ℕ → Rational) (rows ys : List ℕ) (n : ℕ) → 0 < length rows → take n ys ≡ least_rows number rows → 0 < n
some_kept number rows ys zero some e = omega (arith, some_least_row number rows some, ap length e)
some_kept number rows ys (suc n) some e = omega arith
