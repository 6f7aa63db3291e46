-- A row whose terms are taken one by one joins the sum of each of its columns, and no other.
use Rattle.std.proofs.Common.{◌≡◌, ◌≢◌, ℕ, zero, suc, ◌<◌, List, [], ◌∷◌, length, map, get_or, set, None, Result, Ok, Err, refl, sym, ◌∙◌, ap, ap₂, subst, inl, inr, arith, All, get_or-set_same, get_or-set_other, length-set}
use Rattle.std.specs.List.{AllPairs}
use Rattle.std.proofs.lemmas.List.{get_or-map, length-map, map-set}
use Rattle.std.proofs.lemmas.List.Elements.{All-head, All-tail}
use Rattle.std.proofs.lemmas.Bool.{cases_eq}
use Rattle.npp_frac.specs.Rational.{Rational, zero_ℚ, ◌+ℚ◌}
use Rattle.npp_frac.specs.Ring.{zero-+ℚ, +ℚ-zero}
use Rattle.npp_frac.specs.Fits.{FitsBelow, IsWidth, limit_of}
use Rattle.npp_frac.specs.Sums.{sum_by, unit, unit_other, unit_same}
use Rattle.npp_frac.specs.declared.refusal.Overflow.{Overflow}
use Rattle.npp_lp.specs.Programs.{Term}
use Rattle.npp_lp.specs.Duals.{coefficient}
use Rattle.npp_lp.specs.ZeroSums.{joined_sum-zero_left}
use Rattle.npp_lp.specs.Meaning.{sum_result}
use Rattle.npp_lp.specs.RunningSums.{Sums, sums_meant, column_of, joined, first_negative_row, with_term, with_terms, with_right, SumsFit, AreEmpty, TakesRow}
use Rattle.npp_lp.specs.RunningSumsLaws.{joined_below}

fit_at : {N : Type 0} (value : N → Rational) (m : ℕ) → ((x : N) → FitsBelow m (value x)) → (xs : List (Result N (Overflow N))) (j : ℕ) (t : Rational) → j < length xs → get_or (map (sum_result value) xs) j (Ok zero_ℚ) ≡ Ok t → FitsBelow m t
fit_at value m fits [] j t l e = absurd (omega arith)
fit_at value m fits (Ok x ∷ xs) zero t l e = subst (FitsBelow m) (let same : value x ≡ t = cc in same) (fits x)
fit_at value m fits (Err o ∷ xs) zero t l e = cc
fit_at value m fits (r ∷ xs) (suc j) t l e = fit_at value m fits xs j t (omega arith) e

-- the sums of the code fit
pub meant_fit : {N : Type 0} (value : N → Rational) (m : ℕ) → ((x : N) → FitsBelow m (value x)) → (s : Sums N) → SumsFit m (sums_meant value s)
meant_fit value m fits s = record { columns = λ j l t e. fit_at value m fits s.columns j t (rw (length-map s.columns (sum_result value)) at l) e }

absent : (ts : List Term) (j : ℕ) → All (λ t. j < t.column) ts → coefficient ts j ≡ zero_ℚ
unfolding sum_by
absent [] j h = refl
absent (t ∷ ts) j h = ap₂ ◌+ℚ◌ (unit_other t.column j t.value (λ e. (let l : j < t.column = All-head (λ u. j < u.column) t ts h in omega arith))) (absent ts j (All-tail (λ u. j < u.column) t ts h)) ∙ zero-+ℚ zero_ℚ

-- a coefficient of 0 changes no sum
joined-no_coefficient : (w : ℕ) (r : Result Rational (Overflow Rational)) (a b : Rational) → IsWidth w → ((t : Rational) → r ≡ Ok t → FitsBelow (limit_of w) t) → a ≡ zero_ℚ → joined (limit_of w) r a b ≡ r
joined-no_coefficient w (Ok s) a b wide fits e = joined_sum-zero_left w s a b wide (fits s refl) e
joined-no_coefficient w (Err o) a b wide fits e = refl

module _ (w : ℕ) (wide : IsWidth w) (y : Rational) where
  here : (s : Sums Rational) (t : Term) → t.column < length s.columns → column_of (with_term (limit_of w) s t y) t.column ≡ joined (limit_of w) (column_of s t.column) t.value y
  here s t l = get_or-set_same s.columns t.column (joined (limit_of w) (column_of s t.column) t.value y) (Ok zero_ℚ) l

  there : (s : Sums Rational) (t : Term) (j : ℕ) → j ≢ t.column → column_of (with_term (limit_of w) s t y) j ≡ column_of s j
  there s t j h = get_or-set_other s.columns t.column j (joined (limit_of w) (column_of s t.column) t.value y) (Ok zero_ℚ) h

  size : (s : Sums Rational) (t : Term) → length (with_term (limit_of w) s t y).columns ≡ length s.columns
  size s t = length-set s.columns t.column (joined (limit_of w) (column_of s t.column) t.value y)

  fit : (s : Sums Rational) (t : Term) → t.column < length s.columns → SumsFit (limit_of w) s → SumsFit (limit_of w) (with_term (limit_of w) s t y)
  fit s t l fits = record {
    columns = λ j k q e. elim (cases_eq j t.column) [
      | inl same ↦ joined_below (limit_of w) (column_of s t.column) t.value y q (sym (here s t l) ∙ ap (column_of (with_term (limit_of w) s t y)) (sym same) ∙ e)
      | inr other ↦ fits.columns j (rw (size s t) at k) q (sym (there s t j other) ∙ e)
    ];
  }

  -- one term, and the terms of the other columns
  one_term : (s : Sums Rational) (t : Term) (ts : List Term) (j : ℕ) → j < length s.columns → t.column < length s.columns → SumsFit (limit_of w) s → All (λ u. t.column < u.column) ts
      → joined (limit_of w) (column_of (with_term (limit_of w) s t y) j) (coefficient ts j) y ≡ joined (limit_of w) (column_of s j) (coefficient (t ∷ ts) j) y
  unfolding sum_by
  one_term s t ts j l k fits above = elim (cases_eq j t.column) [
    | inl same ↦ (
        let none : coefficient ts j ≡ zero_ℚ = ap (coefficient ts) same ∙ absent ts t.column above in
        let alone : coefficient (t ∷ ts) j ≡ t.value = ap₂ ◌+ℚ◌ (ap (unit t.column t.value) same ∙ unit_same t.column t.value) none ∙ +ℚ-zero t.value in
        joined-no_coefficient w (column_of (with_term (limit_of w) s t y) j) (coefficient ts j) y wide ((fit s t k fits).columns j (rw (size s t) l)) none
        ∙ ap (column_of (with_term (limit_of w) s t y)) same ∙ here s t k
        ∙ ap₂ (λ r a. joined (limit_of w) r a y) (ap (column_of s) (sym same)) (sym alone))
    | inr other ↦ (
        let rest : coefficient (t ∷ ts) j ≡ coefficient ts j = ap (λ q. q +ℚ coefficient ts j) (unit_other t.column j t.value (λ e. other (sym e))) ∙ zero-+ℚ (coefficient ts j) in
        ap₂ (λ r a. joined (limit_of w) r a y) (there s t j other) (sym rest))
  ]

  pub size_kept : (ts : List Term) (s : Sums Rational) → length (with_terms (limit_of w) s ts y).columns ≡ length s.columns
  size_kept [] s = refl
  size_kept (t ∷ ts) s = size_kept ts (with_term (limit_of w) s t y) ∙ size s t

  negative_kept : (ts : List Term) (s : Sums Rational) → (with_terms (limit_of w) s ts y).negative ≡ s.negative
  negative_kept [] s = refl
  negative_kept (t ∷ ts) s = negative_kept ts (with_term (limit_of w) s t y)

  right_kept : (ts : List Term) (s : Sums Rational) → (with_terms (limit_of w) s ts y).right ≡ s.right
  right_kept [] s = refl
  right_kept (t ∷ ts) s = right_kept ts (with_term (limit_of w) s t y)

  columns_joined : (ts : List Term) (s : Sums Rational) → AllPairs (λ t u. t.column < u.column) ts → All (λ t. t.column < length s.columns) ts → SumsFit (limit_of w) s → (j : ℕ) → j < length s.columns → column_of (with_terms (limit_of w) s ts y) j ≡ joined (limit_of w) (column_of s j) (coefficient ts j) y
  columns_joined [] s rise within fits j l = sym (joined-no_coefficient w (column_of s j) (coefficient [] j) y wide (fits.columns j l) (absent [] j (λ k d h. absurd (omega arith))))
  columns_joined (t ∷ ts) s rise within fits j l =
      let k : t.column < length s.columns = All-head (λ u. u.column < length s.columns) t ts within in
      columns_joined ts (with_term (limit_of w) s t y) (λ a b d p q. rise (suc a) (suc b) d (omega arith) (omega arith)) (rw (size s t) (All-tail (λ u. u.column < length s.columns) t ts within)) (fit s t k fits) j (rw (size s t) l)
      ∙ one_term s t ts j l k fits (λ a d p. rise 0 (suc a) d (omega arith) (omega arith))

  -- a row is taken by its terms and its right side
  pub row_taken : (s : Sums Rational) (row : ℕ) (ts : List Term) (b : Rational) → AllPairs (λ t u. t.column < u.column) ts → All (λ t. t.column < length s.columns) ts → SumsFit (limit_of w) s → TakesRow (limit_of w) s (with_right (limit_of w) (with_terms (limit_of w) s ts y) row b y) row ts b y
  row_taken s row ts b rise within fits = record {
    size = size_kept ts s;
    negative = ap (λ o. first_negative_row o row y) (negative_kept ts s);
    columns = columns_joined ts s rise within fits;
    right = ap (λ r. joined (limit_of w) r b y) (right_kept ts s);
  }

-- the sum of a column that is read
pub column_read : {N : Type 0} (value : N → Rational) (s : Sums N) (r : Result N (Overflow N)) (j : ℕ) → j < length s.columns → r ≡ get_or s.columns j r → column_of (sums_meant value s) j ≡ sum_result value r
column_read value s r j l is = get_or-map (sum_result value) s.columns j r (Ok zero_ℚ) l ∙ ap (sum_result value) (sym is)

-- a term is taken where the code writes the sum of its column
pub term_taken : {N : Type 0} (value : N → Rational) (m : ℕ) (s : Sums N) (old new : Result N (Overflow N)) (column : ℕ) (a y : Rational) → column < length s.columns → old ≡ get_or s.columns column old → sum_result value new ≡ joined m (sum_result value old) a y
    → sums_meant value (record { negative = s.negative; columns = set s.columns column new; right = s.right }) ≡ with_term m (sums_meant value s) (record { column = column; value = a }) y
term_taken value m s old new column a y l is made =
    let read : column_of (sums_meant value s) column ≡ sum_result value old = column_read value s old column l is in
    ap (λ xs. record { negative = s.negative; columns = xs; right = sum_result value s.right })
    (map-set (sum_result value) s.columns column new ∙ ap (λ r. set (map (sum_result value) s.columns) column r) (made ∙ ap (λ r. joined m r a y) (sym read)))

empty_at : {N : Type 0} (value : N → Rational) (xs : List (Result N (Overflow N))) (j : ℕ) → j < length xs → All (λ r. sum_result value r ≡ Ok zero_ℚ) xs → get_or (map (sum_result value) xs) j (Ok zero_ℚ) ≡ Ok zero_ℚ
empty_at value [] j l all = absurd (omega arith)
empty_at value (r ∷ xs) zero l all = All-head (λ s. sum_result value s ≡ Ok zero_ℚ) r xs all
empty_at value (r ∷ xs) (suc j) l all = empty_at value xs j (omega arith) (All-tail (λ s. sum_result value s ≡ Ok zero_ℚ) r xs all)

-- sums that are all of no products
pub all_empty : {N : Type 0} (value : N → Rational) (n : ℕ) (s : Sums N) → length s.columns ≡ n → All (λ r. sum_result value r ≡ Ok zero_ℚ) s.columns → s.negative ≡ None → sum_result value s.right ≡ Ok zero_ℚ → AreEmpty n (sums_meant value s)
all_empty value n s size all negative right = record {
  size = length-map s.columns (sum_result value) ∙ size;
  negative = negative;
  columns = λ j l. empty_at value s.columns j (omega arith) all;
  right = right;
}
