-- How the vectors that are read off a table read at a place.
use Rattle.std.proofs.Common.{◌≡◌, ◌≢◌, ℕ, zero, suc, ◌+◌, ◌<◌, List, length, Bool, true, false, cond, nat_eq, Option, Some, None, arith, ap, ap₂, sym, ◌∙◌, refl, subst, inl, inr, eq-eqb, ne_eqb}
use Rattle.std.specs.Prelude.{slice_index}
use Rattle.std.proofs.lemmas.List.{get_or_default}
use Rattle.std.proofs.lemmas.List.FromFn.{get_or-map-range_with_len, length-map-range_with_len}
use Rattle.std.proofs.lemmas.Bool.{cases_order}
use Rattle.std.proofs.lemmas.Bool.Decides.{nat_tests}
use Rattle.npp_frac.specs.Rational.{Rational, zero_ℚ, one_ℚ, negative, ◌+ℚ◌, ◌≤ℚ◌}
use Rattle.npp_frac.specs.Ring.{zero-+ℚ, +ℚ-zero}
use Rattle.npp_frac.specs.Sums.{sum_to, unit, unit_same, unit_other}
use Rattle.npp_lp.specs.Programs.{at, AreNotNegative}
use Rattle.npp_lp.specs.Verdict.{or_else, first_below}
use Rattle.npp_simplex.specs.Tableau.{Tableau, cell, right_column}
use Rattle.npp_simplex.specs.Vectors.{basic_row, basic_value, point, multipliers, ray_value, ray}
use Rattle.npp_simplex.proofs.Sums.{sum_to_none}
use Rattle.npp_simplex.proofs.DoubleSums.{basic_weights}
use Rattle.npp_simplex.proofs.FirstPlaces.{first_found, some_if}

-- a list without a number below 0, place by place
pub not_negative_at : (xs : List Rational) → ((i : ℕ) → i < length xs → zero_ℚ ≤ℚ at xs i) → AreNotNegative xs
not_negative_at xs h i d l = let P : Rational → Type 0 = λ q. zero_ℚ ≤ℚ q in subst P (get_or_default xs i zero_ℚ d l) (h i l)

-- ---- the row of a basic column

-- the row, where the column is basic in it
abbrev row_test : (ℕ → ℕ) → ℕ → ℕ → Option ℕ
row_test basis j i = cond (nat_eq (basis i) j) (Some i) None

found_row : (basis : ℕ → ℕ) (j m i : ℕ) → first_below m (row_test basis j) ≡ Some i → (i < m) × (basis i ≡ j)
found_row basis j m i e =
    let found : (k : ℕ) × (k < m) × (row_test basis j k ≡ Some i) = first_found (row_test basis j) m i e in
    let test : (nat_eq (basis found.0) j ≡ true) × (found.0 ≡ i) = some_if (nat_eq (basis found.0) j) found.0 i found.2 in
    let same : basis found.0 ≡ j = let yes : nat_eq (basis found.0) j ≡ true = test.0 in grind (arith, nat_tests) in
    (omega (arith, found.1, test.1), ap basis (sym test.1) ∙ same)

one_more : (a : ℕ → Rational) (o : Option ℕ) (m : ℕ) (t : Bool) (s : Rational) → basic_value a o ≡ s → ((i : ℕ) → o ≡ Some i → t ≡ false) → basic_value a (or_else o (cond t (Some m) None)) ≡ s +ℚ cond t (a m) zero_ℚ
one_more a None m true s e h = sym (zero-+ℚ (a m)) ∙ ap (λ z. z +ℚ a m) e
one_more a None m false s e h = e ∙ sym (+ℚ-zero s)
one_more a (Some i) m t s e h = e ∙ sym (ap (λ b. s +ℚ cond b (a m) zero_ℚ) (h i refl) ∙ +ℚ-zero s)

-- where no column is basic in two rows, a number of the basic row is a sum over all rows
pub basic_value_sum : (m : ℕ) (basis : ℕ → ℕ) (a : ℕ → Rational) (j : ℕ) → ((i k : ℕ) → i < m → k < m → basis i ≡ basis k → i ≡ k) → basic_value a (first_below m (row_test basis j)) ≡ basic_weights m basis a j
unfolding sum_to
basic_value_sum zero basis a j different = refl
basic_value_sum (suc m) basis a j different =
    one_more a (first_below m (row_test basis j)) m (nat_eq (basis m) j) (basic_weights m basis a j) (basic_value_sum m basis a j (λ i k il kl e. different i k (omega arith) (omega arith) e)) (λ i e.
    let found : (i < m) × (basis i ≡ j) = found_row basis j m i e in
    ne_eqb (basis m) j (λ same. omega (arith, found.0, different i m (omega (arith, found.0)) (omega arith) (found.1 ∙ sym same))))

-- ---- the vectors

module _ (t : Tableau) (m n : ℕ) (rows : t.rows ≡ m) (columns : t.columns ≡ n) where
  -- the multipliers
  pub multipliers_size : (goal : ℕ) → length (multipliers t goal) ≡ m
  multipliers_size goal = length-map-range_with_len (λ k. negative (cell t goal (t.columns + k))) 0 t.rows ∙ rows

  pub multipliers_at : (goal k : ℕ) → k < m → at (multipliers t goal) k ≡ negative (cell t goal (n + k))
  multipliers_at goal k l =
      get_or-map-range_with_len (λ k. negative (cell t goal (t.columns + k))) 0 t.rows k k zero_ℚ (omega (arith, rows)) (omega arith)
      ∙ ap (λ c. negative (cell t goal (c + k))) columns

  module _ (basis : List ℕ) (size : length basis ≡ m) (different : (i k : ℕ) → i < m → k < m → slice_index basis i ≡ slice_index basis k → i ≡ k) where
    basic_at : (a : ℕ → Rational) (j : ℕ) → basic_value a (basic_row basis j) ≡ basic_weights m (slice_index basis) a j
    basic_at a j = ap (λ c. basic_value a (first_below c (row_test (slice_index basis) j))) size ∙ basic_value_sum m (slice_index basis) a j different

    -- the point
    pub point_size : length (point t basis) ≡ n
    point_size = length-map-range_with_len (λ j. basic_value (λ i. cell t i (right_column t)) (basic_row basis j)) 0 t.columns ∙ columns

    pub point_at : (j : ℕ) → j < n → at (point t basis) j ≡ basic_weights m (slice_index basis) (λ k. cell t k (n + m + 1)) j
    point_at j l =
        get_or-map-range_with_len (λ j. basic_value (λ i. cell t i (right_column t)) (basic_row basis j)) 0 t.columns j j zero_ℚ (omega (arith, columns)) (omega arith)
        ∙ ap₂ (λ r c. basic_value (λ i. cell t i (c + r + 1)) (basic_row basis j)) rows columns
        ∙ basic_at (λ k. cell t k (n + m + 1)) j

    -- the ray along a column that is not basic
    pub ray_size : (c : ℕ) → length (ray t basis c) ≡ n
    ray_size c = length-map-range_with_len (ray_value t basis c) 0 t.columns ∙ columns

    pub ray_at : (c : ℕ) → ((k : ℕ) → k < m → slice_index basis k ≢ c) → (j : ℕ) → j < n → at (ray t basis c) j ≡ unit c one_ℚ j +ℚ basic_weights m (slice_index basis) (λ k. negative (cell t k c)) j
    ray_at c apart j l =
        let others : Rational = basic_weights m (slice_index basis) (λ k. negative (cell t k c)) j in
        get_or-map-range_with_len (ray_value t basis c) 0 t.columns j j zero_ℚ (omega (arith, columns)) (omega arith)
        ∙ ap (λ z. cond (nat_eq j c) one_ℚ z) (basic_at (λ k. negative (cell t k c)) j)
        ∙ elim (cases_order j c) [
          | inl same ↦
              let yes : nat_eq j c ≡ true = eq-eqb j c same in
              let none : others ≡ zero_ℚ = sum_to_none m (λ k. unit (slice_index basis k) (negative (cell t k c)) j) (λ k h. unit_other (slice_index basis k) j (negative (cell t k c)) (λ e. apart k h (e ∙ same))) in
              ap (λ b. cond b one_ℚ others) yes ∙ sym (ap₂ ◌+ℚ◌ (ap (unit c one_ℚ) same ∙ unit_same c one_ℚ) none ∙ +ℚ-zero one_ℚ)
          | inr other ↦
              let apart : j ≢ c = λ e. elim other [ inl x ↦ omega arith | inr x ↦ omega arith ] in
              let no : nat_eq j c ≡ false = ne_eqb j c apart in
              ap (λ b. cond b one_ℚ others) no ∙ sym (ap (λ z. z +ℚ others) (unit_other c j one_ℚ (λ e. apart (sym e))) ∙ zero-+ℚ others)
        ]
