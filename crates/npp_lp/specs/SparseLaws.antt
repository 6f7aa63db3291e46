-- The two forms of multipliers stand for each other.
use Rattle.std.proofs.Common.{◌≡◌, ◌≢◌, ℕ, zero, suc, ◌+◌, ◌<◌, ◌≤◌, List, [], ◌∷◌, ◌++◌, length, map, Bool, true, false, cond, refl, sym, ◌∙◌, ap, ap₂, inl, inr, eq-or-lt_of_le, arith, All}
use Rattle.std.specs.List.{AllPairs, range_with_len}
use Rattle.std.proofs.lemmas.List.Elements.{All-head, All-tail, All-map}
use Rattle.std.proofs.lemmas.List.{get_or-map, length-map}
use Rattle.std.proofs.lemmas.List.FromFn.{get_or-map-range_with_len}
use Rattle.npp_frac.specs.Rational.{Rational, zero_ℚ, ◌+ℚ◌}
use Rattle.npp_frac.specs.Ring.{zero-+ℚ, +ℚ-zero}
use Rattle.npp_frac.specs.Sign.{is_zero, is_zero_yes, is_zero_of}
use Rattle.npp_frac.specs.Sums.{sum_by, unit_other, unit_same}
use Rattle.npp_lp.specs.declared.multiplier.RowMultiplier.{RowMultiplier}
use Rattle.npp_lp.specs.Programs.{at}
use Rattle.npp_lp.specs.Sparse.{AreRowMultipliers, multiplier_at, dense, sparse_from, sparse, multiplier_meant, multipliers_meant}

-- the rows rise from a to below n
abbrev pub RiseFrom : ℕ → ℕ → List (RowMultiplier Rational) → Type 0
RiseFrom a n [] = a ≤ n
RiseFrom a n (y ∷ ys) = (a ≤ y.row) × (y.row < n) × RiseFrom (y.row + 1) n ys

rise_from : (n a : ℕ) (ys : List (RowMultiplier Rational)) → a ≤ n → All (λ y. a ≤ y.row) ys → AllPairs (λ s t. s.row < t.row) ys → All (λ y. y.row < n) ys → RiseFrom a n ys
rise_from n a [] h low rise within = h
rise_from n a (y ∷ ys) h low rise within =
    let here : y.row < n = All-head (λ t. t.row < n) y ys within in (
      All-head (λ t. a ≤ t.row) y ys low,
      here,
      rise_from n (y.row + 1) ys (omega arith) (λ k d l. omega (arith, rise 0 (suc k) d (omega arith) (omega arith))) (λ i j d l k. rise (suc i) (suc j) d (omega arith) (omega arith)) (All-tail (λ t. t.row < n) y ys within),
    )

pub rise_of_multipliers : (n : ℕ) (ys : List (RowMultiplier Rational)) → AreRowMultipliers n ys → RiseFrom 0 n ys
rise_of_multipliers n ys are = rise_from n 0 ys (omega arith) (λ k d l. omega arith) are.rising are.in_range

-- no row before the first is named
pub none_before : (n a i : ℕ) (ys : List (RowMultiplier Rational)) → RiseFrom a n ys → i < a → multiplier_at ys i ≡ zero_ℚ
unfolding sum_by
none_before n a i [] rise l = refl
none_before n a i (y ∷ ys) rise l =
    ap₂ ◌+ℚ◌ (unit_other y.row i y.value (λ e. omega (arith, rise.0, e))) (none_before n (y.row + 1) i ys rise.2 (omega (arith, rise.0))) ∙ zero-+ℚ zero_ℚ

-- the first row that is named
pub first_named : (n a : ℕ) (y : RowMultiplier Rational) (ys : List (RowMultiplier Rational)) → RiseFrom a n (y ∷ ys) → multiplier_at (y ∷ ys) y.row ≡ y.value
unfolding sum_by
first_named n a y ys rise = ap₂ ◌+ℚ◌ (unit_same y.row y.value) (none_before n (y.row + 1) y.row ys rise.2 (omega arith)) ∙ +ℚ-zero y.value

-- and those behind it
pub later_named : (y : RowMultiplier Rational) (ys : List (RowMultiplier Rational)) (i : ℕ) → y.row < i → multiplier_at (y ∷ ys) i ≡ multiplier_at ys i
unfolding sum_by
later_named y ys i l = ap (λ t. t +ℚ multiplier_at ys i) (unit_other y.row i y.value (λ e. omega (arith, e))) ∙ zero-+ℚ (multiplier_at ys i)

none_named : (i : ℕ) → multiplier_at [] i ≡ zero_ℚ
unfolding sum_by
none_named i = refl

range_same : {X : Type 0} → (f g : ℕ → X) (a n : ℕ) → ((i : ℕ) → a ≤ i → f i ≡ g i) → map f (range_with_len a n) ≡ map g (range_with_len a n)
range_same f g a zero h = refl
range_same f g a (suc n) h = ap₂ (λ x xs. x ∷ xs) (h a (omega arith)) (range_same f g (a + 1) n (λ i l. h i (omega arith)))

pub at-dense : (n : ℕ) (ys : List (RowMultiplier Rational)) (i : ℕ) → i < n → at (dense n ys) i ≡ multiplier_at ys i
at-dense n ys i l = get_or-map-range_with_len (multiplier_at ys) 0 n i i zero_ℚ l (omega arith)

rise_lower : (a b n : ℕ) (ys : List (RowMultiplier Rational)) → a ≤ b → RiseFrom b n ys → RiseFrom a n ys
rise_lower a b n [] le rise = omega (arith, rise)
rise_lower a b n (y ∷ ys) le rise = (omega (arith, rise.0), rise.1, rise.2)

passed_over : {X : Type 0} → (q : Rational) (x : X) (xs : List X) → q ≡ zero_ℚ → cond (is_zero q) [] (x ∷ []) ++ xs ≡ xs
passed_over q x xs e = let zero : is_zero q ≡ true = is_zero_of q e in rw zero refl

kept : {X : Type 0} → (q : Rational) (x : X) (xs : List X) (b : Bool) → is_zero q ≡ b → q ≢ zero_ℚ → cond b [] (x ∷ []) ++ xs ≡ x ∷ xs
kept q x xs true e h = absurd (h (is_zero_yes q e))
kept q x xs false e h = refl

-- multipliers of the code name the same rows
pub rows_meant : {N : Type 0} (value : N → Rational) (n : ℕ) (ys : List (RowMultiplier N)) → AreRowMultipliers n ys → AreRowMultipliers n (multipliers_meant value ys)
rows_meant value n [] are = record { rising = λ i j d l k. absurd (omega arith); in_range = λ k d l. absurd (omega arith) }
rows_meant value n (y ∷ ys) are = record {
  rising = λ i j d l k.
      let within : j < length (y ∷ ys) = omega (arith, length-map ys (multiplier_meant value)) in
      rw (get_or-map (multiplier_meant value) (y ∷ ys) i y d (omega arith), get_or-map (multiplier_meant value) (y ∷ ys) j y d within) (are.rising i j y l within);
  in_range = All-map (λ z. z.row < n) (multiplier_meant value) (y ∷ ys) are.in_range;
}

-- ---- the sparse form of a vector gives back the vector

sparse_rises : (a n : ℕ) (q : Rational) (b : Bool) (ys : List (RowMultiplier Rational)) → a < n → RiseFrom (a + 1) n ys → RiseFrom a n (cond b [] (record { row = a; value = q } ∷ []) ++ ys)
sparse_rises a n q true ys l rise = rise_lower a (a + 1) n ys (omega arith) rise
sparse_rises a n q false ys l rise = (omega arith, l, rise)

rise_sparse : (a n : ℕ) (qs : List Rational) → n ≡ a + length qs → RiseFrom a n (sparse_from a qs)
rise_sparse a n [] e = omega arith
rise_sparse a n (q ∷ qs) e = sparse_rises a n q (is_zero q) (sparse_from (a + 1) qs) (omega arith) (rise_sparse (a + 1) n qs (omega arith))

dense_step : (a n k : ℕ) (q : Rational) (qs : List Rational) (ys : List (RowMultiplier Rational)) (b : Bool) → is_zero q ≡ b → a < n → RiseFrom (a + 1) n ys → map (multiplier_at ys) (range_with_len (a + 1) k) ≡ qs
    → map (multiplier_at (cond b [] (record { row = a; value = q } ∷ []) ++ ys)) (range_with_len a (suc k)) ≡ q ∷ qs
dense_step a n k q qs ys true none l rise rest = ap₂ (λ x xs. x ∷ xs) (none_before n (a + 1) a ys rise (omega arith) ∙ sym (is_zero_yes q none)) rest
dense_step a n k q qs ys false other l rise rest =
    ap₂ (λ x xs. x ∷ xs) (first_named n a (record { row = a; value = q }) ys (omega arith, l, rise))
    (range_same (multiplier_at (record { row = a; value = q } ∷ ys)) (multiplier_at ys) (a + 1) k (λ i le. later_named (record { row = a; value = q }) ys i (omega arith)) ∙ rest)

dense_from : (a : ℕ) (qs : List Rational) → map (multiplier_at (sparse_from a qs)) (range_with_len a (length qs)) ≡ qs
dense_from a [] = refl
dense_from a (q ∷ qs) = dense_step a (a + suc (length qs)) (length qs) q qs (sparse_from (a + 1) qs) (is_zero q) refl (omega arith) (rise_sparse (a + 1) (a + suc (length qs)) qs (omega arith)) (dense_from (a + 1) qs)

pub dense-sparse : (y : List Rational) → dense (length y) (sparse y) ≡ y
dense-sparse y = dense_from 0 y

-- ---- and the dense form of multipliers that are not 0 gives them back

sparse_of : (n a e : ℕ) (ys : List (RowMultiplier Rational)) → e ≡ a + n → RiseFrom a e ys → All (λ y. y.value ≢ zero_ℚ) ys → sparse_from a (map (multiplier_at ys) (range_with_len a n)) ≡ ys
sparse_of zero a e [] h rise nonzero = refl
sparse_of zero a e (y ∷ ys) h rise nonzero = absurd (omega (arith, rise.0, rise.1))
sparse_of (suc n) a e [] h rise nonzero =
    passed_over (multiplier_at [] a) _ _ (none_named a) ∙ sparse_of n (a + 1) e [] (omega arith) (omega arith) (λ k d l. absurd (omega arith))
sparse_of (suc n) a e (y ∷ ys) h rise nonzero = elim (eq-or-lt_of_le rise.0) [
  | inl same ↦ (
      let here : multiplier_at (y ∷ ys) a ≡ y.value = ap (multiplier_at (y ∷ ys)) same ∙ first_named e a y ys rise in
      let rest : sparse_from (a + 1) (map (multiplier_at (y ∷ ys)) (range_with_len (a + 1) n)) ≡ ys =
      ap (sparse_from (a + 1)) (range_same (multiplier_at (y ∷ ys)) (multiplier_at ys) (a + 1) n (λ i le. later_named y ys i (omega arith)))
      ∙ sparse_of n (a + 1) e ys (omega arith) (rise_lower (a + 1) (y.row + 1) e ys (omega arith) rise.2) (All-tail (λ t. t.value ≢ zero_ℚ) y ys nonzero) in
      kept (multiplier_at (y ∷ ys) a) (record { row = a; value = multiplier_at (y ∷ ys) a }) _ (is_zero (multiplier_at (y ∷ ys) a)) refl (λ z. All-head (λ t. t.value ≢ zero_ℚ) y ys nonzero (sym here ∙ z))
      ∙ ap₂ (λ x xs. x ∷ xs) (ap₂ (λ i q. record { row = i; value = q }) same here) rest)
  | inr less ↦ (
      let none : multiplier_at (y ∷ ys) a ≡ zero_ℚ = none_before e y.row a (y ∷ ys) (omega arith, rise.1, rise.2) less in
      passed_over (multiplier_at (y ∷ ys) a) _ _ none ∙ sparse_of n (a + 1) e (y ∷ ys) (omega arith) (omega arith, rise.1, rise.2) nonzero)
]

pub sparse-dense : (n : ℕ) (ys : List (RowMultiplier Rational)) → AreRowMultipliers n ys → All (λ y. y.value ≢ zero_ℚ) ys → sparse (dense n ys) ≡ ys
sparse-dense n ys are nonzero = sparse_of n 0 n ys (omega arith) (rise_of_multipliers n ys are) nonzero
