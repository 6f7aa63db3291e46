-- The lexicographic order of the numbers of rows at some columns, which are those that `ks` lists.
use Rattle.std.proofs.Common.{◌≡◌, ◌≢◌, ℕ, ◌+◌, ◌<◌, List, [], ◌∷◌, map, drop, ◌⊎◌, inl, inr, arith, ap, ap₂, sym, ◌∙◌, refl, subst}
use Rattle.std.specs.Prelude.{pos}
use Rattle.std.specs.List.{range_with_len}
use Rattle.std.proofs.Math.Nat.{mul-pos, mul-lt-mul_of_pos_right}
use Rattle.std.proofs.lemmas.List.FromFn.{get_or-map-range_with_len}
use Rattle.npp_frac.specs.Rational.{Rational, zero_ℚ, Is-self, Is-lt, lt-Is, Is-sub, Is-whole, ◌+ℚ◌, ◌-ℚ◌, ◌*ℚ◌, ◌/ℚ◌, ◌≤ℚ◌, ◌<ℚ◌}
use Rattle.npp_frac.specs.Ring.{zero-+ℚ, +ℚ-zero, -ℚ_self, -ℚ-zero, zero-*ℚ, *ℚ-zero}
use Rattle.npp_frac.specs.Order.{≤ℚ_or_>, ≤ℚ_antisymm, <ℚ_irrefl, <ℚ_trans, ≤ℚ_of_<ℚ, ≤ℚ_of_≡, +ℚ_mono_<, *ℚ_mono_<}
use Rattle.npp_frac.specs.Division.{/ℚ_mono_<}
use Rattle.npp_lp.specs.Programs.{at}
use Rattle.npp_frac.specs.ZeroLaws.{zero-/ℚ}
use Rattle.npp_simplex.proofs.Tables.{map_range_same}
use Rattle.npp_simplex.proofs.Invariant.{IsLexPositive, IsLexBelow, key_numbers}

-- ---- signs

pos_of_<ℚ : (q r : Rational) → q <ℚ r → zero_ℚ <ℚ (r -ℚ q)
pos_of_<ℚ q r h = Is-lt (Is-whole (pos 0)) (Is-sub (Is-self r) (Is-self q)) (omega (arith, lt-Is (Is-self q) (Is-self r) h))

less_by_pos : (q r : Rational) → zero_ℚ <ℚ r → (q -ℚ r) <ℚ q
less_by_pos q r h = Is-lt (Is-sub (Is-self q) (Is-self r)) (Is-self q) (omega (arith, mul-lt-mul_of_pos_right (lt-Is (Is-whole (pos 0)) (Is-self r) h) (mul-pos q.positive q.positive)))

pos_sum : (q r : Rational) → zero_ℚ <ℚ q → zero_ℚ ≤ℚ r → zero_ℚ <ℚ (q +ℚ r)
pos_sum q r h k = subst (λ z. z <ℚ (q +ℚ r)) (zero-+ℚ zero_ℚ) (+ℚ_mono_< h k)

pub pos_product : (q r : Rational) → zero_ℚ <ℚ q → zero_ℚ <ℚ r → zero_ℚ <ℚ (q *ℚ r)
pos_product q r h k = subst (λ z. z <ℚ (q *ℚ r)) (*ℚ-zero q) (*ℚ_mono_< h k)

-- ---- the order

pub IsLexBelow_irrefl : (xs : List Rational) → IsLexBelow xs xs → ⊥
IsLexBelow_irrefl [] h = h
IsLexBelow_irrefl (x ∷ xs) (inl h) = <ℚ_irrefl h
IsLexBelow_irrefl (x ∷ xs) (inr h) = IsLexBelow_irrefl xs h.1

pub IsLexBelow_trans : (xs ys zs : List Rational) → IsLexBelow xs ys → IsLexBelow ys zs → IsLexBelow xs zs
IsLexBelow_trans [] ys zs h k = absurd h
IsLexBelow_trans (x ∷ xs) [] zs h k = absurd h
IsLexBelow_trans (x ∷ xs) (y ∷ ys) [] h k = absurd k
IsLexBelow_trans (x ∷ xs) (y ∷ ys) (z ∷ zs) (inl h) (inl k) = inl (<ℚ_trans h k)
IsLexBelow_trans (x ∷ xs) (y ∷ ys) (z ∷ zs) (inl h) (inr k) = inl (subst (λ q. x <ℚ q) k.0 h)
IsLexBelow_trans (x ∷ xs) (y ∷ ys) (z ∷ zs) (inr h) (inl k) = inl (subst (λ q. q <ℚ z) (sym h.0) k)
IsLexBelow_trans (x ∷ xs) (y ∷ ys) (z ∷ zs) (inr h) (inr k) = inr (h.0 ∙ k.0, IsLexBelow_trans xs ys zs h.1 k.1)

less_or_same_or_more : (q r : Rational) → (q <ℚ r) ⊎ ((q ≡ r) ⊎ (r <ℚ q))
less_or_same_or_more q r = elim (≤ℚ_or_> q r) [
  | inr more ↦ inr (inr more)
  | inl low ↦ elim (≤ℚ_or_> r q) [ inl high ↦ inr (inl (≤ℚ_antisymm low high)) | inr less ↦ inl less ]
]

-- one of two rows is below the other, or they are the same
pub lex_cases : (f g : ℕ → Rational) (ks : List ℕ) → IsLexBelow (map f ks) (map g ks) ⊎ ((map f ks ≡ map g ks) ⊎ IsLexBelow (map g ks) (map f ks))
lex_cases f g [] = inr (inl refl)
lex_cases f g (k ∷ ks) = elim (less_or_same_or_more (f k) (g k)) [
  | inl less ↦ inl (inl less)
  | inr other ↦ elim other [
    | inr more ↦ inr (inr (inl more))
    | inl same ↦ elim (lex_cases f g ks) [
      | inl less ↦ inl (inr (same, less))
      | inr rest ↦ elim rest [
        | inl all ↦ inr (inl (ap₂ ◌∷◌ same all))
        | inr more ↦ inr (inr (inr (sym same, more)))
      ]
    ]
  ]
]

-- ---- sums, multiples and differences

pub positive_same : (f g : ℕ → Rational) (ks : List ℕ) → ((k : ℕ) → f k ≡ g k) → IsLexPositive (map f ks) → IsLexPositive (map g ks)
positive_same f g ks same h = let e : f ≡ g = λ i k. same k i in subst (λ row. IsLexPositive (map row ks)) e h

pub below_same : (f f' g g' : ℕ → Rational) (ks : List ℕ) → ((k : ℕ) → f k ≡ f' k) → ((k : ℕ) → g k ≡ g' k) → IsLexBelow (map f ks) (map g ks) → IsLexBelow (map f' ks) (map g' ks)
below_same f f' g g' ks same also h =
    let e : f ≡ f' = λ i k. same k i in
    let d : g ≡ g' = λ i k. also k i in
    subst (λ row. IsLexBelow (map row ks) (map g' ks)) e (subst (λ row. IsLexBelow (map f ks) (map row ks)) d h)

pub positive_sum : (f g : ℕ → Rational) (ks : List ℕ) → IsLexPositive (map f ks) → IsLexPositive (map g ks) → IsLexPositive (map (λ k. f k +ℚ g k) ks)
positive_sum f g [] h k = h
positive_sum f g (j ∷ ks) (inl h) (inl k) = inl (pos_sum (f j) (g j) h (≤ℚ_of_<ℚ k))
positive_sum f g (j ∷ ks) (inl h) (inr k) = inl (pos_sum (f j) (g j) h (≤ℚ_of_≡ (sym k.0)))
positive_sum f g (j ∷ ks) (inr h) (inl k) = inl (subst (λ z. zero_ℚ <ℚ z) (sym (zero-+ℚ (g j)) ∙ ap (λ z. z +ℚ g j) (sym h.0)) k)
positive_sum f g (j ∷ ks) (inr h) (inr k) = inr (ap₂ ◌+ℚ◌ h.0 k.0 ∙ zero-+ℚ zero_ℚ, positive_sum f g ks h.1 k.1)

pub positive_times : (q : Rational) (f : ℕ → Rational) (ks : List ℕ) → zero_ℚ <ℚ q → IsLexPositive (map f ks) → IsLexPositive (map (λ k. q *ℚ f k) ks)
positive_times q f [] above h = h
positive_times q f (j ∷ ks) above (inl h) = inl (pos_product q (f j) above h)
positive_times q f (j ∷ ks) above (inr h) = inr (ap (λ z. q *ℚ z) h.0 ∙ *ℚ-zero q, positive_times q f ks above h.1)

pub positive_over : (q : Rational) (f : ℕ → Rational) (ks : List ℕ) → zero_ℚ <ℚ q → IsLexPositive (map f ks) → IsLexPositive (map (λ k. f k /ℚ q) ks)
positive_over q f [] above h = h
positive_over q f (j ∷ ks) above (inl h) = inl (subst (λ z. z <ℚ (f j /ℚ q)) (zero-/ℚ q) (/ℚ_mono_< above h))
positive_over q f (j ∷ ks) above (inr h) = inr (ap (λ z. z /ℚ q) h.0 ∙ zero-/ℚ q, positive_over q f ks above h.1)

-- a multiple that is not negative may be added
pub positive_with : (q : Rational) (f g : ℕ → Rational) (ks : List ℕ) → zero_ℚ ≤ℚ q → IsLexPositive (map f ks) → IsLexPositive (map g ks) → IsLexPositive (map (λ k. f k +ℚ q *ℚ g k) ks)
positive_with q f g ks low h k = elim (≤ℚ_or_> q zero_ℚ) [
  | inr above ↦ positive_sum f (λ j. q *ℚ g j) ks h (positive_times q g ks above k)
  | inl high ↦ positive_same f (λ j. f j +ℚ q *ℚ g j) ks (λ j. sym (ap (λ z. f j +ℚ z *ℚ g j) (≤ℚ_antisymm high low) ∙ ap (λ z. f j +ℚ z) (zero-*ℚ (g j)) ∙ +ℚ-zero (f j))) h
]

pub positive_difference : (f g : ℕ → Rational) (ks : List ℕ) → IsLexBelow (map g ks) (map f ks) → IsLexPositive (map (λ k. f k -ℚ g k) ks)
positive_difference f g [] h = h
positive_difference f g (j ∷ ks) (inl h) = inl (pos_of_<ℚ (g j) (f j) h)
positive_difference f g (j ∷ ks) (inr h) = inr (ap (λ z. f j -ℚ z) h.0 ∙ -ℚ_self (f j), positive_difference f g ks h.1)

-- where one row is neither below another nor the same
pub positive_unless : (f g : ℕ → Rational) (ks : List ℕ) → (IsLexBelow (map f ks) (map g ks) → ⊥) → (map f ks ≡ map g ks → ⊥) → IsLexPositive (map (λ k. f k -ℚ g k) ks)
positive_unless f g ks below same = elim (lex_cases f g ks) [
  | inl h ↦ absurd (below h)
  | inr other ↦ elim other [ inl e ↦ absurd (same e) | inr h ↦ positive_difference f g ks h ]
]

-- what loses a positive row falls
pub below_of_positive : (f d : ℕ → Rational) (ks : List ℕ) → IsLexPositive (map d ks) → IsLexBelow (map (λ k. f k -ℚ d k) ks) (map f ks)
below_of_positive f d [] h = h
below_of_positive f d (j ∷ ks) (inl h) = inl (less_by_pos (f j) (d j) h)
below_of_positive f d (j ∷ ks) (inr h) = inr (ap (λ z. f j -ℚ z) h.0 ∙ -ℚ-zero (f j), below_of_positive f d ks h.1)

-- ---- the numbers of a row at the keys

-- rows that differ in the extra column alone have the same numbers at the keys
pub key_numbers_besides : (m n : ℕ) (f g : ℕ → Rational) → ((j : ℕ) → j < n + m + 2 → j ≢ n + m → f j ≡ g j) → key_numbers m n f ≡ key_numbers m n g
key_numbers_besides m n f g same =
    ap₂ ◌∷◌ (same (n + m + 1) (omega arith) (λ e. omega arith)) (map_range_same f g n m (λ k a l. same k (omega arith) (λ e. omega arith)))

-- rows with the same numbers there have the same entries in the slack columns
pub slacks_of_keys : (m n : ℕ) (f g : ℕ → Rational) → key_numbers m n f ≡ key_numbers m n g → (k : ℕ) → k < m → f (n + k) ≡ g (n + k)
slacks_of_keys m n f g same k l =
    let e : map f (range_with_len n m) ≡ map g (range_with_len n m) = ap (drop 1) same in
    sym (get_or-map-range_with_len f n m k (n + k) zero_ℚ l refl) ∙ ap (λ xs. at xs k) e ∙ get_or-map-range_with_len g n m k (n + k) zero_ℚ l refl
