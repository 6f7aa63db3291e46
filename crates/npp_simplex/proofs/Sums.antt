-- Sums of products: linear in each factor, and read at a unit.
use Rattle.std.proofs.Common.{◌≡◌, ℕ, ◌+◌, ◌<◌, refl, inl, inr, arith, ap, ap₂, sym, ◌∙◌}
use Rattle.std.proofs.lemmas.Bool.{cases_eq}
use Rattle.npp_frac.specs.Rational.{Rational, zero_ℚ, one_ℚ, negative, reciprocal, ◌+ℚ◌, ◌-ℚ◌, ◌*ℚ◌, ◌/ℚ◌}
use Rattle.npp_frac.specs.Ring.{+ℚ_assoc, -ℚ-*ℚ, *ℚ_assoc, *ℚ_comm, zero-*ℚ, one-*ℚ}
use Rattle.npp_frac.specs.Sums.{sum_to, sum_to_same, sum_to_zero, sum_to--ℚ, sum_to-*ℚ, unit, unit_other, unit_same, sum_to-unit}
use Rattle.npp_lp.specs.Programs.{product_sum}

-- ---- numbers

-- a quotient is a multiple
pub /ℚ_is : (q p : Rational) → q /ℚ p ≡ reciprocal p *ℚ q
unfolding ◌/ℚ◌
/ℚ_is q p = *ℚ_comm q (reciprocal p)

pub +ℚ--ℚ_assoc : (q r s : Rational) → (q +ℚ r) -ℚ s ≡ q +ℚ (r -ℚ s)
unfolding ◌-ℚ◌
+ℚ--ℚ_assoc q r s = +ℚ_assoc q r (negative s)

-- ---- the unit

-- the place and the index change their parts
pub unit_swap : (i j : ℕ) (a : Rational) → unit i a j ≡ unit j a i
unit_swap i j a = elim (cases_eq i j) [
  | inl e ↦ ap (unit i a) (sym e) ∙ ap (λ k. unit k a i) e
  | inr h ↦ unit_other i j a h ∙ sym (unit_other j i a (λ e. h (sym e)))
]

pub unit_shift : (n i j : ℕ) (a : Rational) → unit (n + i) a (n + j) ≡ unit i a j
unit_shift n i j a = elim (cases_eq i j) [
  | inl e ↦ rw e (unit_same (n + j) a ∙ sym (unit_same j a))
  | inr h ↦ unit_other (n + i) (n + j) a (λ e. h (omega (arith, e))) ∙ sym (unit_other i j a h)
]

-- ---- sums

-- a sum of numbers that are 0
pub sum_to_none : (n : ℕ) (f : ℕ → Rational) → ((j : ℕ) → j < n → f j ≡ zero_ℚ) → sum_to n f ≡ zero_ℚ
sum_to_none n f h = sum_to_same n f (λ j. zero_ℚ) h ∙ sum_to_zero n

-- ---- sums of products

pub product_sum_same : (n : ℕ) (a b v w : ℕ → Rational) → ((j : ℕ) → j < n → a j ≡ b j) → ((j : ℕ) → j < n → v j ≡ w j) → product_sum n a v ≡ product_sum n b w
product_sum_same n a b v w f g = sum_to_same n (λ j. a j *ℚ v j) (λ j. b j *ℚ w j) (λ j l. ap₂ ◌*ℚ◌ (f j l) (g j l))

pub product_sum_comm : (n : ℕ) (a b : ℕ → Rational) → product_sum n a b ≡ product_sum n b a
product_sum_comm n a b = sum_to_same n (λ j. a j *ℚ b j) (λ j. b j *ℚ a j) (λ j l. *ℚ_comm (a j) (b j))

pub product_sum_zero : (n : ℕ) (a w : ℕ → Rational) → ((j : ℕ) → j < n → a j ≡ zero_ℚ) → product_sum n a w ≡ zero_ℚ
product_sum_zero n a w h = sum_to_none n (λ j. a j *ℚ w j) (λ j l. ap (λ t. t *ℚ w j) (h j l) ∙ zero-*ℚ (w j))

pub product_sum--ℚ : (n : ℕ) (a b w : ℕ → Rational) → product_sum n (λ j. a j -ℚ b j) w ≡ product_sum n a w -ℚ product_sum n b w
product_sum--ℚ n a b w =
    sum_to_same n (λ j. (a j -ℚ b j) *ℚ w j) (λ j. a j *ℚ w j -ℚ b j *ℚ w j) (λ j l. -ℚ-*ℚ (a j) (b j) (w j))
    ∙ sum_to--ℚ n (λ j. a j *ℚ w j) (λ j. b j *ℚ w j)

pub product_sum-*ℚ : (n : ℕ) (q : Rational) (a w : ℕ → Rational) → product_sum n (λ j. q *ℚ a j) w ≡ q *ℚ product_sum n a w
product_sum-*ℚ n q a w =
    sum_to_same n (λ j. (q *ℚ a j) *ℚ w j) (λ j. q *ℚ (a j *ℚ w j)) (λ j l. *ℚ_assoc q (a j) (w j))
    ∙ sum_to-*ℚ n q (λ j. a j *ℚ w j)

pub product_sum-/ℚ : (n : ℕ) (p : Rational) (a w : ℕ → Rational) → product_sum n (λ j. a j /ℚ p) w ≡ product_sum n a w /ℚ p
product_sum-/ℚ n p a w =
    product_sum_same n (λ j. a j /ℚ p) (λ j. reciprocal p *ℚ a j) w w (λ j l. /ℚ_is (a j) p) (λ j l. refl)
    ∙ product_sum-*ℚ n (reciprocal p) a w
    ∙ sym (/ℚ_is (product_sum n a w) p)

-- a row that lost a multiple of another
pub product_sum_reduced : (n : ℕ) (y : Rational) (a b w : ℕ → Rational) → product_sum n (λ j. a j -ℚ y *ℚ b j) w ≡ product_sum n a w -ℚ y *ℚ product_sum n b w
product_sum_reduced n y a b w = product_sum--ℚ n a (λ j. y *ℚ b j) w ∙ ap (λ t. product_sum n a w -ℚ t) (product_sum-*ℚ n y b w)

-- a unit on either side reads the other
pub product_sum_unit : (n i : ℕ) (w : ℕ → Rational) → i < n → product_sum n (unit i one_ℚ) w ≡ w i
product_sum_unit n i w l = sum_to-unit n i one_ℚ w l ∙ one-*ℚ (w i)
