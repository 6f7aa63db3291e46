-- Sums of sums, and sums over units.
use Rattle.std.proofs.Common.{◌≡◌, ℕ, zero, suc, ◌<◌, ◌≤◌, true, false, cond, nat_eq, arith, ap, sym, ◌∙◌, inl, inr}
use Rattle.std.proofs.lemmas.Bool.{cases_lt}
use Rattle.npp_frac.specs.Rational.{Rational, zero_ℚ, negative, ◌+ℚ◌, ◌*ℚ◌, ◌≤ℚ◌}
use Rattle.npp_frac.specs.Ring.{*ℚ_comm, zero-*ℚ, *ℚ-zero, negative-*ℚ, negative-+ℚ, negative_is, -ℚ_self}
use Rattle.npp_frac.specs.Order.{≤ℚ_of_≡, ≤ℚ_refl, *ℚ_nonneg, ≤ℚ_trans}
use Rattle.npp_frac.specs.Sums.{sum_to, sum_to_same, sum_to_mono, sum_to_zero, sum_to-+ℚ, sum_to-*ℚ, unit, unit_other, sum_to-unit}
use Rattle.npp_lp.specs.Programs.{product_sum}
use Rattle.npp_simplex.proofs.Sums.{sum_to_none}

-- a factor on the right
pub sum_to-factor : (n : ℕ) (f : ℕ → Rational) (q : Rational) → sum_to n f *ℚ q ≡ sum_to n (λ j. f j *ℚ q)
sum_to-factor n f q = *ℚ_comm (sum_to n f) q ∙ sym (sum_to-*ℚ n q f) ∙ sum_to_same n (λ j. q *ℚ f j) (λ j. f j *ℚ q) (λ j l. *ℚ_comm q (f j))

-- a sum of sums in the other order
pub sum_swap : (m n : ℕ) (f : ℕ → ℕ → Rational) → sum_to n (λ j. sum_to m (λ i. f i j)) ≡ sum_to m (λ i. sum_to n (λ j. f i j))
unfolding sum_to
sum_swap zero n f = sum_to_zero n
sum_swap (suc m) n f = sum_to-+ℚ n (λ j. sum_to m (λ i. f i j)) (λ j. f m j) ∙ ap (λ t. t +ℚ sum_to n (λ j. f m j)) (sum_swap m n f)

-- a sum of numbers that are not below 0
pub sum_nonneg : (n : ℕ) (f : ℕ → Rational) → ((j : ℕ) → j < n → zero_ℚ ≤ℚ f j) → zero_ℚ ≤ℚ sum_to n f
sum_nonneg n f h = ≤ℚ_trans (≤ℚ_of_≡ (sym (sum_to_zero n))) (sum_to_mono n (λ j. zero_ℚ) f h)

negative_zero : negative zero_ℚ ≡ zero_ℚ
negative_zero = negative_is zero_ℚ ∙ -ℚ_self zero_ℚ

-- the negative of a sum
pub sum_negative : (n : ℕ) (f : ℕ → Rational) → sum_to n (λ j. negative (f j)) ≡ negative (sum_to n f)
unfolding sum_to
sum_negative zero f = sym negative_zero
sum_negative (suc n) f = ap (λ t. t +ℚ negative (f n)) (sum_negative n f) ∙ sym (negative-+ℚ (sum_to n f) (f n))

-- products with the negatives of some numbers
pub product_negatives : (m : ℕ) (a b y : ℕ → Rational) → ((k : ℕ) → k < m → y k ≡ negative (a k)) → product_sum m b y ≡ negative (product_sum m a b)
product_negatives m a b y h =
    sum_to_same m (λ k. b k *ℚ y k) (λ k. negative (a k *ℚ b k)) (λ k l. ap (λ t. b k *ℚ t) (h k l) ∙ *ℚ_comm (b k) (negative (a k)) ∙ negative-*ℚ (a k) (b k))
    ∙ sum_negative m (λ k. a k *ℚ b k)

-- ---- a unit beside the columns of a sum

pub unit_nonneg : (i j : ℕ) (a : Rational) → zero_ℚ ≤ℚ a → zero_ℚ ≤ℚ unit i a j
unit_nonneg i j a h = elim (nat_eq i j) as (λ b. zero_ℚ ≤ℚ cond b a zero_ℚ) [ true ↦ h | false ↦ ≤ℚ_refl zero_ℚ ]

unit_beside : (n i : ℕ) (a : Rational) (f : ℕ → Rational) → n ≤ i → sum_to n (λ j. unit i a j *ℚ f j) ≡ zero_ℚ
unit_beside n i a f h = sum_to_none n (λ j. unit i a j *ℚ f j) (λ j l. ap (λ t. t *ℚ f j) (unit_other i j a (omega arith)) ∙ zero-*ℚ (f j))

-- where the function is 0 there
pub unit_sum_same : (n i : ℕ) (a : Rational) (f : ℕ → Rational) → (n ≤ i → f i ≡ zero_ℚ) → sum_to n (λ j. unit i a j *ℚ f j) ≡ a *ℚ f i
unit_sum_same n i a f h = elim (cases_lt i n) [
  | inl l ↦ sum_to-unit n i a f l
  | inr g ↦ unit_beside n i a f g ∙ sym (ap (λ t. a *ℚ t) (h g) ∙ *ℚ-zero a)
]

-- where it is not below 0 there
pub unit_sum_at_most : (n i : ℕ) (a : Rational) (f : ℕ → Rational) → zero_ℚ ≤ℚ a → (n ≤ i → zero_ℚ ≤ℚ f i) → sum_to n (λ j. unit i a j *ℚ f j) ≤ℚ (a *ℚ f i)
unit_sum_at_most n i a f above h = elim (cases_lt i n) [
  | inl l ↦ ≤ℚ_of_≡ (sum_to-unit n i a f l)
  | inr g ↦ ≤ℚ_trans (≤ℚ_of_≡ (unit_beside n i a f g)) (*ℚ_nonneg above (h g))
]

-- ---- weights that stand at some columns

-- a k at column basis k
abbrev pub basic_weights : ℕ → (ℕ → ℕ) → (ℕ → Rational) → ℕ → Rational
basic_weights m basis a j = sum_to m (λ k. unit (basis k) (a k) j)

basic_swap : (n m : ℕ) (basis : ℕ → ℕ) (a f : ℕ → Rational) → product_sum n f (basic_weights m basis a) ≡ sum_to m (λ k. sum_to n (λ j. unit (basis k) (a k) j *ℚ f j))
basic_swap n m basis a f =
    sum_to_same n (λ j. f j *ℚ basic_weights m basis a j) (λ j. sum_to m (λ k. unit (basis k) (a k) j *ℚ f j)) (λ j l. *ℚ_comm (f j) (basic_weights m basis a j) ∙ sum_to-factor m (λ k. unit (basis k) (a k) j) (f j))
    ∙ sum_swap m n (λ k j. unit (basis k) (a k) j *ℚ f j)

-- a sum over them, where the function is 0 at those that are beside the columns of the sum
pub basic_sum : (n m : ℕ) (basis : ℕ → ℕ) (a f : ℕ → Rational) → ((k : ℕ) → k < m → n ≤ basis k → f (basis k) ≡ zero_ℚ) → product_sum n f (basic_weights m basis a) ≡ sum_to m (λ k. a k *ℚ f (basis k))
basic_sum n m basis a f h =
    basic_swap n m basis a f
    ∙ sum_to_same m (λ k. sum_to n (λ j. unit (basis k) (a k) j *ℚ f j)) (λ k. a k *ℚ f (basis k)) (λ k l. unit_sum_same n (basis k) (a k) f (h k l))

-- where it is not below 0 at those, and no weight is
pub basic_sum_at_most : (n m : ℕ) (basis : ℕ → ℕ) (a f : ℕ → Rational) → ((k : ℕ) → k < m → zero_ℚ ≤ℚ a k) → ((k : ℕ) → k < m → n ≤ basis k → zero_ℚ ≤ℚ f (basis k)) → product_sum n f (basic_weights m basis a) ≤ℚ sum_to m (λ k. a k *ℚ f (basis k))
basic_sum_at_most n m basis a f above h =
    ≤ℚ_trans
    (≤ℚ_of_≡ (basic_swap n m basis a f))
    (sum_to_mono m (λ k. sum_to n (λ j. unit (basis k) (a k) j *ℚ f j)) (λ k. a k *ℚ f (basis k)) (λ k l. unit_sum_at_most n (basis k) (a k) f (above k l) (h k l)))
