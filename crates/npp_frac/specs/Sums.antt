-- Sums of rational numbers over lists, and over the numbers below a bound.
use Rattle.std.specs.Prelude.{◌≡◌, ℕ, zero, suc, ◌<◌, ◌≤◌, ◌≢◌, refl, true, false, cond, nat_eq, List, [], ◌∷◌, ◌++◌, map}
use Rattle.std.proofs.Common.{arith, ap, ap₂, sym, ◌∙◌, ne_eqb, eq-eqb, inl, inr, eq-or-lt_of_le, le_of_suc-le-suc}
use Rattle.npp_frac.specs.Rational.{Rational, zero_ℚ, ◌+ℚ◌, ◌*ℚ◌, ◌-ℚ◌, ◌≤ℚ◌}
use Rattle.npp_frac.specs.Ring.{+ℚ_assoc, +ℚ_swap_inner, -ℚ_swap_inner, -ℚ_self, *ℚ-+ℚ, zero-+ℚ, +ℚ-zero, zero-*ℚ, *ℚ-zero}
use Rattle.npp_frac.specs.Order.{≤ℚ_refl, +ℚ_mono}

-- ---- over a list

unfoldable pub sum_by : {X : Type 0} → (X → Rational) → List X → Rational
sum_by f [] = zero_ℚ
sum_by f (x ∷ xs) = f x +ℚ sum_by f xs

abbrev pub sum_ℚ : List Rational → Rational
sum_ℚ xs = sum_by (λ x. x) xs

pub sum_by-nil : {X : Type 0} (f : X → Rational) → sum_by f [] ≡ zero_ℚ
unfolding sum_by
sum_by-nil f = refl

pub sum_by-cons : {X : Type 0} (f : X → Rational) (x : X) (xs : List X) → sum_by f (x ∷ xs) ≡ f x +ℚ sum_by f xs
unfolding sum_by
sum_by-cons f x xs = refl

pub sum_by-append : {X : Type 0} (f : X → Rational) (xs ys : List X) → sum_by f (xs ++ ys) ≡ sum_by f xs +ℚ sum_by f ys
unfolding sum_by
sum_by-append f [] ys = sym (zero-+ℚ (sum_by f ys))
sum_by-append f (x ∷ xs) ys = ap (λ t. f x +ℚ t) (sum_by-append f xs ys) ∙ sym (+ℚ_assoc (f x) (sum_by f xs) (sum_by f ys))

pub sum_by-map : {X Y : Type 0} (f : Y → Rational) (g : X → Y) (xs : List X) → sum_by f (map g xs) ≡ sum_by (λ x. f (g x)) xs
unfolding sum_by
sum_by-map f g [] = refl
sum_by-map f g (x ∷ xs) = ap (λ t. f (g x) +ℚ t) (sum_by-map f g xs)

pub sum_by-+ℚ : {X : Type 0} (f g : X → Rational) (xs : List X) → sum_by (λ x. f x +ℚ g x) xs ≡ sum_by f xs +ℚ sum_by g xs
unfolding sum_by
sum_by-+ℚ f g [] = sym (zero-+ℚ zero_ℚ)
sum_by-+ℚ f g (x ∷ xs) = ap (λ t. (f x +ℚ g x) +ℚ t) (sum_by-+ℚ f g xs) ∙ +ℚ_swap_inner (f x) (g x) (sum_by f xs) (sum_by g xs)

pub sum_by--ℚ : {X : Type 0} (f g : X → Rational) (xs : List X) → sum_by (λ x. f x -ℚ g x) xs ≡ sum_by f xs -ℚ sum_by g xs
unfolding sum_by
sum_by--ℚ f g [] = sym (-ℚ_self zero_ℚ)
sum_by--ℚ f g (x ∷ xs) = ap (λ t. (f x -ℚ g x) +ℚ t) (sum_by--ℚ f g xs) ∙ -ℚ_swap_inner (f x) (g x) (sum_by f xs) (sum_by g xs)

pub sum_by-*ℚ : {X : Type 0} (q : Rational) (f : X → Rational) (xs : List X) → sum_by (λ x. q *ℚ f x) xs ≡ q *ℚ sum_by f xs
unfolding sum_by
sum_by-*ℚ q f [] = sym (*ℚ-zero q)
sum_by-*ℚ q f (x ∷ xs) = ap (λ t. q *ℚ f x +ℚ t) (sum_by-*ℚ q f xs) ∙ sym (*ℚ-+ℚ q (f x) (sum_by f xs))

pub sum_by_mono : {X : Type 0} (f g : X → Rational) (xs : List X) → ((x : X) → f x ≤ℚ g x) → sum_by f xs ≤ℚ sum_by g xs
unfolding sum_by
sum_by_mono f g [] h = ≤ℚ_refl zero_ℚ
sum_by_mono f g (x ∷ xs) h = +ℚ_mono (h x) (sum_by_mono f g xs h)

pub sum_by_same : {X : Type 0} (f g : X → Rational) (xs : List X) → ((x : X) → f x ≡ g x) → sum_by f xs ≡ sum_by g xs
unfolding sum_by
sum_by_same f g [] h = refl
sum_by_same f g (x ∷ xs) h = ap₂ ◌+ℚ◌ (h x) (sum_by_same f g xs h)

-- ---- over the numbers below a bound

unfoldable pub sum_to : ℕ → (ℕ → Rational) → Rational
sum_to zero f = zero_ℚ
sum_to (suc n) f = sum_to n f +ℚ f n

pub sum_to_mono : (n : ℕ) (f g : ℕ → Rational) → ((j : ℕ) → j < n → f j ≤ℚ g j) → sum_to n f ≤ℚ sum_to n g
unfolding sum_to
sum_to_mono zero f g h = ≤ℚ_refl zero_ℚ
sum_to_mono (suc n) f g h = +ℚ_mono (sum_to_mono n f g (λ j l. h j (omega arith))) (h n (omega arith))

pub sum_to_same : (n : ℕ) (f g : ℕ → Rational) → ((j : ℕ) → j < n → f j ≡ g j) → sum_to n f ≡ sum_to n g
unfolding sum_to
sum_to_same zero f g h = refl
sum_to_same (suc n) f g h = ap₂ ◌+ℚ◌ (sum_to_same n f g (λ j l. h j (omega arith))) (h n (omega arith))

pub sum_to_zero : (n : ℕ) → sum_to n (λ j. zero_ℚ) ≡ zero_ℚ
unfolding sum_to
sum_to_zero zero = refl
sum_to_zero (suc n) = +ℚ-zero (sum_to n (λ j. zero_ℚ)) ∙ sum_to_zero n

pub sum_to-+ℚ : (n : ℕ) (f g : ℕ → Rational) → sum_to n (λ j. f j +ℚ g j) ≡ sum_to n f +ℚ sum_to n g
unfolding sum_to
sum_to-+ℚ zero f g = sym (zero-+ℚ zero_ℚ)
sum_to-+ℚ (suc n) f g = ap (λ t. t +ℚ (f n +ℚ g n)) (sum_to-+ℚ n f g) ∙ +ℚ_swap_inner (sum_to n f) (sum_to n g) (f n) (g n)

pub sum_to--ℚ : (n : ℕ) (f g : ℕ → Rational) → sum_to n (λ j. f j -ℚ g j) ≡ sum_to n f -ℚ sum_to n g
unfolding sum_to
sum_to--ℚ zero f g = sym (-ℚ_self zero_ℚ)
sum_to--ℚ (suc n) f g = ap (λ t. t +ℚ (f n -ℚ g n)) (sum_to--ℚ n f g) ∙ -ℚ_swap_inner (sum_to n f) (sum_to n g) (f n) (g n)

pub sum_to-*ℚ : (n : ℕ) (q : Rational) (f : ℕ → Rational) → sum_to n (λ j. q *ℚ f j) ≡ q *ℚ sum_to n f
unfolding sum_to
sum_to-*ℚ zero q f = sym (*ℚ-zero q)
sum_to-*ℚ (suc n) q f = ap (λ t. t +ℚ q *ℚ f n) (sum_to-*ℚ n q f) ∙ sym (*ℚ-+ℚ q (sum_to n f) (f n))

-- a at one place, and 0 elsewhere
abbrev pub unit : ℕ → Rational → ℕ → Rational
unit i a j = cond (nat_eq i j) a zero_ℚ

pub unit_other : (i j : ℕ) (a : Rational) → i ≢ j → unit i a j ≡ zero_ℚ
unit_other i j a h = let e : nat_eq i j ≡ false = ne_eqb i j h in rw e refl

pub unit_same : (i : ℕ) (a : Rational) → unit i a i ≡ a
unit_same i a = let e : nat_eq i i ≡ true = eq-eqb i i refl in rw e refl

sum_above : (n i : ℕ) (a : Rational) (f : ℕ → Rational) → n ≤ i → sum_to n (λ j. unit i a j *ℚ f j) ≡ zero_ℚ
sum_above n i a f h = sum_to_same n _ _ (λ j l. ap (λ t. t *ℚ f j) (unit_other i j a (omega arith)) ∙ zero-*ℚ (f j)) ∙ sum_to_zero n

-- a sum of a function that is not 0 at one place only
pub sum_to-unit : (n i : ℕ) (a : Rational) (f : ℕ → Rational) → i < n → sum_to n (λ j. unit i a j *ℚ f j) ≡ a *ℚ f i
unfolding sum_to
sum_to-unit zero i a f h = absurd (omega arith)
sum_to-unit (suc n) i a f h = elim (eq-or-lt_of_le (le_of_suc-le-suc h)) [
  | inl e ↦
      ap₂ ◌+ℚ◌ (sum_above n i a f (omega arith)) (ap₂ ◌*ℚ◌ (ap (unit i a) (sym e) ∙ unit_same i a) (ap f (sym e)))
      ∙ zero-+ℚ (a *ℚ f i)
  | inr l ↦
      ap₂ ◌+ℚ◌ (sum_to-unit n i a f l) (ap (λ t. t *ℚ f n) (unit_other i n a (omega arith)) ∙ zero-*ℚ (f n))
      ∙ +ℚ-zero (a *ℚ f i)
]
