-- The sign of a rational number, and that of its numerator.
use Rattle.std.specs.Prelude.{◌≡◌, ◌≢◌, ℤ, pos, ◌≤ℤ◌, ◌<ℤ◌, Bool, true, false}
use Rattle.std.specs.Ordering.{int_eq}
use Rattle.std.proofs.Common.{arith, ◌∙◌, sym}
use Rattle.std.proofs.lemmas.Bool.Decides.{Decides-int_eq}
use Rattle.std.proofs.lemmas.Int.{ints}
use Rattle.npp_frac.specs.Rational.{Rational, whole, zero_ℚ, Is-self, Is-same, Is-le, le-Is, Is-lt, lt-Is, Is-whole, ◌≤ℚ◌, ◌<ℚ◌}
use Rattle.npp_frac.specs.Order.{≤ℚ_of_≡, whole_injective}

-- whether a number is 0
abbrev pub is_zero : Rational → Bool
is_zero q = int_eq q.num (pos 0)

pub nonneg_of_num : (q : Rational) → pos 0 ≤ℤ q.num → zero_ℚ ≤ℚ q
nonneg_of_num q h = Is-le (Is-whole (pos 0)) (Is-self q) (omega (arith, ints, h))

pub num_of_nonneg : (q : Rational) → zero_ℚ ≤ℚ q → pos 0 ≤ℤ q.num
num_of_nonneg q h = omega (arith, ints, le-Is (Is-whole (pos 0)) (Is-self q) h)

pub positive_of_num : (q : Rational) → pos 0 <ℤ q.num → zero_ℚ <ℚ q
positive_of_num q h = Is-lt (Is-whole (pos 0)) (Is-self q) (omega (arith, ints, h))

pub num_of_positive : (q : Rational) → zero_ℚ <ℚ q → pos 0 <ℤ q.num
num_of_positive q h = omega (arith, ints, lt-Is (Is-whole (pos 0)) (Is-self q) h)

pub below_zero_of_num : (q : Rational) → q.num <ℤ pos 0 → q <ℚ zero_ℚ
below_zero_of_num q h = Is-lt (Is-self q) (Is-whole (pos 0)) (omega (arith, ints, h))

pub num_of_below_zero : (q : Rational) → q <ℚ zero_ℚ → q.num <ℤ pos 0
num_of_below_zero q h = omega (arith, ints, lt-Is (Is-self q) (Is-whole (pos 0)) h)

pub nonpositive_of_num : (q : Rational) → q.num ≤ℤ pos 0 → q ≤ℚ zero_ℚ
nonpositive_of_num q h = Is-le (Is-self q) (Is-whole (pos 0)) (omega (arith, ints, h))

pub zero_of_num : (q : Rational) → q.num ≡ pos 0 → q ≡ zero_ℚ
zero_of_num q e = Is-same (Is-self q) (Is-whole (pos 0)) (omega (arith, ints, e))

pub num_of_zero : (q : Rational) → q ≡ zero_ℚ → q.num ≡ pos 0
num_of_zero q e =
    let low : pos 0 ≤ℤ q.num = num_of_nonneg q (≤ℚ_of_≡ (sym e)) in
    omega (arith, ints, low, le-Is (Is-self q) (Is-whole (pos 0)) (≤ℚ_of_≡ e))

pub nonzero_of_num : (q : Rational) → q.num ≢ pos 0 → q ≢ zero_ℚ
nonzero_of_num q h e = h (num_of_zero q e)

pub nonzero_of_whole : (q : Rational) (n : ℤ) → q ≡ whole n → n ≢ pos 0 → q ≢ zero_ℚ
nonzero_of_whole q n e h z = h (whole_injective (sym e ∙ z))

pub is_zero_yes : (q : Rational) → is_zero q ≡ true → q ≡ zero_ℚ
is_zero_yes q e = zero_of_num q ((Decides-int_eq q.num (pos 0)).0 e)

pub is_zero_of : (q : Rational) → q ≡ zero_ℚ → is_zero q ≡ true
is_zero_of q e = (Decides-int_eq q.num (pos 0)).1 (num_of_zero q e)

pub is_zero_no : (q : Rational) → is_zero q ≡ false → q ≢ zero_ℚ
is_zero_no q e z = let zero : is_zero q ≡ true = is_zero_of q z in cc
