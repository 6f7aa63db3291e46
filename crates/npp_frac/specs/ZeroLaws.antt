-- Operations with 0 fit every width.
use Rattle.std.proofs.Common.{◌≡◌, ℕ, ◌*◌, ◌/◌, ◌<◌, ℤ, pos, negsuc, ◌+ℤ◌, ◌*ℤ◌, neg_ℤ, nat_abs, true, refl, ◌∙◌, ap, sym, arith, lit<, lt_of_lt_of_le}
use Rattle.std.proofs.Math.Nat.{zero-div, div_self, mul-one, one-dvd, dvd-zero}
use Rattle.std.proofs.lemmas.Nat.Gcd.{dvd_refl}
use Rattle.std.proofs.lemmas.Int.{ints}
use Rattle.npp_frac.specs.Gcd.{gcd, gcd_within, gcd_is}
use Rattle.npp_frac.specs.Rational.{Rational, same_fields, whole, ratio, negative, reciprocal, zero_ℚ, one_ℚ, ◌-ℚ◌, ◌*ℚ◌, ◌/ℚ◌}
use Rattle.npp_frac.specs.Ring.{negative_is, zero-*ℚ, *ℚ-zero, -ℚ_self, -ℚ-zero}
use Rattle.npp_frac.specs.Reduction.{abs_product}
use Rattle.npp_frac.specs.Fits.{FitsBelow, FitsAdd, FitsMul, IsWidth, limit_of, fits_sub, fits_div}
use Rattle.npp_frac.specs.FitsLaws.{fits_add_yes, fits_mul_yes, limit_at_least}

zero_num : zero_ℚ.num ≡ pos 0
unfolding whole ratio gcd gcd_within
zero_num = refl

zero_den : zero_ℚ.den ≡ 1
unfolding whole ratio gcd gcd_within
zero_den = refl

gcd-zero : (d : ℕ) → gcd 0 d ≡ d
gcd-zero d = gcd_is 0 d d (dvd-zero d, dvd_refl d, λ e a b. b)

gcd-one : (n : ℕ) → gcd n 1 ≡ 1
gcd-one n = gcd_is n 1 1 (one-dvd n, dvd_refl 1, λ e a b. b)

div-one : (n : ℕ) → n / 1 ≡ n
div-one n = omega arith

-- the numerator and the denominator of a product with 0 on the left
zero_times : (m n d z e : ℕ) → 1 < m → 0 < d → z ≡ 0 → e ≡ 1 → (z / gcd z d * (n / gcd n e) < m) × (e / gcd n e * (d / gcd z d) < m)
zero_times m n d z e h l is_zero is_one =
    rw (is_zero, is_one, gcd-zero d, gcd-one n, zero-div, div_self l) (omega arith, omega arith)

pub FitsMul-zero_left : (m : ℕ) (q : Rational) → 1 < m → FitsMul m zero_ℚ q
FitsMul-zero_left m q h =
    let both : (nat_abs zero_ℚ.num / gcd (nat_abs zero_ℚ.num) q.den * (nat_abs q.num / gcd (nat_abs q.num) zero_ℚ.den) < m) × (zero_ℚ.den / gcd (nat_abs q.num) zero_ℚ.den * (q.den / gcd (nat_abs zero_ℚ.num) q.den) < m) =
    zero_times m (nat_abs q.num) q.den (nat_abs zero_ℚ.num) zero_ℚ.den h q.positive (ap nat_abs zero_num) zero_den in
    record { num = rw (abs_product zero_ℚ.num q.num (gcd (nat_abs zero_ℚ.num) q.den) (gcd (nat_abs q.num) zero_ℚ.den)) both.0; den = both.1 }

times_zero : (m n d z e : ℕ) → 1 < m → 0 < d → z ≡ 0 → e ≡ 1 → (n / gcd n e * (z / gcd z d) < m) × (d / gcd z d * (e / gcd n e) < m)
times_zero m n d z e h l is_zero is_one =
    let both = zero_times m n d z e h l is_zero is_one in
    (omega (arith, both.0), omega (arith, both.1))

pub FitsMul-zero_right : (m : ℕ) (q : Rational) → 1 < m → FitsMul m q zero_ℚ
FitsMul-zero_right m q h =
    let both : (nat_abs q.num / gcd (nat_abs q.num) zero_ℚ.den * (nat_abs zero_ℚ.num / gcd (nat_abs zero_ℚ.num) q.den) < m) × (q.den / gcd (nat_abs zero_ℚ.num) q.den * (zero_ℚ.den / gcd (nat_abs q.num) zero_ℚ.den) < m) =
    times_zero m (nat_abs q.num) q.den (nat_abs zero_ℚ.num) zero_ℚ.den h q.positive (ap nat_abs zero_num) zero_den in
    record { num = rw (abs_product q.num zero_ℚ.num (gcd (nat_abs q.num) zero_ℚ.den) (gcd (nat_abs zero_ℚ.num) q.den)) both.0; den = both.1 }

times_one : (a : ℤ) (n : ℕ) → n ≡ 1 → a *ℤ pos n ≡ a
times_one a n e = rw e (omega (arith, ints))

times_none : (a : ℤ) (n : ℕ) → a ≡ pos 0 → a *ℤ pos n ≡ pos 0
times_none a n e = rw e (omega (arith, ints))

plus_none : (a b : ℤ) → b ≡ pos 0 → a +ℤ b ≡ a
plus_none a b e = rw e (omega (arith, ints))

pub FitsAdd-zero : (m : ℕ) (q : Rational) → FitsBelow m q → FitsAdd m q zero_ℚ
FitsAdd-zero m q h =
    let common : gcd q.den zero_ℚ.den ≡ 1 = ap (gcd q.den) zero_den ∙ gcd-one q.den in
    let factor : zero_ℚ.den / gcd q.den zero_ℚ.den ≡ 1 = rw (common, zero_den) refl in
    let left : q.num *ℤ pos (zero_ℚ.den / gcd q.den zero_ℚ.den) ≡ q.num = times_one q.num _ factor in
    let right : zero_ℚ.num *ℤ pos (q.den / gcd q.den zero_ℚ.den) ≡ pos 0 = times_none zero_ℚ.num _ zero_num in
    let under : q.den / gcd q.den zero_ℚ.den * zero_ℚ.den ≡ q.den = rw (common, zero_den, div-one, mul-one) refl in
    record {
      left = rw left h.num;
      right = rw right (omega (arith, h.den, q.positive));
      sum = rw (left, right, plus_none q.num (pos 0) refl) h.num;
      den = rw under h.den;
    }

pub wide_enough : (w : ℕ) → IsWidth w → 1 < limit_of w
wide_enough w h = lt_of_lt_of_le (lit< tt) (limit_at_least w h)

pub FitsBelow-zero : (w : ℕ) → IsWidth w → FitsBelow (limit_of w) zero_ℚ
FitsBelow-zero w h =
    let wide = wide_enough w h in
    record { num = rw (ap nat_abs zero_num) (omega (arith, wide)); den = rw zero_den wide }

-- the negative of a number of the width
abs_negative : (n : ℤ) → nat_abs (neg_ℤ n) ≡ nat_abs n
abs_negative n = omega (arith, ints)

negative_num : (m : ℕ) (q : Rational) → FitsBelow m q → nat_abs (negative q).num < m
unfolding negative
negative_num m q h = rw (abs_negative q.num) h.num

negative_den : (q : Rational) → (negative q).den ≡ q.den
unfolding negative
negative_den q = refl

pub FitsBelow-negative : (m : ℕ) (q : Rational) → FitsBelow m q → FitsBelow m (negative q)
FitsBelow-negative m q h = record { num = negative_num m q h; den = rw (negative_den q) h.den }

none_plus : (b : ℤ) → pos 0 +ℤ b ≡ b
none_plus b = omega (arith, ints)

gcd-one_left : (n : ℕ) → gcd 1 n ≡ 1
gcd-one_left n = gcd_is 1 n 1 (dvd_refl 1, one-dvd n, λ e a b. a)

-- 0 on the left of a sum
pub FitsAdd-zero_left : (m : ℕ) (q : Rational) → FitsBelow m q → FitsAdd m zero_ℚ q
FitsAdd-zero_left m q h =
    let common : gcd zero_ℚ.den q.den ≡ 1 = ap (λ t. gcd t q.den) zero_den ∙ gcd-one_left q.den in
    let factor : zero_ℚ.den / gcd zero_ℚ.den q.den ≡ 1 = rw (common, zero_den) refl in
    let right : q.num *ℤ pos (zero_ℚ.den / gcd zero_ℚ.den q.den) ≡ q.num = times_one q.num _ factor in
    let left : zero_ℚ.num *ℤ pos (q.den / gcd zero_ℚ.den q.den) ≡ pos 0 = times_none zero_ℚ.num _ zero_num in
    let under : zero_ℚ.den / gcd zero_ℚ.den q.den * q.den ≡ q.den = rw factor (omega arith) in
    record {
      left = rw left (omega (arith, h.den, q.positive));
      right = rw right h.num;
      sum = rw (left, right, none_plus q.num) h.num;
      den = rw under h.den;
    }

-- a number of the width can be taken from 0
pub fits_sub-zero_left : (m : ℕ) (q : Rational) → FitsBelow m q → true ≡ fits_sub m zero_ℚ q
unfolding fits_sub
fits_sub-zero_left m q h = fits_add_yes m zero_ℚ (negative q) (FitsAdd-zero_left m (negative q) (FitsBelow-negative m q h))

negative-zero : negative zero_ℚ ≡ zero_ℚ
negative-zero = negative_is zero_ℚ ∙ -ℚ_self zero_ℚ

-- and 0 from it
pub fits_sub-zero_right : (m : ℕ) (q : Rational) → FitsBelow m q → true ≡ fits_sub m q zero_ℚ
unfolding fits_sub
fits_sub-zero_right m q h = rw negative-zero (fits_add_yes m q zero_ℚ (FitsAdd-zero m q h))

-- 0 can be divided
pub fits_div-zero : (w : ℕ) (q : Rational) → IsWidth w → true ≡ fits_div (limit_of w) zero_ℚ q
unfolding fits_div
fits_div-zero w q h = fits_mul_yes (limit_of w) zero_ℚ (reciprocal q) (FitsMul-zero_left (limit_of w) (reciprocal q) (wide_enough w h))

pub zero-/ℚ : (q : Rational) → zero_ℚ /ℚ q ≡ zero_ℚ
unfolding ◌/ℚ◌
zero-/ℚ q = zero-*ℚ (reciprocal q)

pub minus_one_value : whole (negsuc 0) ≡ negative one_ℚ
unfolding whole ratio gcd gcd_within negative
minus_one_value = same_fields (whole (negsuc 0)) (negative one_ℚ) refl refl

-- taking a multiple of 0, or 0 times a number
pub less_product-zero : (x y z : Rational) → z ≡ zero_ℚ → x ≡ x -ℚ y *ℚ z
less_product-zero x y z e = sym (ap (λ t. x -ℚ y *ℚ t) e ∙ ap (λ t. x -ℚ t) (*ℚ-zero y) ∙ -ℚ-zero x)

pub less_zero_product : (x y z : Rational) → y ≡ zero_ℚ → x ≡ x -ℚ y *ℚ z
less_zero_product x y z e = sym (ap (λ t. x -ℚ t *ℚ z) e ∙ ap (λ t. x -ℚ t) (zero-*ℚ z) ∙ -ℚ-zero x)
