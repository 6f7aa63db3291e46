-- What a sum gives where its numbers fit is a value of the width.
use Rattle.std.specs.Prelude.{◌≡◌, ℕ, ◌*◌, ◌/◌, ◌<◌, ℤ, pos, ◌+ℤ◌, ◌*ℤ◌, nat_abs, true, nat_lt, ◌&&◌}
use Rattle.std.proofs.Common.{arith, subst, lt_of_le_of_lt}
use Rattle.std.proofs.Math.Nat.{div-mul_cancel, mul-pos, div-le_self}
use Rattle.std.proofs.lemmas.Bool.Decides.{nat_tests}
use Rattle.npp_frac.specs.Gcd.{gcd, IsGcd-gcd}
use Rattle.npp_frac.specs.Rational.{Rational, ratio, ratio_fields, abs_quot, ◌+ℚ◌}
use Rattle.npp_frac.specs.Reduction.{ratio-sum, quotient_pos_left}
use Rattle.npp_frac.specs.Fits.{FitsBelow, FitsAdd, fits_add}

pub ratio_below : (m : ℕ) (n : ℤ) (d : ℕ) → 0 < d → nat_abs n < m → d < m → FitsBelow m (ratio n d)
ratio_below m n d above top bottom =
    let is = ratio_fields n d above in
    record {
      num = rw (is.0, abs_quot n (gcd (nat_abs n) d)) (lt_of_le_of_lt (div-le_self (nat_abs n) (gcd (nat_abs n) d)) top);
      den = rw is.1 (lt_of_le_of_lt (div-le_self d (gcd (nat_abs n) d)) bottom);
    }

-- the sum of numbers that fit
pub FitsBelow-sum : (m : ℕ) (q r : Rational) → FitsAdd m q r → FitsBelow m (q +ℚ r)
FitsBelow-sum m q r h =
    let g = IsGcd-gcd q.den r.den in
    subst (FitsBelow m)
    (ratio-sum q r (q.den / gcd q.den r.den) (r.den / gcd q.den r.den) (gcd q.den r.den) (div-mul_cancel (gcd q.den r.den) g.0) (div-mul_cancel (gcd q.den r.den) g.1))
    (ratio_below m _ _ (mul-pos (quotient_pos_left q.den r.den q.positive) r.positive) h.sum h.den)

four_parts : (a b c d m : ℕ) → true ≡ (nat_lt a m && nat_lt b m && nat_lt c m && nat_lt d m) → (a < m) × (b < m) × (c < m) × (d < m)
four_parts a b c d m e = (grind (arith, nat_tests), grind (arith, nat_tests), grind (arith, nat_tests), grind (arith, nat_tests))

pub FitsAdd_of : (m : ℕ) (q r : Rational) → true ≡ fits_add m q r → FitsAdd m q r
unfolding fits_add
FitsAdd_of m q r e =
    let parts = four_parts (nat_abs (q.num *ℤ pos (r.den / gcd q.den r.den))) (nat_abs (r.num *ℤ pos (q.den / gcd q.den r.den))) (nat_abs (q.num *ℤ pos (r.den / gcd q.den r.den) +ℤ r.num *ℤ pos (q.den / gcd q.den r.den))) (q.den / gcd q.den r.den * r.den) m e in
    record { left = parts.0; right = parts.1; sum = parts.2; den = parts.3 }
