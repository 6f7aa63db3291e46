-- Sums and products of values with denominator 1.
use Rattle.std.specs.Prelude.{◌≡◌, ◌+ℤ◌, ◌*ℤ◌}
use Rattle.std.proofs.Common.{arith}
use borrow.Author.Differences.{product_is, sum_is_lem}
use Rattle.npp_frac.specs.Rational.{Rational, whole, ◌+ℚ◌, ◌*ℚ◌, Is-self, Is-same, Is-add, Is-mul, Is-whole}

pub whole-sum : (q r : Rational) → q.den ≡ 1 → r.den ≡ 1 → whole (q.num +ℤ r.num) ≡ q +ℚ r
whole-sum q r e f =
    Is-same (Is-whole (q.num +ℤ r.num)) (Is-add (Is-self q) (Is-self r))
    (rw (e, f) (omega (arith, sum_is_lem q.num r.num)))

pub whole-product : (q r : Rational) → q.den ≡ 1 → r.den ≡ 1 → whole (q.num *ℤ r.num) ≡ q *ℚ r
whole-product q r e f =
    let x = product_is q.num r.num in
    Is-same (Is-whole (q.num *ℤ r.num)) (Is-mul (Is-self q) (Is-self r))
    (rw (e, f) (omega (arith, x.0, x.1)))
