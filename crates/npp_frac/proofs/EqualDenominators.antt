-- Sums of values with one denominator.
use Rattle.std.specs.Prelude.{◌≡◌, ℕ, ◌*◌, ◌<◌, ◌/◌, ℤ, pos, ◌+ℤ◌, ◌*ℤ◌, nat_abs}
use Rattle.std.proofs.Common.{refl, arith, ap, ap₂, sym, ◌∙◌}
use Rattle.std.proofs.Math.Nat.{div_self}
use Rattle.std.proofs.lemmas.Nat.Gcd.{dvd_refl}
use Rattle.std.proofs.lemmas.Int.{ints}
use Rattle.npp_frac.specs.Fits.{FitsBelow, FitsAdd}
use Rattle.npp_frac.specs.Gcd.{gcd, gcd_is}
use Rattle.npp_frac.specs.Rational.{Rational, ratio, ◌+ℚ◌}
use Rattle.npp_frac.specs.Reduction.{ratio-sum}

-- a number over its common factor with itself
one_over : (d : ℕ) → 0 < d → d / gcd d d ≡ 1
one_over d h = ap (λ t. d / t) (gcd_is d d d (dvd_refl d, dvd_refl d, λ e a b. a)) ∙ div_self h

-- the number that a part of a sum is multiplied with
part : (b d : ℕ) → 0 < d → b ≡ d → b / gcd b d ≡ 1
part b d h e = ap (λ t. t / gcd t d) e ∙ one_over d h

other_part : (b d : ℕ) → 0 < d → b ≡ d → d / gcd b d ≡ 1
other_part b d h e = ap (λ t. d / gcd t d) e ∙ one_over d h

times_one : (n : ℤ) (k : ℕ) → k ≡ 1 → n *ℤ pos k ≡ n
times_one n k e = let one : n *ℤ pos 1 ≡ n = omega (arith, ints) in ap (λ t. n *ℤ pos t) e ∙ one

module _ (q r : Rational) (same : q.den ≡ r.den) where
  parts_are : q.num *ℤ pos (r.den / gcd q.den r.den) +ℤ r.num *ℤ pos (q.den / gcd q.den r.den) ≡ q.num +ℤ r.num
  parts_are = ap₂ ◌+ℤ◌ (times_one q.num _ (other_part q.den r.den r.positive same)) (times_one r.num _ (part q.den r.den r.positive same))

  -- it fits where the sum of the numerators does
  pub equal-sum_fits : (m : ℕ) → FitsBelow m q → FitsBelow m r → nat_abs (q.num +ℤ r.num) < m → FitsAdd m q r
  equal-sum_fits m below_q below_r h = record {
    left = rw (times_one q.num _ (other_part q.den r.den r.positive same)) below_q.num;
    right = rw (times_one r.num _ (part q.den r.den r.positive same)) below_r.num;
    sum = rw parts_are h;
    den = rw (part q.den r.den r.positive same) (omega (arith, below_r.den));
  }

  pub fits-equal_sum : (m : ℕ) → FitsAdd m q r → nat_abs (q.num +ℤ r.num) < m
  fits-equal_sum m h = rw parts_are at h.sum

  one_times : 1 * r.den ≡ r.den
  one_times = omega arith

  pub ratio-equal_sum : ratio (q.num +ℤ r.num) r.den ≡ q +ℚ r
  ratio-equal_sum =
      sym (ap₂ ratio (ap₂ ◌+ℤ◌ (times_one q.num 1 refl) (times_one r.num 1 refl)) one_times)
      ∙ ratio-sum q r 1 1 r.den (one_times ∙ sym same) one_times
