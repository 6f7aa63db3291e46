-- A whole number as a fraction.
use Rattle.std.proofs.Common.{◌≡◌, ℕ, ◌<◌, ◌^◌, ℤ, pos, nat_abs, refl, sym, ap, subst, arith, lt_of_lt_of_le}
use Rattle.std.proofs.Math.Nat.{one-dvd}
use Rattle.std.proofs.lemmas.Nat.Gcd.{dvd_refl}
use Rattle.npp_frac.specs.Gcd.{gcd, gcd_is}
use Rattle.npp_frac.specs.Rational.{Rational, whole, whole_value}
use Rattle.npp_frac.specs.Fits.{IsWidth, FitsBelow, limit_of}
use Rattle.npp_frac.specs.FitsLaws.{limit_at_least}

abbrev over_one : ℕ → Rational
over_one n = record { num = pos n; den = 1; positive = omega arith; reduced = gcd_is n 1 1 (one-dvd n, dvd_refl 1, λ e a b. b) }

pub whole_num : (n : ℕ) → (whole (pos n)).num ≡ pos n
whole_num n = ap (λ (q : Rational). q.num) (sym (whole_value (over_one n) (pos n) refl refl))

pub whole_den : (n : ℕ) → (whole (pos n)).den ≡ 1
whole_den n = ap (λ (q : Rational). q.den) (sym (whole_value (over_one n) (pos n) refl refl))

-- it fits each width where it is below 2 ^ 31
pub whole_fits : (w n : ℕ) → IsWidth w → n < 2 ^ 31 → FitsBelow (limit_of w) (whole (pos n))
whole_fits w n width small =
    let wide = limit_at_least w width in
    record {
      num = rw (whole_num n) (lt_of_lt_of_le small wide);
      den = rw (whole_den n) (omega (arith, wide));
    }
