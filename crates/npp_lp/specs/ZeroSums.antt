-- A product with 0 fits every width and adds nothing, so a checked sum may pass it over.
use Rattle.std.proofs.Common.{◌≡◌, ℕ, true, Ok, ◌∙◌, ap}
use Rattle.npp_frac.specs.Rational.{Rational, zero_ℚ, ◌+ℚ◌, ◌*ℚ◌}
use Rattle.npp_frac.specs.Ring.{+ℚ-zero, zero-*ℚ, *ℚ-zero}
use Rattle.npp_frac.specs.Fits.{FitsBelow, IsWidth, limit_of, fits_mul}
use Rattle.npp_frac.specs.FitsLaws.{fits_add_yes, fits_mul_yes}
use Rattle.npp_frac.specs.ZeroLaws.{FitsMul-zero_left, FitsMul-zero_right, FitsAdd-zero, wide_enough}
use Rattle.npp_lp.specs.Sums.{joined_sum}
use Rattle.npp_lp.specs.SumLaws.{joined_sum_fits}

-- a product with 0 joins each sum that is a value of the width
joins_zero : (m : ℕ) (sum a b : Rational) → FitsBelow m sum → a *ℚ b ≡ zero_ℚ → true ≡ fits_mul m a b → joined_sum m sum a b ≡ Ok sum
joins_zero m sum a b h e f =
    joined_sum_fits m sum a b f (rw e (fits_add_yes m sum zero_ℚ (FitsAdd-zero m sum h))) ∙ ap Ok (ap (λ t. sum +ℚ t) e ∙ +ℚ-zero sum)

pub joined_sum-zero_left : (w : ℕ) (sum a b : Rational) → IsWidth w → FitsBelow (limit_of w) sum → a ≡ zero_ℚ → joined_sum (limit_of w) sum a b ≡ Ok sum
joined_sum-zero_left w sum a b wide h e =
    rw e (joins_zero (limit_of w) sum zero_ℚ b h (zero-*ℚ b) (fits_mul_yes (limit_of w) zero_ℚ b (FitsMul-zero_left (limit_of w) b (wide_enough w wide))))

pub joined_sum-zero_right : (w : ℕ) (sum a b : Rational) → IsWidth w → FitsBelow (limit_of w) sum → b ≡ zero_ℚ → joined_sum (limit_of w) sum a b ≡ Ok sum
joined_sum-zero_right w sum a b wide h e =
    rw e (joins_zero (limit_of w) sum a zero_ℚ h (*ℚ-zero a) (fits_mul_yes (limit_of w) a zero_ℚ (FitsMul-zero_right (limit_of w) a (wide_enough w wide))))
