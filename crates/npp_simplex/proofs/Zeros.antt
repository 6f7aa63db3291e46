-- Taking a multiple of 0, or 0 times a number, fits every width.
use Rattle.std.proofs.Common.{◌≡◌, ℕ, Bool, true, false, ◌&&◌}
use Rattle.npp_frac.specs.Rational.{Rational, zero_ℚ}
use Rattle.npp_frac.specs.Ring.{zero-*ℚ, *ℚ-zero}
use Rattle.npp_frac.specs.Fits.{FitsBelow, IsWidth, limit_of}
use Rattle.npp_frac.specs.FitsLaws.{fits_mul_yes}
use Rattle.npp_frac.specs.ZeroLaws.{FitsMul-zero_left, FitsMul-zero_right, fits_sub-zero_right, wide_enough}
use Rattle.npp_simplex.specs.Places.{fits_less_product}

pub both_true : (a b : Bool) → true ≡ a → true ≡ b → true ≡ (a && b)
both_true true b e f = f
both_true false b e f = cc

-- taking a multiple of 0
pub fits_less_product-zero : (w : ℕ) (x y z : Rational) → IsWidth w → FitsBelow (limit_of w) x → z ≡ zero_ℚ → true ≡ fits_less_product (limit_of w) x y z
fits_less_product-zero w x y z wide h e =
    rw e (rw (*ℚ-zero y) (both_true _ _ (fits_mul_yes (limit_of w) y zero_ℚ (FitsMul-zero_right (limit_of w) y (wide_enough w wide))) (fits_sub-zero_right (limit_of w) x h)))

-- taking 0 times a number
pub fits_less_zero_product : (w : ℕ) (x y z : Rational) → IsWidth w → FitsBelow (limit_of w) x → y ≡ zero_ℚ → true ≡ fits_less_product (limit_of w) x y z
fits_less_zero_product w x y z wide h e =
    rw e (rw (zero-*ℚ z) (both_true _ _ (fits_mul_yes (limit_of w) zero_ℚ z (FitsMul-zero_left (limit_of w) z (wide_enough w wide))) (fits_sub-zero_right (limit_of w) x h)))
