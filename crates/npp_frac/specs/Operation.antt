-- The operations by their names.
use Rattle.std.specs.Prelude.{ℕ, Bool}
use Rattle.npp_frac.specs.declared.refusal.Op.{Op}
use Rattle.npp_frac.specs.declared.refusal.Op.TheVariants.{Add, Sub, Mul, Div}
use Rattle.npp_frac.specs.Fits.{fits_add, fits_sub, fits_mul, fits_div}
use Rattle.npp_frac.specs.Rational.{Rational, ◌+ℚ◌, ◌-ℚ◌, ◌*ℚ◌, ◌/ℚ◌}

-- the exact value of an operation
abbrev pub value_by : Op → Rational → Rational → Rational
value_by Add q r = q +ℚ r
value_by Sub q r = q -ℚ r
value_by Mul q r = q *ℚ r
value_by Div q r = q /ℚ r

-- whether an operation fits below a limit
abbrev pub fits_by : Op → ℕ → Rational → Rational → Bool
fits_by Add m q r = fits_add m q r
fits_by Sub m q r = fits_sub m q r
fits_by Mul m q r = fits_mul m q r
fits_by Div m q r = fits_div m q r
