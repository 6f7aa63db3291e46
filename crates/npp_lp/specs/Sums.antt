-- Sums of products at a width: what they give, or the first operation that does not fit.
use Rattle.std.specs.Prelude.{ℕ, Option, Some, None, Result, Ok, if◌then◌else◌}
use Rattle.npp_frac.specs.Rational.{Rational, ◌+ℚ◌, ◌*ℚ◌}
use Rattle.npp_frac.specs.Fits.{fits_add, fits_mul}
use Rattle.npp_frac.specs.declared.refusal.Op.TheVariants.{Add, Mul}
use Rattle.npp_frac.specs.declared.refusal.Overflow.{Overflow}
use Rattle.npp_lp.specs.Verdict.{first_below, unless}
use Rattle.npp_lp.specs.Programs.{product_sum}

-- the operation that does not fit where the product of a and b joins a sum: the product is formed first, and then added
abbrev pub joining_overflow : ℕ → Rational → Rational → Rational → Option (Overflow Rational)
joining_overflow m sum a b =
    if fits_mul m a b
    then (if fits_add m sum (a *ℚ b) then None else Some (record { op = Add; left = sum; right = a *ℚ b }))
    else Some (record { op = Mul; left = a; right = b })

-- the sum with the product added to it, or the operation that does not fit
unfoldable pub joined_sum : ℕ → Rational → Rational → Rational → Result Rational (Overflow Rational)
joined_sum m sum a b = unless (joining_overflow m sum a b) (Ok (sum +ℚ a *ℚ b))

-- the first such operation where a sum of n products is formed, begun at 0 and in order
abbrev pub sum_overflow : ℕ → ℕ → (ℕ → Rational) → (ℕ → Rational) → Option (Overflow Rational)
sum_overflow m n a b = first_below n (λ i. joining_overflow m (product_sum i a b) (a i) (b i))

-- the sum of n products where each operation fits below m, and else the first that does not
unfoldable pub checked_sum : ℕ → ℕ → (ℕ → Rational) → (ℕ → Rational) → Result Rational (Overflow Rational)
checked_sum m n a b = unless (sum_overflow m n a b) (Ok (product_sum n a b))
