-- When the numbers of an operation stay below a limit in size. A width of w bits has the limit 2 ^ (w - 1).
use Rattle.std.specs.Prelude.{◌≡◌, ℕ, ◌-◌, ◌*◌, ◌/◌, ◌^◌, ◌<◌, ◌⊎◌, pos, ◌+ℤ◌, ◌*ℤ◌, nat_abs, int_div, Bool, nat_lt, ◌&&◌}
use Rattle.npp_frac.specs.Gcd.{gcd}
use Rattle.npp_frac.specs.Rational.{Rational, negative, reciprocal}

abbrev pub limit_of : ℕ → ℕ
limit_of w = 2 ^ (w - 1)

-- the widths that there are
abbrev pub IsWidth : ℕ → Type 0
IsWidth w = (w ≡ 32) ⊎ ((w ≡ 64) ⊎ (w ≡ 128))

-- both numbers of a value
pub record FitsBelow (m : ℕ) (q : Rational) : Type 0 where
  pub num : nat_abs q.num < m
  pub den : q.den < m

-- the sum of a/b and c/d over the least common denominator: with g the common factor of b and d,
-- the numbers a * (d/g), c * (b/g), their sum, and (b/g) * d
pub record FitsAdd (m : ℕ) (q r : Rational) : Type 0 where
  pub left : nat_abs (q.num *ℤ pos (r.den / gcd q.den r.den)) < m
  pub right : nat_abs (r.num *ℤ pos (q.den / gcd q.den r.den)) < m
  pub sum : nat_abs (q.num *ℤ pos (r.den / gcd q.den r.den) +ℤ r.num *ℤ pos (q.den / gcd q.den r.den)) < m
  pub den : q.den / gcd q.den r.den * r.den < m

-- the product of a/b and c/d with common factors taken out first: with g that of a and d and h that of c and b,
-- the numbers (a/g) * (c/h) and (b/h) * (d/g)
pub record FitsMul (m : ℕ) (q r : Rational) : Type 0 where
  pub num : nat_abs (int_div q.num (pos (gcd (nat_abs q.num) r.den)) *ℤ int_div r.num (pos (gcd (nat_abs r.num) q.den))) < m
  pub den : q.den / gcd (nat_abs r.num) q.den * (r.den / gcd (nat_abs q.num) r.den) < m

-- the same as tests: whether a sum fits
unfoldable pub fits_add : ℕ → Rational → Rational → Bool
fits_add m q r =
    let g = gcd q.den r.den in
    let left = q.num *ℤ pos (r.den / g) in
    let right = r.num *ℤ pos (q.den / g) in
    nat_lt (nat_abs left) m && nat_lt (nat_abs right) m && nat_lt (nat_abs (left +ℤ right)) m && nat_lt (q.den / g * r.den) m

-- whether a difference fits
unfoldable pub fits_sub : ℕ → Rational → Rational → Bool
fits_sub m q r = fits_add m q (negative r)

-- whether a product fits
unfoldable pub fits_mul : ℕ → Rational → Rational → Bool
fits_mul m q r =
    let g = gcd (nat_abs q.num) r.den in
    let h = gcd (nat_abs r.num) q.den in
    nat_lt (nat_abs (int_div q.num (pos g) *ℤ int_div r.num (pos h))) m && nat_lt (q.den / h * (r.den / g)) m

-- whether a quotient fits, as the product with the reciprocal
unfoldable pub fits_div : ℕ → Rational → Rational → Bool
fits_div m q r = fits_mul m q (reciprocal r)
