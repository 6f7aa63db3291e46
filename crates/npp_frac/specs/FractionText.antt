-- The text of a fraction.
use Rattle.std.specs.Prelude.{◌≡◌, ℕ, ◌<◌, ◌^◌, cond, ◌==◌, List, [], ◌∷◌, ◌++◌}
use Rattle.std.specs.Fmt.{decimal, signed_decimal}
use Rattle.npp_frac.specs.Fits.{FitsBelow, limit_of}
use Rattle.npp_frac.specs.Gcd.{gcd}
use Rattle.npp_frac.specs.Rational.{Rational}

-- a slash and the denominator, where it is not 1
abbrev pub denominator_text : ℕ → List ℕ
denominator_text d = cond (d == 1) [] (47 ∷ decimal d)

-- the numerator with its sign, and the denominator where the number is not whole
unfoldable pub fraction_text : Rational → List ℕ
fraction_text q = signed_decimal q.num ++ denominator_text q.den

-- the bytes are the text of q, whose numbers are below 2 ^ 127 in size
pub record IsFractionText (bytes : List ℕ) (q : Rational) : Type 0 where
  pub fits : FitsBelow (limit_of 128) q
  pub text : bytes ≡ fraction_text q

-- the bytes are the text of n / d, both below 2 ^ 127 and without a common factor
pub record IsPairText (bytes : List ℕ) (n d : ℕ) : Type 0 where
  pub num_below : n < 2 ^ 127
  pub den_below : d < 2 ^ 127
  pub positive : 0 < d
  pub reduced : gcd n d ≡ 1
  pub text : bytes ≡ decimal n ++ denominator_text d
