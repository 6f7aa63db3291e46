-- The order of rows in the ratio test, and the words by which they are compared.
use Rattle.std.specs.Prelude.{◌≡◌, ℕ, ◌<◌, List, [], ◌∷◌, Bool, false, not, ◌&&◌, ◌||◌, ℤ, nat_abs}
use Rattle.npp_frac.specs.Rational.{Rational, whole, is_less, ◌/ℚ◌}
use Rattle.npp_simplex.specs.CommonForm.{number_in, over}

-- whether a row comes before another: it has the lower number at the first of the keys at which they differ
abbrev pub comes_before : (ℕ → Rational) → (ℕ → Rational) → List ℕ → Bool
comes_before f g [] = false
comes_before f g (k ∷ keys) = is_less (f k) (g k) || (not (is_less (g k) (f k)) && comes_before f g keys)

-- the whole numbers of a row, each divided by one number
abbrev pub divided : List ℤ → ℤ → ℕ → Rational
divided xs d k = whole (number_in xs k) /ℚ whole d

-- the numbers of a row are these whole numbers over one denominator, all of them below a limit in size
pub record AreWordsOf (limit : ℕ) (xs : List ℤ) (line : List Rational) : Type 0 where
  pub denominator : ℕ
  pub above : 0 < denominator
  pub numbers : over denominator xs ≡ line
  pub sizes : (j : ℕ) → nat_abs (number_in xs j) < limit
