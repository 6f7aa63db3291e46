-- Rows of a tableau as whole numbers over one denominator, and as other numbers.
use Rattle.std.specs.Prelude.{◌≡◌, ℕ, ◌<◌, ◌≤◌, ◌^◌, min, List, length, map, Bool, true, ℤ, pos, negsuc, neg_ℤ, nat_abs, slice_index_or, if◌then◌else◌}
use Rattle.npp_frac.specs.Rational.{Rational, ratio}
use Rattle.npp_frac.specs.Fits.{limit_of}

-- a number of a row of whole numbers, and 0 past its end
abbrev pub number_in : List ℤ → ℕ → ℤ
number_in xs j = slice_index_or xs j (pos 0)

-- the whole numbers over a denominator
abbrev pub over : ℕ → List ℤ → List Rational
over d xs = map (λ x. ratio x d) xs

-- the numbers of a row: whole numbers over the denominator, or the others
abbrev pub line_of : Bool → ℕ → List ℤ → List Rational → List Rational
line_of is_whole d xs others = if is_whole then over d xs else others

-- the size below which whole numbers of a row stay: that of the width, and that of a word
unfoldable pub word_limit : ℕ → ℕ
word_limit w = min (limit_of w) (2 ^ 63)

-- no number is longer than b
abbrev pub AreWithin : ℕ → List ℤ → Type 0
AreWithin b xs = (j : ℕ) → nat_abs (number_in xs j) ≤ b

-- whole numbers over a denominator, all below a limit in size
pub record IsCommonForm (limit d b : ℕ) (xs : List ℤ) : Type 0 where
  pub above : 0 < d
  pub denominator : d < limit
  pub bound : b < limit
  pub sizes : AreWithin b xs

-- a row of n numbers with room for whole numbers, which are in form where they are those of the row
pub record IsLine (limit : ℕ) (is_whole : Bool) (d b : ℕ) (xs : List ℤ) (n : ℕ) : Type 0 where
  pub room : length xs ≡ n
  pub form : is_whole ≡ true → IsCommonForm limit d b xs

-- the numerator of a quotient over the size of its divisor
abbrev pub turned : ℤ → ℤ → ℤ
turned x (pos b) = x
turned x (negsuc b) = neg_ℤ x
