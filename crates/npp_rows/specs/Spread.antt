-- The sums of some columns alone, as the sums of all columns of a program.
use Rattle.std.specs.Prelude.{◌≡◌, ℕ, ◌<◌, ◌^◌, ◌==◌, List, [], ◌∷◌, length, map, slice_index, Result, Ok, if◌then◌else◌, All}
use Rattle.std.specs.List.{AllPairs, range_with_len}
use Rattle.npp_frac.specs.Rational.{Rational, zero_ℚ}
use Rattle.npp_frac.specs.declared.refusal.Overflow.{Overflow}
use Rattle.npp_lp.specs.Programs.{Term}
use Rattle.npp_lp.specs.RunningSums.{Sums}

-- the sum of column j, where these columns have these sums, and 0 where it is none of them
abbrev pub sum_among : List ℕ → List (Result Rational (Overflow Rational)) → ℕ → Result Rational (Overflow Rational)
sum_among [] sums j = Ok zero_ℚ
sum_among (c ∷ columns) [] j = Ok zero_ℚ
sum_among (c ∷ columns) (s ∷ sums) j = if c == j then s else sum_among columns sums j

-- the sums of n columns, where these columns have these sums, and all others sum to 0
abbrev pub spread : ℕ → List ℕ → Sums Rational → Sums Rational
spread n columns s = record { negative = s.negative; columns = map (sum_among columns s.columns) (range_with_len 0 n); right = s.right }

-- a term in the column that stands at its place
abbrev pub in_column : List ℕ → Term → Term
in_column columns t = record { column = slice_index columns t.column; value = t.value }

-- the columns in which rows stand, and the sums of all columns
pub record Touched : Type 0 where
  pub columns : List ℕ
  pub all : Sums Rational

-- some of n columns by rising number, as many as there are sums
pub record AreTouched (n : ℕ) (columns : List ℕ) (sums : ℕ) : Type 0 where
  pub rising : AllPairs (λ i j. i < j) columns
  pub inside : All (λ j. j < n) columns
  pub size : sums ≡ length columns
  pub few : n < 2 ^ 32
