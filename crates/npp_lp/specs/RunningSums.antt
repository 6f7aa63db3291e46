-- The sums of a program, formed row by row: each row that is taken joins the sum of each of its columns, and that of the
-- right sides.
use Rattle.std.specs.Prelude.{◌≡◌, ℕ, ◌<◌, List, map, length, slice_index_or, slice_set, Option, Some, None, Result, Ok, Err, if◌then◌else◌}
use Rattle.std.specs.List.{fold}
use Rattle.npp_frac.specs.Rational.{Rational, zero_ℚ, is_less}
use Rattle.npp_frac.specs.Fits.{FitsBelow}
use Rattle.npp_frac.specs.declared.refusal.Overflow.{Overflow}
use Rattle.npp_lp.specs.declared.multiplier.RowMultiplier.{RowMultiplier}
use Rattle.npp_lp.specs.declared.faults.DualFault.{DualFault}
use Rattle.npp_lp.specs.declared.faults.FarkasFault.{FarkasFault}
use Rattle.npp_lp.specs.Verdict.{or_else}
use Rattle.npp_lp.specs.Programs.{Term, LinearProgram, row_of}
use Rattle.npp_lp.specs.Duals.{coefficient}
use Rattle.npp_lp.specs.Sums.{joined_sum}
use Rattle.npp_lp.specs.DualVerdict.{dual_judgement}
use Rattle.npp_lp.specs.FarkasVerdict.{farkas_judgement}
use Rattle.npp_lp.specs.Meaning.{sum_result}

-- the first row whose multiplier is below 0, and for each column and for the right sides the sum, or its first operation
-- that did not fit
pub record Sums (N : Type 0) : Type 0 where
  pub negative : Option ℕ
  pub columns : List (Result N (Overflow N))
  pub right : Result N (Overflow N)

abbrev pub sums_meant : {N : Type 0} → (N → Rational) → Sums N → Sums Rational
sums_meant value s = record { negative = s.negative; columns = map (sum_result value) s.columns; right = sum_result value s.right }

abbrev pub column_of : Sums Rational → ℕ → Result Rational (Overflow Rational)
column_of s j = slice_index_or s.columns j (Ok zero_ℚ)

-- a sum with one more product, unless an earlier operation did not fit
abbrev pub joined : ℕ → Result Rational (Overflow Rational) → Rational → Rational → Result Rational (Overflow Rational)
joined m (Ok sum) a b = joined_sum m sum a b
joined m (Err o) a b = Err o

-- the first row of a multiplier below 0, with one more row
abbrev pub first_negative_row : Option ℕ → ℕ → Rational → Option ℕ
first_negative_row first row y = or_else first (if is_less y zero_ℚ then Some row else None)

-- with one more term of a row whose multiplier is y
abbrev pub with_term : ℕ → Sums Rational → Term → Rational → Sums Rational
with_term m s t y = record { negative = s.negative; columns = slice_set s.columns t.column (joined m (column_of s t.column) t.value y); right = s.right }

abbrev pub with_terms : ℕ → Sums Rational → List Term → Rational → Sums Rational
with_terms m s ts y = fold (λ s t. with_term m s t y) s ts

-- with one more right side
abbrev pub with_right : ℕ → Sums Rational → ℕ → Rational → Rational → Sums Rational
with_right m s row b y = record { negative = first_negative_row s.negative row y; columns = s.columns; right = joined m s.right b y }

-- each sum that was formed is a value of the width
pub record SumsFit (m : ℕ) (s : Sums Rational) : Type 0 where
  pub columns : (j : ℕ) → j < length s.columns → (t : Rational) → column_of s j ≡ Ok t → FitsBelow m t

-- no row is taken yet
pub record AreEmpty (n : ℕ) (s : Sums Rational) : Type 0 where
  pub size : length s.columns ≡ n
  pub negative : s.negative ≡ None
  pub columns : (j : ℕ) → j < n → column_of s j ≡ Ok zero_ℚ
  pub right : s.right ≡ Ok zero_ℚ

-- one more row is taken, with its multiplier
pub record TakesRow (m : ℕ) (s t : Sums Rational) (row : ℕ) (terms : List Term) (b y : Rational) : Type 0 where
  pub size : length t.columns ≡ length s.columns
  pub negative : t.negative ≡ first_negative_row s.negative row y
  pub columns : (j : ℕ) → j < length s.columns → column_of t j ≡ joined m (column_of s j) (coefficient terms j) y
  pub right : t.right ≡ joined m s.right b y

-- the sum of the products of some numbers of the rows with their multipliers, in order
abbrev pub taken_sum : ℕ → (ℕ → Rational) → List (RowMultiplier Rational) → Result Rational (Overflow Rational)
taken_sum m a ys = fold (λ s y. joined m s (a y.row) y.value) (Ok zero_ℚ) ys

-- the sums of a program at these multipliers
pub record AreSumsOf (m : ℕ) (p : LinearProgram) (ys : List (RowMultiplier Rational)) (s : Sums Rational) : Type 0 where
  pub size : length s.columns ≡ p.columns
  pub negative : s.negative ≡ fold (λ first y. first_negative_row first y.row y.value) None ys
  pub columns : (j : ℕ) → j < p.columns → column_of s j ≡ taken_sum m (λ i. coefficient (row_of p i).terms j) ys
  pub right : s.right ≡ taken_sum m (λ i. (row_of p i).right) ys

-- the sums judged as a dual answer, in the order of a check of one
abbrev pub dual_of_sums : Sums Rational → List Rational → Result Rational (DualFault Rational)
dual_of_sums s goal = dual_judgement s.negative (length s.columns) (column_of s) goal s.right

-- the sums judged as a Farkas answer
abbrev pub farkas_of_sums : Sums Rational → Result (Unit {0}) (FarkasFault Rational)
farkas_of_sums s = farkas_judgement s.negative (length s.columns) (column_of s) s.right
