-- The sums of a program at a width: begun at 0, in row order for a column, in column order for a row and for the goal.
use Rattle.std.specs.Prelude.{ℕ, List, length, slice_index_or, Result, IsOk, ◌<◌}
use Rattle.npp_frac.specs.Rational.{Rational, zero_ℚ}
use Rattle.npp_frac.specs.declared.refusal.Overflow.{Overflow}
use Rattle.npp_lp.specs.Programs.{Term, LinearProgram, at, row_of}
use Rattle.npp_lp.specs.Duals.{coefficient}
use Rattle.npp_lp.specs.Sums.{checked_sum}

-- the sum of a column
abbrev pub checked_column : ℕ → LinearProgram → List Rational → ℕ → Result Rational (Overflow Rational)
checked_column m p y j = checked_sum m (length p.rows) (λ i. coefficient (row_of p i).terms j) (at y)

-- the sum of the right sides
abbrev pub checked_right : ℕ → LinearProgram → List Rational → Result Rational (Overflow Rational)
checked_right m p y = checked_sum m (length p.rows) (λ i. (row_of p i).right) (at y)

-- what is read past the last term
abbrev pub no_term : Term
no_term = record { column = 0; value = zero_ℚ }

-- the sum of the terms at a point
abbrev pub checked_terms : ℕ → List Term → List Rational → Result Rational (Overflow Rational)
checked_terms m terms x =
    checked_sum m (length terms) (λ k. (slice_index_or terms k no_term).value) (λ k. at x (slice_index_or terms k no_term).column)

-- the goal at a point
abbrev pub checked_goal : ℕ → LinearProgram → List Rational → Result Rational (Overflow Rational)
checked_goal m p x = checked_sum m p.columns (at p.goal) (at x)

-- the sums by which multipliers are judged are formed: that of each column, and that of the right sides
pub record MultiplierSumsFit (m : ℕ) (p : LinearProgram) (y : List Rational) : Type 0 where
  pub columns : (j : ℕ) → j < p.columns → IsOk (checked_column m p y j)
  pub right : IsOk (checked_right m p y)
