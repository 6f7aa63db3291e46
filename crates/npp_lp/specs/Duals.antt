-- Multipliers of the rows of a program, and what they prove of it.
use Rattle.std.specs.Prelude.{◌≡◌, ℕ, ◌<◌, List, length}
use Rattle.npp_frac.specs.Rational.{Rational, zero_ℚ, ◌≤ℚ◌, ◌<ℚ◌}
use Rattle.npp_frac.specs.Sums.{sum_by, unit}
use Rattle.npp_lp.specs.Programs.{Term, LinearProgram, at, row_of, product_sum, AreNotNegative}

-- the coefficient of the terms in a column: 0 where none stands there
abbrev pub coefficient : List Term → ℕ → Rational
coefficient terms j = sum_by (λ t. unit t.column t.value j) terms

-- the sum of a column, each coefficient times the multiplier of its row
abbrev pub column_sum : LinearProgram → List Rational → ℕ → Rational
column_sum p y j = product_sum (length p.rows) (λ i. coefficient (row_of p i).terms j) (at y)

-- the sum of the right sides, each times the multiplier of its row
abbrev pub right_value : LinearProgram → List Rational → Rational
right_value p y = product_sum (length p.rows) (λ i. (row_of p i).right) (at y)

-- a dual answer of value v: a multiplier for each row, none below 0, with each column sum at least its goal.
-- It proves that no point has a goal above v (weak duality)
pub record IsDualAnswer (p : LinearProgram) (y : List Rational) (v : Rational) : Type 0 where
  pub size : length y ≡ length p.rows
  pub not_negative : AreNotNegative y
  pub columns : (j : ℕ) → j < p.columns → at p.goal j ≤ℚ column_sum p y j
  pub value : v ≡ right_value p y

-- a Farkas answer: a multiplier for each row, none below 0, with each column sum at least 0 and the right sides' sum
-- below 0. It proves that there is no point (the easy half of the lemma of Farkas)
pub record IsFarkasAnswer (p : LinearProgram) (y : List Rational) : Type 0 where
  pub size : length y ≡ length p.rows
  pub not_negative : AreNotNegative y
  pub columns : (j : ℕ) → j < p.columns → zero_ℚ ≤ℚ column_sum p y j
  pub value : right_value p y <ℚ zero_ℚ
