-- A linear program by the names of its rows and columns: a coefficient for each row and column, a right side for each
-- row and a goal for each column. The numbered program is its image.
use Rattle.std.specs.Prelude.{ℕ, ◌+◌, List, [], ◌∷◌, ◌++◌, length, map, Bool, if◌then◌else◌}
use Rattle.npp_frac.specs.Rational.{Rational, zero_ℚ, one_ℚ, ◌*ℚ◌}
use Rattle.npp_frac.specs.Sums.{sum_by}
use Rattle.npp_lp.specs.Programs.{Term, LinearProgram}
use Rattle.npp_lp.specs.Building.{term_at}
use Rattle.npp_rows.specs.declared.names.RowName.{RowName}
use Rattle.npp_rows.specs.declared.names.ColumnName.{ColumnName}

pub record NamedProgram : Type 0 where
  -- its columns and rows, in order
  pub columns : List ColumnName
  pub rows : List RowName
  pub entry : RowName → ColumnName → Rational
  pub right : RowName → Rational
  pub goal : ColumnName → Rational

-- 1 where a test holds, and else 0
abbrev pub one_if : Bool → Rational
one_if test = if test then one_ℚ else zero_ℚ

-- the terms of a row over columns the first of which has number n
abbrev pub terms_from : ℕ → (ColumnName → Rational) → List ColumnName → List Term
terms_from n entry [] = []
terms_from n entry (c ∷ rest) = term_at n (entry c) ++ terms_from (n + 1) entry rest

-- the terms of numbers in a row of columns the first of which has number n
abbrev pub numbers_from : ℕ → (ℕ → Rational) → List ℕ → List Term
numbers_from n number [] = []
numbers_from n number (x ∷ rest) = term_at n (number x) ++ numbers_from (n + 1) number rest

-- the program with its rows and columns numbered in their order
abbrev pub numbered : NamedProgram → LinearProgram
numbered p = record {
  columns = length p.columns;
  rows = map (λ r. record { terms = terms_from 0 (p.entry r) p.columns; right = p.right r }) p.rows;
  goal = map p.goal p.columns;
}

-- the numbers of its columns as a vector
abbrev pub vector : NamedProgram → (ColumnName → Rational) → List Rational
vector p x = map x p.columns

-- a row's coefficients over some columns, each times the number of its column
abbrev pub value_over : List ColumnName → (ColumnName → Rational) → (ColumnName → Rational) → Rational
value_over columns entry x = sum_by (λ c. entry c *ℚ x c) columns
