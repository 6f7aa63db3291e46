-- The tableaus of the simplex, tables of rational numbers, and one exact pivot.
use Rattle.std.specs.Prelude.{ℕ, ◌+◌, List, [], map, slice_index_or, nat_eq, ◌||◌, if◌then◌else◌}
use Rattle.std.specs.List.{range_with_len}
use Rattle.npp_frac.specs.Rational.{Rational, zero_ℚ, ◌-ℚ◌, ◌*ℚ◌, ◌/ℚ◌}
use Rattle.npp_lp.specs.Programs.{at}

-- The columns are those of the program, then a slack column for each row, then the extra column of phase one, then the
-- right side. The rows are those of the program, then the goal row of phase one, then the goal row of phase two.
-- A goal row holds reduced costs, and its right side is the negative of the value.
-- Phase two, and a program where no phase one stands, has no extra column and no goal row of phase one. The other rows and
-- columns keep their numbers, and what a table holds there (0) is read by no part of the run: by no choice of a column or a
-- row, no test of size, no other cell, and nothing that is read off the last table. `PhaseTwo` states it.
pub record Tableau : Type 0 where
  -- how many rows and columns the program has
  pub rows : ℕ
  pub columns : ℕ
  pub cells : List (List Rational)

abbrev pub extra_column : Tableau → ℕ
extra_column t = t.columns + t.rows

abbrev pub right_column : Tableau → ℕ
right_column t = t.columns + t.rows + 1

abbrev pub width : Tableau → ℕ
width t = t.columns + t.rows + 2

abbrev pub height : Tableau → ℕ
height t = t.rows + 2

-- the number in a row and a column
abbrev pub cell : Tableau → ℕ → ℕ → Rational
cell t i j = at (slice_index_or t.cells i []) j

-- the table with these cells
abbrev pub table : ℕ → ℕ → (ℕ → ℕ → Rational) → List (List Rational)
table h w f = map (λ i. map (λ j. f i j) (range_with_len 0 w)) (range_with_len 0 h)

-- the row of a pivot, divided by its entry in the pivot's column
abbrev pub divided_cell : Tableau → ℕ → ℕ → ℕ → Rational
divided_cell t r c j = cell t r j /ℚ cell t r c

-- a cell after the pivot on row r and column c: each other row loses its multiple of the divided row
abbrev pub pivoted_cell : Tableau → ℕ → ℕ → ℕ → ℕ → Rational
pivoted_cell t r c i j = if nat_eq i r then divided_cell t r c j else cell t i j -ℚ cell t i c *ℚ divided_cell t r c j

-- the tableau of the same program with these cells
abbrev pub with_cells : Tableau → (ℕ → ℕ → Rational) → Tableau
with_cells t f = record { rows = t.rows; columns = t.columns; cells = table (height t) (width t) f }

-- the tableau with these numbers in row i
abbrev pub with_row : Tableau → ℕ → (ℕ → Rational) → Tableau
with_row t i row = with_cells t (λ k j. if nat_eq k i then row j else cell t k j)

-- the tableau after the pivot on row r and column c
abbrev pub pivoted : Tableau → ℕ → ℕ → Tableau
pivoted t r c = with_cells t (pivoted_cell t r c)

-- a cell without the goal row of phase one and the extra column
abbrev pub cell_without_extra : Tableau → ℕ → ℕ → Rational
cell_without_extra t i j = if nat_eq i t.rows || nat_eq j (extra_column t) then zero_ℚ else cell t i j

-- the goal row of phase one and the extra column are dropped
abbrev pub without_extra : Tableau → Tableau
without_extra t = with_cells t (cell_without_extra t)
