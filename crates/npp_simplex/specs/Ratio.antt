-- The column that enters the basis, and the lexicographic rule for the row that leaves it.
use Rattle.std.specs.Prelude.{ℕ, ◌+◌, List, [], ◌∷◌, slice_index, not, Option, Some, None, if◌then◌else◌}
use Rattle.std.specs.List.{range_with_len, filter, list_all}
use Rattle.npp_frac.specs.Rational.{Rational, zero_ℚ, is_less, ◌/ℚ◌}
use Rattle.npp_lp.specs.Verdict.{first_below}
use Rattle.npp_simplex.specs.declared.stage.Stage.{Stage}
use Rattle.npp_simplex.specs.declared.stage.Stage.TheVariants.{Entry, PhaseOne, PhaseTwo}
use Rattle.npp_simplex.specs.Tableau.{Tableau, cell, extra_column, right_column}

-- the column, where its reduced cost in a goal row is positive
abbrev pub rising_at : Tableau → ℕ → ℕ → Option ℕ
rising_at t goal j = if is_less zero_ℚ (cell t goal j) then Some j else None

-- the least column, of the program or a slack, with a positive reduced cost in a goal row
abbrev pub rising_column : Tableau → ℕ → Option ℕ
rising_column t goal = first_below (t.columns + t.rows) (rising_at t goal)

-- the column that enters: phase one begins with the extra column
abbrev pub entering : Stage → Tableau → Option ℕ
entering Entry t = Some (extra_column t)
entering PhaseOne t = rising_column t t.rows
entering PhaseTwo t = rising_column t (t.rows + 1)

-- the rows of the program with a positive entry in a column
abbrev pub positive_rows : Tableau → ℕ → List ℕ
positive_rows t c = filter (λ i. is_less zero_ℚ (cell t i c)) (range_with_len 0 t.rows)

-- the rows that may leave: those with a positive entry in the column, and every row at phase one's first pivot
abbrev pub candidates : Stage → Tableau → ℕ → List ℕ
candidates Entry t c = range_with_len 0 t.rows
candidates PhaseOne t c = positive_rows t c
candidates PhaseTwo t c = positive_rows t c

-- what rows are compared by at column k: the entry over that of the column that enters, and the entry itself at phase one's first pivot
abbrev pub compared : Stage → Tableau → ℕ → ℕ → ℕ → Rational
compared Entry t c k i = cell t i k
compared PhaseOne t c k i = cell t i k /ℚ cell t i c
compared PhaseTwo t c k i = cell t i k /ℚ cell t i c

-- the columns at which rows are compared, in order: the right side, and then the slacks
abbrev pub keys : Tableau → List ℕ
keys t = right_column t ∷ range_with_len t.columns t.rows

-- those rows whose number is the least
abbrev pub least_rows : (ℕ → Rational) → List ℕ → List ℕ
least_rows number rows = filter (λ i. list_all (λ k. not (is_less (number k) (number i))) rows) rows

-- the rows that remain when they are compared at one key after the other, until one row remains
abbrev pub refined : (ℕ → ℕ → Rational) → List ℕ → List ℕ → List ℕ
refined number keys [] = []
refined number keys (i ∷ []) = i ∷ []
refined number [] (i ∷ j ∷ rows) = i ∷ j ∷ rows
refined number (k ∷ keys) (i ∷ j ∷ rows) = refined number keys (least_rows (number k) (i ∷ j ∷ rows))

-- the row that leaves when column c enters: the one that remains
abbrev pub leaving : Stage → Tableau → ℕ → ℕ
leaving s t c = slice_index (refined (compared s t c) (keys t) (candidates s t c)) 0
