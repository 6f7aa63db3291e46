-- What is read off the last tableau of a run.
use Rattle.std.specs.Prelude.{ℕ, ◌+◌, List, length, map, slice_index, nat_eq, Option, Some, None, if◌then◌else◌}
use Rattle.std.specs.List.{range_with_len}
use Rattle.npp_frac.specs.Rational.{Rational, zero_ℚ, one_ℚ, negative}
use Rattle.npp_lp.specs.Verdict.{first_below}
use Rattle.npp_simplex.specs.Tableau.{Tableau, cell, right_column}

-- the row in which a column is basic
abbrev pub basic_row : List ℕ → ℕ → Option ℕ
basic_row basis j = first_below (length basis) (λ i. if nat_eq (slice_index basis i) j then Some i else None)

-- a number of the basic row, and 0 where the column is not basic
abbrev pub basic_value : (ℕ → Rational) → Option ℕ → Rational
basic_value number None = zero_ℚ
basic_value number (Some i) = number i

-- the point: a basic column has the right side of its row, and every other column has 0
abbrev pub point : Tableau → List ℕ → List Rational
point t basis = map (λ j. basic_value (λ i. cell t i (right_column t)) (basic_row basis j)) (range_with_len 0 t.columns)

-- the multipliers: the negatives of the slack entries of a goal row
abbrev pub multipliers : Tableau → ℕ → List Rational
multipliers t goal = map (λ k. negative (cell t goal (t.columns + k))) (range_with_len 0 t.rows)

-- the value of the second goal
abbrev pub value : Tableau → Rational
value t = negative (cell t (t.rows + 1) (right_column t))

-- a number of the ray along column c: 1 there, and the negative of the column's entry at each basic column
abbrev pub ray_value : Tableau → List ℕ → ℕ → ℕ → Rational
ray_value t basis c j = if nat_eq j c then one_ℚ else basic_value (λ i. negative (cell t i c)) (basic_row basis j)

-- the ray along column c
abbrev pub ray : Tableau → List ℕ → ℕ → List Rational
ray t basis c = map (ray_value t basis c) (range_with_len 0 t.columns)
