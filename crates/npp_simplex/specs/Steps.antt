-- The steps of a replacement in the whole table, whatever the stage.
use Rattle.std.specs.Prelude.{ℕ, List, pos, Bool, not, Option, None, nat_eq, if◌then◌else◌}
use Rattle.std.specs.List.{range_with_len, filter}
use Rattle.std.specs.Ordering.{int_eq}
use Rattle.npp_frac.specs.Rational.{Rational}
use Rattle.npp_frac.specs.Fits.{fits_div}
use Rattle.npp_lp.specs.Verdict.{or_else, first_below}
use Rattle.npp_simplex.specs.declared.place.Place.{Place}
use Rattle.npp_simplex.specs.Tableau.{Tableau, cell, divided_cell, width, height}
use Rattle.npp_simplex.specs.Places.{column_unless, fits_less_product, in_row}

-- whether a number is not 0
abbrev pub is_nonzero : Rational → Bool
is_nonzero q = not (int_eq q.num (pos 0))

-- the columns below n at which a row is not 0, in order
abbrev pub nonzero_columns : (ℕ → Rational) → ℕ → List ℕ
nonzero_columns d n = filter (λ j. is_nonzero (d j)) (range_with_len 0 n)

-- the first column in which a number of row i does not fit when it loses the multiple of a row d that clears column c
abbrev pub row_reduction_stop : ℕ → Tableau → ℕ → (ℕ → Rational) → ℕ → Option ℕ
row_reduction_stop m t c d i = first_below (width t) (λ j. column_unless (fits_less_product m (cell t i j) (cell t i c) (d j)) j)

-- the first column in which a quotient of row r does not fit, whatever the stage: over all columns of the table
abbrev pub row_division_stop : ℕ → Tableau → ℕ → ℕ → Option ℕ
row_division_stop m t r c = first_below (width t) (λ j. column_unless (fits_div m (cell t r j) (cell t r c)) j)

-- the first place in the reduction of row i by row r, divided
abbrev pub whole_row_stop : ℕ → Tableau → ℕ → ℕ → ℕ → Option Place
whole_row_stop m t r c i = in_row i (row_reduction_stop m t c (divided_cell t r c) i)

-- and in a replacement over all rows and columns of the table
abbrev pub whole_pivot_stop : ℕ → Tableau → ℕ → ℕ → Option Place
whole_pivot_stop m t r c =
    or_else (in_row r (row_division_stop m t r c)) (first_below (height t) (λ i. if nat_eq i r then None else whole_row_stop m t r c i))
