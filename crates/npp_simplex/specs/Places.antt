-- The first place of a pivot at which a number does not fit a width. With no limit every number fits.
use Rattle.std.specs.Prelude.{ℕ, List, [], ◌∷◌, length, slice_index, Bool, true, not, ◌&&◌, Option, Some, None, Result, Ok, nat_eq, if◌then◌else◌}
use Rattle.npp_frac.specs.Rational.{Rational, ◌*ℚ◌}
use Rattle.npp_frac.specs.Fits.{fits_sub, fits_mul, fits_div}
use Rattle.npp_lp.specs.Verdict.{or_else, first_below, unless}
use Rattle.npp_simplex.specs.declared.place.Place.{Place}
use Rattle.npp_simplex.specs.declared.place.Step.TheVariants.{Ratio, Pivot}
use Rattle.npp_simplex.specs.declared.stage.Stage.{Stage}
use Rattle.npp_simplex.specs.declared.stage.Stage.TheVariants.{Entry, PhaseOne, PhaseTwo}
use Rattle.npp_simplex.specs.Tableau.{Tableau, extra_column, cell, divided_cell, width, height}
use Rattle.npp_simplex.specs.Ratio.{candidates, compared, keys, least_rows, refined, leaving}

-- whether a stage has a row: phase two has no goal row of phase one
abbrev pub has_row : Stage → Tableau → ℕ → Bool
has_row Entry t i = true
has_row PhaseOne t i = true
has_row PhaseTwo t i = not (nat_eq i t.rows)

-- whether a stage has a column: phase two has no extra column
abbrev pub has_column : Stage → Tableau → ℕ → Bool
has_column Entry t j = true
has_column PhaseOne t j = true
has_column PhaseTwo t j = not (nat_eq j (extra_column t))

-- whether a test of size holds at the limit
abbrev pub fits_at : Option ℕ → (ℕ → Bool) → Bool
fits_at None fits = true
fits_at (Some limit) fits = fits limit

abbrev pub place_unless : Bool → Place → Option Place
place_unless fits place = if fits then None else Some place

-- the column, where a number in it does not fit
abbrev pub column_unless : Bool → ℕ → Option ℕ
column_unless fits j = if fits then None else Some j

-- whether a number less the product of two fits: the product, and then the difference
abbrev pub fits_less_product : ℕ → Rational → Rational → Rational → Bool
fits_less_product m x y z = fits_mul m y z && fits_sub m x (y *ℚ z)

-- the first of some rows at which there is a fault
abbrev pub first_row : (ℕ → Option Place) → List ℕ → Option Place
first_row fault rows = first_below (length rows) (λ k. fault (slice_index rows k))

-- whether the quotient of row i at column k fits: phase one's first pivot divides nothing in its choice
abbrev pub quotient_fits : Option ℕ → Stage → Tableau → ℕ → ℕ → ℕ → Bool
quotient_fits limit Entry t c k i = true
quotient_fits limit PhaseOne t c k i = fits_at limit (λ m. fits_div m (cell t i k) (cell t i c))
quotient_fits limit PhaseTwo t c k i = fits_at limit (λ m. fits_div m (cell t i k) (cell t i c))

abbrev pub quotient_stop : Option ℕ → Stage → Tableau → ℕ → ℕ → ℕ → Option Place
quotient_stop limit s t c k i = place_unless (quotient_fits limit s t c k i) (record { step = Ratio; row = i; column = k })

-- at one column of the ratio test, in the order of the rows
abbrev pub quotients_stop : Option ℕ → Stage → Tableau → ℕ → ℕ → List ℕ → Option Place
quotients_stop limit s t c k rows = first_row (quotient_stop limit s t c k) rows

-- in a ratio test, column by column; where one row remains nothing is divided
abbrev pub ratio_stop : Option ℕ → Stage → Tableau → ℕ → List ℕ → List ℕ → Option Place
ratio_stop limit s t c keys [] = None
ratio_stop limit s t c keys (i ∷ []) = None
ratio_stop limit s t c [] (i ∷ j ∷ rows) = None
ratio_stop limit s t c (k ∷ keys) (i ∷ j ∷ rows) =
    or_else (quotients_stop limit s t c k (i ∷ j ∷ rows)) (ratio_stop limit s t c keys (least_rows (compared s t c k) (i ∷ j ∷ rows)))

-- the row that remains of some rows when they are compared at one key after the other, or the first place that does not fit
abbrev pub remaining : Option ℕ → Stage → Tableau → ℕ → List ℕ → List ℕ → Result ℕ Place
remaining limit s t c keys rows = unless (ratio_stop limit s t c keys rows) (Ok (slice_index (refined (compared s t c) keys rows) 0))

-- the place in a row of a replacement
abbrev pub in_row : ℕ → Option ℕ → Option Place
in_row i None = None
in_row i (Some j) = Some (record { step = Pivot; row = i; column = j })

-- the first column of the stage in which a number does not fit
abbrev pub first_column : Stage → Tableau → (ℕ → Bool) → Option ℕ
first_column s t fits = first_below (width t) (λ j. if has_column s t j then column_unless (fits j) j else None)

-- where row r is divided by its entry in column c
abbrev pub division_stop : Option ℕ → Stage → Tableau → ℕ → ℕ → Option Place
division_stop limit s t r c = in_row r (first_column s t (λ j. fits_at limit (λ m. fits_div m (cell t r j) (cell t r c))))

-- where row i loses its multiple of the divided row
abbrev pub row_stop : Option ℕ → Stage → Tableau → ℕ → ℕ → ℕ → Option Place
row_stop limit s t r c i =
    in_row i (first_column s t (λ j. fits_at limit (λ m. fits_less_product m (cell t i j) (cell t i c) (divided_cell t r c j))))

-- in a replacement: row r first, and then the other rows of the stage in order
abbrev pub pivot_stop : Option ℕ → Stage → Tableau → ℕ → ℕ → Option Place
pivot_stop limit s t r c =
    or_else (division_stop limit s t r c)
    (first_below (height t) (λ i. if has_row s t i && not (nat_eq i r) then row_stop limit s t r c i else None))

-- in a whole pivot: its ratio test, and then its replacement
abbrev pub first_stop : Option ℕ → Stage → Tableau → ℕ → ℕ → Option Place
first_stop limit s t r c = or_else (ratio_stop limit s t c (keys t) (candidates s t c)) (pivot_stop limit s t r c)

-- the row that leaves when column c enters, whose candidates are these; none where there are none, or the first place of the
-- pivot that does not fit
abbrev pub pivot_row : Option ℕ → Stage → Tableau → ℕ → List ℕ → Result (Option ℕ) Place
pivot_row limit s t c [] = Ok None
pivot_row limit s t c (i ∷ rows) = unless (first_stop limit s t (leaving s t c) c) (Ok (Some (leaving s t c)))
