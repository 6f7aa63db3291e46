-- Where a run meets a number that does not fit: at a pivot that the cap allows, and at a place of the tableau of its program.
use Rattle.std.proofs.Common.{◌≡◌, ◌∙◌, ap, subst, refl, inl, inr, ◌⊎◌, ℕ, zero, suc, ◌+◌, ◌<◌, ◌≤◌, Bool, true, false, ◌&&◌, not, cond, List, [], ◌∷◌, length, All, Option, Some, None, arith}
use Rattle.std.specs.Prelude.{slice_index, nat_eq}
use Rattle.std.specs.List.{range_with_len, list_all}
use Rattle.std.proofs.lemmas.List.Elements.{All-cons, All-filter}
use Rattle.std.proofs.lemmas.List.FromFn.{length-range_with_len, get_or-range_with_len}
use Rattle.npp_frac.specs.Rational.{Rational, zero_ℚ, is_less}
use Rattle.npp_frac.specs.Fits.{fits_div}
use Rattle.npp_lp.specs.Verdict.{or_else, first_below}
use Rattle.npp_lp.specs.Programs.{LinearProgram}
use Rattle.npp_simplex.specs.declared.place.Place.{Place}
use Rattle.npp_simplex.specs.declared.place.Step.TheVariants.{Ratio, Pivot}
use Rattle.npp_simplex.specs.declared.stage.Stage.{Stage}
use Rattle.npp_simplex.specs.declared.stage.Stage.TheVariants.{Entry, PhaseOne, PhaseTwo}
use Rattle.npp_simplex.specs.Tableau.{Tableau, cell, divided_cell, width, height, pivoted}
use Rattle.npp_simplex.specs.Ratio.{entering, candidates, compared, keys, least_rows, refined, leaving}
use Rattle.npp_simplex.specs.Places.{has_row, has_column, fits_at, place_unless, column_unless, fits_less_product, quotient_fits, quotient_stop, quotients_stop, ratio_stop, in_row, first_column, division_stop, row_stop, pivot_stop, first_stop}
use Rattle.npp_simplex.specs.Run.{State, Outcome, Overflow, Next, PivotOn, NoColumn, NoRow, chosen_row, chosen_column, next, stage_after, handed_on, state_after, no_column, no_row, finished, stepped, turned, run_from, run, first_state}

-- a place in one of so many rows and one of so many columns
pub record IsInside (rows columns : ℕ) (p : Place) : Type 0 where
  pub row : p.row < rows
  pub column : p.column < columns

module _ (h w : ℕ) where
  -- where something stops, it stops at such a place
  abbrev StopsInside : Option Place → Type 0
  StopsInside stop = (p : Place) → stop ≡ Some p → IsInside h w p

  never : StopsInside None
  never p e = cc

  at_place : (q : Place) → IsInside h w q → StopsInside (Some q)
  at_place q inside p e = let same : q ≡ p = cc in subst (IsInside h w) same inside

  either_inside : (a b : Option Place) → StopsInside a → StopsInside b → StopsInside (or_else a b)
  either_inside None b i j = j
  either_inside (Some p) b i j = i

  first_inside : (n : ℕ) (f : ℕ → Option Place) → ((i : ℕ) → i < n → StopsInside (f i)) → StopsInside (first_below n f)
  first_inside zero f i = never
  first_inside (suc n) f i = either_inside (first_below n f) (f n) (first_inside n f (λ k l. i k (omega arith))) (i n (omega arith))

  unless_inside : (b : Bool) (q : Place) → IsInside h w q → StopsInside (place_unless b q)
  unless_inside true q inside = never
  unless_inside false q inside = at_place q inside

  in_row_inside : (i : ℕ) (o : Option ℕ) → i < h → ((j : ℕ) → o ≡ Some j → j < w) → StopsInside (in_row i o)
  in_row_inside i None l k = never
  in_row_inside i (Some j) l k = at_place (record { step = Pivot; row = i; column = j }) (record { row = l; column = k j refl })

  where_inside : (b : Bool) (o : Option Place) → StopsInside o → StopsInside (cond b o None)
  where_inside true o i = i
  where_inside false o i = never

-- ---- the first column

or_cases : (a b : Option ℕ) (j : ℕ) → or_else a b ≡ Some j → (a ≡ Some j) ⊎ (b ≡ Some j)
or_cases None b j e = inr e
or_cases (Some i) b j e = inl e

found_below : (n : ℕ) (f : ℕ → Option ℕ) → ((i j : ℕ) → f i ≡ Some j → i ≡ j) → (j : ℕ) → first_below n f ≡ Some j → j < n
found_below zero f own j e = cc
found_below (suc n) f own j e = elim (or_cases (first_below n f) (f n) j e) [
  | inl a ↦ (let before : j < n = found_below n f own j a in omega arith)
  | inr b ↦ (let same : n ≡ j = own n j b in omega arith)
]

own_column : (b c : Bool) (i j : ℕ) → cond b (column_unless c i) None ≡ Some j → i ≡ j
own_column true true i j e = cc
own_column true false i j e = cc
own_column false c i j e = cc

column_inside : (s : Stage) (t : Tableau) (fits : ℕ → Bool) (j : ℕ) → first_column s t fits ≡ Some j → j < width t
column_inside s t fits j e =
    found_below (width t) (λ i. cond (has_column s t i) (column_unless (fits i) i) None) (λ i k f. own_column (has_column s t i) (fits i) i k f) j e

-- ---- rows and keys of a tableau

range_below : (a n top : ℕ) → a + n ≤ top → All (λ i. i < top) (range_with_len a n)
range_below a n top l k d h =
    let lt : k < n = omega (arith, h, length-range_with_len a n) in
    omega (arith, l, lt, get_or-range_with_len a n k d lt)

keys_below : (t : Tableau) → All (λ k. k < width t) (keys t)
keys_below t = All-cons (λ k. k < width t) (t.columns + t.rows + 1) (range_with_len t.columns t.rows) (omega arith) (range_below t.columns t.rows (width t) (omega arith))

candidates_below : (s : Stage) (t : Tableau) (c : ℕ) → All (λ i. i < height t) (candidates s t c)
candidates_below Entry t c = range_below 0 t.rows (height t) (omega arith)
candidates_below PhaseOne t c = All-filter (λ i. is_less zero_ℚ (cell t i c)) (λ i. i < height t) (range_with_len 0 t.rows) (range_below 0 t.rows (height t) (omega arith))
candidates_below PhaseTwo t c = All-filter (λ i. is_less zero_ℚ (cell t i c)) (λ i. i < height t) (range_with_len 0 t.rows) (range_below 0 t.rows (height t) (omega arith))

least_below : (top : ℕ) (number : ℕ → Rational) (rows : List ℕ) → All (λ i. i < top) rows → All (λ i. i < top) (least_rows number rows)
least_below top number rows all = All-filter (λ i. list_all (λ k. not (is_less (number k) (number i))) rows) (λ i. i < top) rows all

refined_below : (top : ℕ) (number : ℕ → ℕ → Rational) (keys rows : List ℕ) → All (λ i. i < top) rows → All (λ i. i < top) (refined number keys rows)
refined_below top number keys [] all = all
refined_below top number keys (i ∷ []) all = all
refined_below top number [] (i ∷ j ∷ rows) all = all
refined_below top number (k ∷ keys) (i ∷ j ∷ rows) all =
    refined_below top number keys (least_rows (number k) (i ∷ j ∷ rows)) (least_below top (number k) (i ∷ j ∷ rows) all)

first_of : (top : ℕ) (xs : List ℕ) → 0 < top → All (λ i. i < top) xs → slice_index xs 0 < top
first_of top [] some all = some
first_of top (x ∷ xs) some all = all 0 0 (omega arith)

leaving_below : (s : Stage) (t : Tableau) (c : ℕ) → leaving s t c < height t
leaving_below s t c =
    first_of (height t) (refined (compared s t c) (keys t) (candidates s t c)) (omega arith)
    (refined_below (height t) (compared s t c) (keys t) (candidates s t c) (candidates_below s t c))

-- ---- a pivot

module _ (limit : Option ℕ) (s : Stage) (t : Tableau) where
  quotients_inside : (c k : ℕ) (rows : List ℕ) → k < width t → All (λ i. i < height t) rows → StopsInside (height t) (width t) (quotients_stop limit s t c k rows)
  quotients_inside c k rows l all =
      first_inside (height t) (width t) (length rows) (λ n. quotient_stop limit s t c k (slice_index rows n))
      (λ n lt. unless_inside (height t) (width t) (quotient_fits limit s t c k (slice_index rows n)) (record { step = Ratio; row = slice_index rows n; column = k }) (record { row = all n 0 lt; column = l }))

  ratio_inside : (c : ℕ) (keys rows : List ℕ) → All (λ k. k < width t) keys → All (λ i. i < height t) rows → StopsInside (height t) (width t) (ratio_stop limit s t c keys rows)
  ratio_inside c keys [] below all = never (height t) (width t)
  ratio_inside c keys (i ∷ []) below all = never (height t) (width t)
  ratio_inside c [] (i ∷ j ∷ rows) below all = never (height t) (width t)
  ratio_inside c (k ∷ keys) (i ∷ j ∷ rows) below all =
      either_inside (height t) (width t) (quotients_stop limit s t c k (i ∷ j ∷ rows)) (ratio_stop limit s t c keys (least_rows (compared s t c k) (i ∷ j ∷ rows)))
      (quotients_inside c k (i ∷ j ∷ rows) (below 0 0 (omega arith)) all)
      (ratio_inside c keys (least_rows (compared s t c k) (i ∷ j ∷ rows)) (λ n d l. below (suc n) d (omega (arith, l))) (least_below (height t) (compared s t c k) (i ∷ j ∷ rows) all))

  row_inside : (r c i : ℕ) → i < height t → StopsInside (height t) (width t) (row_stop limit s t r c i)
  row_inside r c i l =
      in_row_inside (height t) (width t) i (first_column s t (λ j. fits_at limit (λ m. fits_less_product m (cell t i j) (cell t i c) (divided_cell t r c j)))) l
      (column_inside s t (λ j. fits_at limit (λ m. fits_less_product m (cell t i j) (cell t i c) (divided_cell t r c j))))

  pivot_inside : (r c : ℕ) → r < height t → StopsInside (height t) (width t) (pivot_stop limit s t r c)
  pivot_inside r c l =
      either_inside (height t) (width t) (division_stop limit s t r c) (first_below (height t) (λ i. cond (has_row s t i && not (nat_eq i r)) (row_stop limit s t r c i) None))
      (in_row_inside (height t) (width t) r (first_column s t (λ j. fits_at limit (λ m. fits_div m (cell t r j) (cell t r c)))) l
      (column_inside s t (λ j. fits_at limit (λ m. fits_div m (cell t r j) (cell t r c)))))
      (first_inside (height t) (width t) (height t) (λ i. cond (has_row s t i && not (nat_eq i r)) (row_stop limit s t r c i) None)
      (λ i lt. where_inside (height t) (width t) (has_row s t i && not (nat_eq i r)) (row_stop limit s t r c i) (row_inside r c i lt)))

  stop_inside : (r c : ℕ) → r < height t → StopsInside (height t) (width t) (first_stop limit s t r c)
  stop_inside r c l =
      either_inside (height t) (width t) (ratio_stop limit s t c (keys t) (candidates s t c)) (pivot_stop limit s t r c)
      (ratio_inside c (keys t) (candidates s t c) (keys_below t) (candidates_below s t c)) (pivot_inside r c l)

-- ---- the run

-- the row of a pivot is a row of the tableau
chosen_inside : (s : Stage) (t : Tableau) (e : ℕ) (rows : List ℕ) (r c : ℕ) → chosen_row s t e rows ≡ PivotOn r c → r < height t
chosen_inside s t e [] r c h = cc
chosen_inside s t e (i ∷ rows) r c h = let same : leaving s t e ≡ r = cc in subst (λ (k : ℕ). k < height t) same (leaving_below s t e)

asked_inside : (s : Stage) (t : Tableau) (o : Option ℕ) (r c : ℕ) → chosen_column s t o ≡ PivotOn r c → r < height t
asked_inside s t None r c h = cc
asked_inside s t (Some e) r c h = chosen_inside s t e (candidates s t e) r c h

handed_rows : (s after : Stage) (t : Tableau) → (handed_on s after t).rows ≡ t.rows
handed_rows Entry after t = refl
handed_rows PhaseOne Entry t = refl
handed_rows PhaseOne PhaseOne t = refl
handed_rows PhaseOne PhaseTwo t = refl
handed_rows PhaseTwo after t = refl

handed_columns : (s after : Stage) (t : Tableau) → (handed_on s after t).columns ≡ t.columns
handed_columns Entry after t = refl
handed_columns PhaseOne Entry t = refl
handed_columns PhaseOne PhaseOne t = refl
handed_columns PhaseOne PhaseTwo t = refl
handed_columns PhaseTwo after t = refl

no_overflow_column : (s : Stage) (t : Tableau) (basis : List ℕ) (made k : ℕ) (place : Place) → no_column s t basis made ≡ Overflow k place → ⊥
no_overflow_column Entry t basis made k place e = cc
no_overflow_column PhaseOne t basis made k place e = cc
no_overflow_column PhaseTwo t basis made k place e = cc

no_overflow_row : (t : Tableau) (basis : List ℕ) (c made k : ℕ) (place : Place) → no_row t basis c made ≡ Overflow k place → ⊥
no_overflow_row t basis c made k place e = cc

finished_well : (x : State) (made : ℕ) (n : Next) (k : ℕ) (place : Place) → finished x made n ≡ Overflow k place → ⊥
finished_well x made (PivotOn r c) k place e = cc
finished_well x made NoColumn k place e = no_overflow_column x.stage x.tableau x.basis made k place e
finished_well x made (NoRow c) k place e = no_overflow_row x.tableau x.basis c made k place e

-- where a run stops: at a pivot of at most this number, and inside the tableau
pub record IsStop (rows columns top k : ℕ) (place : Place) : Type 0 where
  pub pivot : k ≤ top
  pub inside : IsInside (rows + 2) (columns + rows + 2) place

module _ (limit : Option ℕ) (rows columns : ℕ) where
  -- a state of the run of a program of this size
  abbrev HasSize : State → Type 0
  HasSize x = (x.tableau.rows ≡ rows) × (x.tableau.columns ≡ columns)

  abbrev StopsWell : ℕ → Outcome → Type 0
  StopsWell top out = (k : ℕ) (place : Place) → out ≡ Overflow k place → IsStop rows columns top k place

  keeps_size : (x : State) (r c : ℕ) → HasSize x → HasSize (state_after x r c)
  keeps_size x r c h =
      (handed_rows x.stage (stage_after x.stage x.tableau x.basis r) (pivoted x.tableau r c) ∙ h.0, handed_columns x.stage (stage_after x.stage x.tableau x.basis r) (pivoted x.tableau r c) ∙ h.1)

  stepped_well : (made top : ℕ) (stop : Option Place) (rest : Outcome) → made < top → StopsInside (rows + 2) (columns + rows + 2) stop → StopsWell top rest → StopsWell top (stepped made stop rest)
  stepped_well made top None rest l inside well k place e = well k place e
  stepped_well made top (Some p) rest l inside well k place e =
      let number : made + 1 ≡ k = cc in
      let same : p ≡ place = cc in
      record { pivot = omega arith; inside = inside place (ap Some same) }

  turned_well : (x : State) (made top : ℕ) (rest : State → Outcome) (n : Next) → HasSize x → made < top → ((r c : ℕ) → n ≡ PivotOn r c → r < height x.tableau)
      → ((r c : ℕ) → StopsWell top (rest (state_after x r c))) → StopsWell top (turned limit x made rest n)
  turned_well x made top rest (PivotOn r c) size l row well k place e =
      stepped_well made top (first_stop limit x.stage x.tableau r c) (rest (state_after x r c)) l
      (λ p e. let inside : IsInside (height x.tableau) (width x.tableau) p = stop_inside limit x.stage x.tableau r c (row r c refl) p e in
      record { row = omega (arith, inside.row, size.0); column = omega (arith, inside.column, size.0, size.1) })
      (well r c) k place e
  turned_well x made top rest NoColumn size l row well k place e = absurd (no_overflow_column x.stage x.tableau x.basis made k place e)
  turned_well x made top rest (NoRow c) size l row well k place e = absurd (no_overflow_row x.tableau x.basis c made k place e)

  from_well : (left made top : ℕ) (x : State) → made + left ≤ top → HasSize x → StopsWell top (run_from limit left made x)
  from_well zero made top x l size k place e = absurd (finished_well x made (next x) k place e)
  from_well (suc left) made top x l size k place e =
      turned_well x made top (λ y. run_from limit left (made + 1) y) (next x) size (omega arith)
      (λ r c e. asked_inside x.stage x.tableau (entering x.stage x.tableau) r c e)
      (λ r c. from_well left (made + 1) top (state_after x r c) (omega arith) (keeps_size x r c size)) k place e

-- a run stops at one of its pivots, inside its tableau
pub run_stops : (limit : Option ℕ) (cap : ℕ) (p : LinearProgram) (k : ℕ) (place : Place) → run limit cap p ≡ Overflow k place → IsStop (length p.rows) p.columns cap k place
run_stops limit cap p k place e = from_well limit (length p.rows) p.columns cap 0 cap (first_state p) (omega arith) (refl, refl) k place e
