-- Where a table is ready for its stage, the first place in a replacement is that over all its rows and columns.
use Rattle.std.proofs.Common.{◌≡◌, ℕ, Bool, true, false, not, cond, ◌&&◌, nat_eq, Option, Some, None, ap, sym, ◌∙◌, refl, eqb-true, subst}
use Rattle.npp_frac.specs.Rational.{Rational, zero_ℚ, ◌/ℚ◌}
use Rattle.npp_frac.specs.Fits.{IsWidth, FitsBelow, limit_of, fits_div}
use Rattle.npp_lp.specs.Verdict.{or_else, first_below}
use Rattle.npp_lp.specs.VerdictLaws.{first_below_clear}
use Rattle.npp_simplex.specs.declared.stage.Stage.{Stage}
use Rattle.npp_simplex.specs.declared.stage.Stage.TheVariants.{Entry, PhaseOne, PhaseTwo}
use Rattle.npp_simplex.specs.declared.place.Place.{Place}
use Rattle.npp_simplex.specs.Tableau.{Tableau, cell, width, height, extra_column, divided_cell}
use Rattle.npp_simplex.specs.Places.{has_row, has_column, column_unless, fits_less_product, in_row, first_column, division_stop, row_stop, pivot_stop}
use Rattle.npp_simplex.specs.Steps.{row_division_stop, whole_row_stop, whole_pivot_stop}
use Rattle.npp_simplex.specs.Standing.{IsReadyFor}
use Rattle.npp_frac.specs.ZeroLaws.{FitsBelow-zero, fits_div-zero, zero-/ℚ}
use Rattle.npp_simplex.proofs.Zeros.{fits_less_product-zero, fits_less_zero_product}
use Rattle.npp_simplex.proofs.FirstPlaces.{first_below_same}

-- ---- what a stage has not is 0

is_of_not : (i r : ℕ) → not (nat_eq i r) ≡ false → i ≡ r
is_of_not i r e = by_test (nat_eq i r) e refl where
  by_test : (b : Bool) → not b ≡ false → nat_eq i r ≡ b → i ≡ r
  by_test true n same = eqb-true i r same
  by_test false n same = cc

absent_row : (s : Stage) (t : Tableau) (i : ℕ) → IsReadyFor s t → has_row s t i ≡ false → (j : ℕ) → cell t i j ≡ zero_ℚ
absent_row Entry t i h e j = cc
absent_row PhaseOne t i h e j = cc
absent_row PhaseTwo t i h e j = ap (λ k. cell t k j) (is_of_not i t.rows e) ∙ h.row j

absent_column : (s : Stage) (t : Tableau) (j : ℕ) → IsReadyFor s t → has_column s t j ≡ false → (i : ℕ) → cell t i j ≡ zero_ℚ
absent_column Entry t j h e i = cc
absent_column PhaseOne t j h e i = cc
absent_column PhaseTwo t j h e i = ap (cell t i) (is_of_not j (extra_column t) e) ∙ h.column i

-- ---- tests of size that hold where a stage has nothing

column_by : (b : Bool) (j : ℕ) (fits : Bool) → (b ≡ false → true ≡ fits) → cond b (column_unless fits j) None ≡ column_unless fits j
column_by true j fits h = refl
column_by false j fits h = ap (λ q. column_unless q j) (h refl)

row_by : (a b : Bool) (x y : Option Place) → x ≡ y → (a ≡ false → y ≡ None) → cond (a && not b) x None ≡ cond b None y
row_by true true x y e h = refl
row_by true false x y e h = e
row_by false true x y e h = refl
row_by false false x y e h = sym (h refl)

first_column_whole : (s : Stage) (t : Tableau) (fits : ℕ → Bool) → ((j : ℕ) → has_column s t j ≡ false → true ≡ fits j) → first_column s t fits ≡ first_below (width t) (λ j. column_unless (fits j) j)
first_column_whole s t fits h =
    first_below_same (λ j. cond (has_column s t j) (column_unless (fits j) j) None) (λ j. column_unless (fits j) j) (width t) (λ j l. column_by (has_column s t j) j (fits j) (h j))

-- ---- a replacement

module _ (w : ℕ) (s : Stage) (t : Tableau) (r c : ℕ) (wide : IsWidth w) (ready : IsReadyFor s t) where
  small : (q : Rational) → q ≡ zero_ℚ → FitsBelow (limit_of w) q
  small q e = subst (FitsBelow (limit_of w)) (sym e) (FitsBelow-zero w wide)

  quotient_fits : (j : ℕ) → cell t r j ≡ zero_ℚ → true ≡ fits_div (limit_of w) (cell t r j) (cell t r c)
  quotient_fits j e = rw e (fits_div-zero w (cell t r c) wide)

  difference_fits : (i j : ℕ) → cell t i j ≡ zero_ℚ → cell t r j ≡ zero_ℚ → true ≡ fits_less_product (limit_of w) (cell t i j) (cell t i c) (divided_cell t r c j)
  difference_fits i j e f =
      fits_less_product-zero w (cell t i j) (cell t i c) (divided_cell t r c j) wide (small (cell t i j) e) (ap (λ q. q /ℚ cell t r c) f ∙ zero-/ℚ (cell t r c))

  division_agrees : division_stop (Some (limit_of w)) s t r c ≡ in_row r (row_division_stop (limit_of w) t r c)
  division_agrees = ap (in_row r) (first_column_whole s t (λ j. fits_div (limit_of w) (cell t r j) (cell t r c)) (λ j none. quotient_fits j (absent_column s t j ready none r)))

  row_agrees : (i : ℕ) → row_stop (Some (limit_of w)) s t r c i ≡ whole_row_stop (limit_of w) t r c i
  row_agrees i =
      ap (in_row i) (first_column_whole s t (λ j. fits_less_product (limit_of w) (cell t i j) (cell t i c) (divided_cell t r c j)) (λ j none.
      difference_fits i j (absent_column s t j ready none i) (absent_column s t j ready none r)))

  row_clear : (i : ℕ) → has_row s t i ≡ false → whole_row_stop (limit_of w) t r c i ≡ None
  row_clear i none =
      let zero = absent_row s t i ready none in
      let g : ℕ → Option ℕ = λ j. column_unless (fits_less_product (limit_of w) (cell t i j) (cell t i c) (divided_cell t r c j)) j in
      ap (in_row i) (first_below_clear g (width t) (λ j l.
      ap (λ b. column_unless b j) (sym (fits_less_zero_product w (cell t i j) (cell t i c) (divided_cell t r c j) wide (small (cell t i j) (zero j)) (zero c)))))

  rows_agree : first_below (height t) (λ i. cond (has_row s t i && not (nat_eq i r)) (row_stop (Some (limit_of w)) s t r c i) None)
      ≡ first_below (height t) (λ i. cond (nat_eq i r) None (whole_row_stop (limit_of w) t r c i))
  rows_agree =
      let f : ℕ → Option Place = λ i. cond (has_row s t i && not (nat_eq i r)) (row_stop (Some (limit_of w)) s t r c i) None in
      let g : ℕ → Option Place = λ i. cond (nat_eq i r) None (whole_row_stop (limit_of w) t r c i) in
      first_below_same f g (height t) (λ i l.
      row_by (has_row s t i) (nat_eq i r) (row_stop (Some (limit_of w)) s t r c i) (whole_row_stop (limit_of w) t r c i) (row_agrees i) (row_clear i))

  pub stops_agree : pivot_stop (Some (limit_of w)) s t r c ≡ whole_pivot_stop (limit_of w) t r c
  stops_agree =
      ap (λ o. or_else o (first_below (height t) (λ i. cond (has_row s t i && not (nat_eq i r)) (row_stop (Some (limit_of w)) s t r c i) None))) division_agrees
      ∙ ap (or_else (in_row r (row_division_stop (limit_of w) t r c))) rows_agree
