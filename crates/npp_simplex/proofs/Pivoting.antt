-- A pivot: row r is divided, and then the other rows lose their multiples of it, one after the other.
use Rattle.std.proofs.Common.{◌≡◌, ◌≢◌, ℕ, ◌+◌, ◌<◌, true, false, cond, nat_eq, Option, Some, None, arith, ap, ap₂, sym, ◌∙◌, refl, eq-eqb, ne_eqb}
use Rattle.npp_frac.specs.Rational.{Rational, ◌-ℚ◌, ◌*ℚ◌}
use Rattle.npp_lp.specs.Verdict.{or_else, first_below}
use Rattle.npp_lp.specs.VerdictLaws.{first_below_more, first_below_found}
use Rattle.npp_simplex.specs.declared.place.Place.{Place}
use Rattle.npp_simplex.specs.declared.place.Step.TheVariants.{Pivot}
use Rattle.npp_simplex.specs.Tableau.{Tableau, cell, height, width, with_row, divided_cell, pivoted_cell, pivoted}
use Rattle.npp_simplex.specs.Places.{column_unless, fits_less_product, in_row}
use Rattle.npp_simplex.specs.Steps.{row_division_stop, row_reduction_stop, whole_row_stop, whole_pivot_stop}
use Rattle.npp_simplex.proofs.FirstPlaces.{first_below_same}
use Rattle.npp_simplex.proofs.Grids.{whole_with}
use Rattle.npp_simplex.proofs.Changing.{IsChangedUpTo, unchanged, row_here, row_other, row_passed, row_replaced, all_changed}

-- where a row other than r stops
abbrev pub stop_in : ℕ → Tableau → ℕ → ℕ → ℕ → Option Place
stop_in m t r c i = cond (nat_eq i r) None (whole_row_stop m t r c i)

-- the pivot on row r and column c was made in the rows below i; row r is divided
pub record HasPivotedUpTo (m : ℕ) (t now : Tableau) (r c i : ℕ) : Type 0 where
  pub cells : IsChangedUpTo (with_row t r (divided_cell t r c)) now (pivoted_cell t r c) i
  pub stop : first_below i (stop_in m t r c) ≡ None

module _ (m : ℕ) (t : Tableau) (r c : ℕ) (inside : c < width t) where
  pub begun : (now : Tableau) → now ≡ with_row t r (divided_cell t r c) → HasPivotedUpTo m t now r c 0
  begun now e = record { cells = rw e (unchanged (with_row t r (divided_cell t r c)) (pivoted_cell t r c) (whole_with t (with_row t r (divided_cell t r c)) (λ k j. cond (nat_eq k r) (divided_cell t r c j) (cell t k j)) refl)); stop = refl }

  module _ (now : Tableau) (i : ℕ) (h : HasPivotedUpTo m t now r c i) where
    -- row r
    pub passed : i ≡ r → i < height t → HasPivotedUpTo m t now r c (i + 1)
    passed e l =
        let here : nat_eq i r ≡ true = eq-eqb i r e in
        record {
          cells = row_passed (with_row t r (divided_cell t r c)) now (pivoted_cell t r c) i h.cells (λ j jl.
              row_here t (with_row t r (divided_cell t r c)) r (divided_cell t r c) i j refl e l jl ∙ sym (ap (λ b. cond b (divided_cell t r c j) (cell t i j -ℚ cell t i c *ℚ divided_cell t r c j)) here));
          stop = first_below_more (stop_in m t r c) i h.stop (ap (λ b. cond b None (whole_row_stop m t r c i)) here);
        }

    module _ (d : ℕ → Rational) (is : (j : ℕ) → j < width t → d j ≡ divided_cell t r c j) (apart : i ≢ r) (l : i < height t) where
      read : (j : ℕ) → j < width t → cell now i j ≡ cell t i j
      read j jl = h.cells.rest i j (omega arith) l jl ∙ row_other t (with_row t r (divided_cell t r c)) r (divided_cell t r c) i j refl apart l jl

      stop_is : in_row i (row_reduction_stop m now c d i) ≡ stop_in m t r c i
      stop_is =
          let other : nat_eq i r ≡ false = ne_eqb i r apart in
          let f : ℕ → Option ℕ = λ j. column_unless (fits_less_product m (cell now i j) (cell now i c) (d j)) j in
          let g : ℕ → Option ℕ = λ j. column_unless (fits_less_product m (cell t i j) (cell t i c) (divided_cell t r c j)) j in
          rw other (ap (λ k. in_row i (first_below k f)) (ap width h.cells.whole) ∙ ap (in_row i) (first_below_same f g (width t) (λ j jl.
          ap (λ b. column_unless b j) (ap (λ x. fits_less_product m x (cell now i c) (d j)) (read j jl) ∙ ap₂ (fits_less_product m (cell t i j)) (read c inside) (is j jl)))))

      pub stopped : (j : ℕ) → row_division_stop m t r c ≡ None → Some j ≡ row_reduction_stop m now c d i → whole_pivot_stop m t r c ≡ Some (record { step = Pivot; row = i; column = j })
      stopped j none found =
          ap (λ o. or_else (in_row r o) (first_below (height t) (stop_in m t r c))) none
          ∙ first_below_found (stop_in m t r c) (height t) i (record { step = Pivot; row = i; column = j }) l h.stop (sym stop_is ∙ ap (in_row i) (sym found))

      pub reduced : (next : Tableau) → None ≡ row_reduction_stop m now c d i → next ≡ with_row now i (λ j. cell now i j -ℚ cell now i c *ℚ d j) → HasPivotedUpTo m t next r c (i + 1)
      reduced next none e =
          let other : nat_eq i r ≡ false = ne_eqb i r apart in
          record {
            cells = row_replaced (with_row t r (divided_cell t r c)) now (pivoted_cell t r c) i h.cells next (λ j. cell now i j -ℚ cell now i c *ℚ d j) e (λ j jl.
                ap₂ (λ x y. x -ℚ y *ℚ d j) (read j jl) (read c inside) ∙ ap (λ z. cell t i j -ℚ cell t i c *ℚ z) (is j jl)
                ∙ sym (ap (λ b. cond b (divided_cell t r c j) (cell t i j -ℚ cell t i c *ℚ divided_cell t r c j)) other));
            stop = first_below_more (stop_in m t r c) i h.stop (sym stop_is ∙ ap (in_row i) (sym none));
          }

    pub pivot_made : i ≡ height t → now ≡ pivoted t r c
    pivot_made e = all_changed (with_row t r (divided_cell t r c)) now (pivoted_cell t r c) i h.cells e
