-- The tables of a run are ready for their stages: the first one, and the one after a pivot.
use Rattle.std.proofs.Common.{◌≡◌, ℕ, ◌+◌, ◌<◌, List, [], length, map, get_or, Bool, true, false, cond, ◌||◌, nat_eq, arith, ap, sym, ◌∙◌, inl, inr, refl, eq-eqb, eqb-true}
use Rattle.std.proofs.lemmas.Bool.{cases_lt, cases_eq}
use Rattle.std.proofs.lemmas.List.{get_or_past}
use Rattle.std.proofs.lemmas.List.FromFn.{length-map-range_with_len, get_or-map-range_with_len}
use Rattle.std.specs.Prelude.{slice_index}
use Rattle.std.specs.List.{range_with_len}
use Rattle.npp_frac.specs.Rational.{Rational, zero_ℚ, ◌-ℚ◌, ◌*ℚ◌, ◌/ℚ◌}
use Rattle.npp_frac.specs.Sums.{unit, unit_other, unit_same}
use Rattle.npp_lp.specs.Programs.{LinearProgram, at}
use Rattle.npp_simplex.specs.declared.stage.Stage.{Stage}
use Rattle.npp_simplex.specs.declared.stage.Stage.TheVariants.{Entry, PhaseOne, PhaseTwo}
use Rattle.npp_simplex.specs.Tableau.{Tableau, cell, table, width, height, extra_column, divided_cell, pivoted_cell, pivoted, cell_without_extra, without_extra}
use Rattle.npp_simplex.specs.Run.{State, has_phase_one, first_cell, first_tableau, first_stage, stage_when_leaves, handed_on, state_after}
use Rattle.npp_simplex.specs.Standing.{HasNoExtra, IsReadyFor}
use Rattle.npp_simplex.proofs.Tables.{table_cell}
use Rattle.npp_frac.specs.ZeroLaws.{zero-/ℚ, less_product-zero, less_zero_product}
use Rattle.npp_simplex.proofs.Starting.{extra_apart}
use Rattle.npp_simplex.proofs.RowStarts.{entry_none, first_goal_one, none_extra}

-- a number of a table that is 0 where it lies within, and beside the table every number is 0
zero_cell : (h w : ℕ) (f : ℕ → ℕ → Rational) (i j : ℕ) → (i < h → j < w → f i j ≡ zero_ℚ) → at (get_or (table h w f) i []) j ≡ zero_ℚ
zero_cell h w f i j none =
    let row : ℕ → List Rational = λ i. map (λ j. f i j) (range_with_len 0 w) in
    elim (cases_lt i h) [
      | inl high ↦ elim (cases_lt j w) [
        | inl wide ↦ table_cell h w f i j high wide ∙ none high wide
        | inr past ↦
            let size : length (row i) ≡ w = length-map-range_with_len (λ j. f i j) 0 w in
            ap (λ r. at r j) (get_or-map-range_with_len row 0 h i i [] high (omega arith)) ∙ get_or_past (row i) j zero_ℚ (omega arith)
      ]
      | inr past ↦
          let size : length (table h w f) ≡ h = length-map-range_with_len row 0 h in
          ap (λ r. at r j) (get_or_past (table h w f) i [] (omega arith))
    ]

-- ---- a pivot keeps what is 0

module _ (t : Tableau) (r c : ℕ) where
  divided_zero : (j : ℕ) → cell t r j ≡ zero_ℚ → divided_cell t r c j ≡ zero_ℚ
  divided_zero j none = ap (λ q. q /ℚ cell t r c) none ∙ zero-/ℚ (cell t r c)

  row_by : (b : Bool) (j : ℕ) → nat_eq t.rows r ≡ b → ((j : ℕ) → cell t t.rows j ≡ zero_ℚ)
      → cond b (divided_cell t r c j) (cell t t.rows j -ℚ cell t t.rows c *ℚ divided_cell t r c j) ≡ zero_ℚ
  row_by true j e none = divided_zero j (ap (λ i. cell t i j) (sym (eqb-true t.rows r e)) ∙ none j)
  row_by false j e none = sym (less_zero_product (cell t t.rows j) (cell t t.rows c) (divided_cell t r c j) (none c)) ∙ none j

  column_by : (b : Bool) (i j : ℕ) → ((i : ℕ) → cell t i j ≡ zero_ℚ)
      → cond b (divided_cell t r c j) (cell t i j -ℚ cell t i c *ℚ divided_cell t r c j) ≡ zero_ℚ
  column_by true i j none = divided_zero j (none r)
  column_by false i j none = sym (less_product-zero (cell t i j) (cell t i c) (divided_cell t r c j) (divided_zero j (none r))) ∙ none i

  no_extra_pivoted : HasNoExtra t → HasNoExtra (pivoted t r c)
  no_extra_pivoted h = record {
    row = λ j. zero_cell (height t) (width t) (pivoted_cell t r c) t.rows j (λ l k. row_by (nat_eq t.rows r) j refl h.row);
    column = λ i. zero_cell (height t) (width t) (pivoted_cell t r c) i (extra_column t) (λ l k. column_by (nat_eq i r) i (extra_column t) h.column);
  }

-- ---- where phase one ends, and where it does not stand

cleared_by : (b c : Bool) (x : Rational) → (b || c) ≡ true → cond (b || c) zero_ℚ x ≡ zero_ℚ
cleared_by b c x e = ap (λ d. cond d zero_ℚ x) e

or_last : (b c : Bool) → c ≡ true → (b || c) ≡ true
or_last true c e = refl
or_last false c e = e

no_extra_without : (t : Tableau) → HasNoExtra (without_extra t)
no_extra_without t = record {
  row = λ j. zero_cell (height t) (width t) (cell_without_extra t) t.rows j (λ l k.
      cleared_by (nat_eq t.rows t.rows) (nat_eq j (extra_column t)) (cell t t.rows j) (ap (λ b. b || nat_eq j (extra_column t)) (eq-eqb t.rows t.rows refl)));
  column = λ i. zero_cell (height t) (width t) (cell_without_extra t) i (extra_column t) (λ l k.
      cleared_by (nat_eq i t.rows) (nat_eq (extra_column t) (extra_column t)) (cell t i (extra_column t)) (or_last (nat_eq i t.rows) _ (eq-eqb (extra_column t) (extra_column t) refl)));
}

unit_zero : (k j : ℕ) → unit k zero_ℚ j ≡ zero_ℚ
unit_zero k j = elim (cases_eq k j) [
  | inl same ↦ ap (unit k zero_ℚ) (sym same) ∙ unit_same k zero_ℚ
  | inr apart ↦ unit_other k j zero_ℚ apart
]

no_extra_first : (p : LinearProgram) → has_phase_one p ≡ false → HasNoExtra (first_tableau p)
no_extra_first p e = record {
  row = λ j. zero_cell (length p.rows + 2) (p.columns + length p.rows + 2) (first_cell p) (length p.rows) j (λ l k.
      first_goal_one p j ∙ ap (λ q. unit (p.columns + length p.rows) q j) (entry_none p e) ∙ unit_zero (p.columns + length p.rows) j);
  column = λ i. zero_cell (length p.rows + 2) (p.columns + length p.rows + 2) (first_cell p) i (p.columns + length p.rows) (λ l k. none_extra p e i l);
}

-- ---- the stages

pub ready_at_first : (p : LinearProgram) (b : Bool) → b ≡ has_phase_one p → IsReadyFor (first_stage b) (first_tableau p)
ready_at_first p false e = no_extra_first p (sym e)
ready_at_first p true e = extra_apart p e

ready_after_one : (b : Bool) (t : Tableau) → IsReadyFor (cond b PhaseTwo PhaseOne) (handed_on PhaseOne (cond b PhaseTwo PhaseOne) t)
ready_after_one true t = no_extra_without t
ready_after_one false t = tt

ready_by : (s : Stage) (e l : ℕ) (t : Tableau) (r c : ℕ) → IsReadyFor s t → IsReadyFor (stage_when_leaves s e l) (handed_on s (stage_when_leaves s e l) (pivoted t r c))
ready_by Entry e l t r c h = tt
ready_by PhaseOne e l t r c h = ready_after_one (nat_eq l e) (pivoted t r c)
ready_by PhaseTwo e l t r c h = no_extra_pivoted t r c h

pub ready_after : (x : State) (r c : ℕ) → IsReadyFor x.stage x.tableau → IsReadyFor (state_after x r c).stage (state_after x r c).tableau
ready_after x r c h = ready_by x.stage (extra_column x.tableau) (slice_index x.basis r) x.tableau r c h
