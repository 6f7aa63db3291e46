-- One turn of a run.
use Rattle.std.proofs.Common.{◌≡◌, ◌≢◌, ℕ, suc, ◌+◌, ◌<◌, List, [], ◌∷◌, length, slice_index, slice_index_or, Bool, Option, Some, None, Ok, Err, IfSome, All, arith, ap, ap₂, sym, ◌∙◌, refl, subst}
use Rattle.std.specs.Prelude.{slice_set}
use Rattle.std.specs.List.{range_with_len}
use Rattle.std.proofs.lemmas.List.Elements.{All-filter, filter_passes}
use Rattle.std.proofs.lemmas.List.FromFn.{get_or-range_with_len, length-range_with_len}
use Rattle.npp_frac.specs.Rational.{zero_ℚ, is_less}
use Rattle.npp_frac.specs.Division.{not-zero_of_pos}
use Rattle.npp_frac.specs.Order.{is_less_yes}
use Rattle.npp_lp.specs.Verdict.{unless}
use Rattle.npp_lp.specs.VerdictLaws.{unless_ok, unless_err}
use Rattle.npp_simplex.specs.declared.stage.Stage.{Stage}
use Rattle.npp_simplex.specs.declared.stage.Stage.TheVariants.{Entry, PhaseOne, PhaseTwo}
use Rattle.npp_simplex.specs.declared.place.Place.{Place}
use Rattle.npp_simplex.specs.Tableau.{Tableau, cell, extra_column, pivoted}
use Rattle.npp_simplex.specs.Ratio.{entering, candidates, positive_rows, keys, leaving}
use Rattle.npp_simplex.specs.Places.{ratio_stop, pivot_stop, first_stop, remaining, pivot_row}
use Rattle.npp_simplex.specs.Run.{State, Next, PivotOn, chosen_row, chosen_column, next, stage_when_leaves, stage_after, handed_on, state_after, Overflow, Capped, finished, stepped, turned, run_from}
use Rattle.npp_simplex.specs.Meaning.{AreCandidates}
use Rattle.npp_simplex.specs.Standing.{IsReadyFor}
use Rattle.npp_simplex.proofs.Refining.{or_else_none}

pub some_more : (o : Option ℕ) (n : ℕ) → IfSome o (λ j. j < n) → IfSome o (λ j. j < n + 1)
some_more None n h = h
some_more (Some j) n h = omega arith

-- ---- the rows that may leave can be divided by

rows_in : (n : ℕ) → All (λ i. i < n) (range_with_len 0 n)
rows_in n k d l =
    let size : length (range_with_len 0 n) ≡ n = length-range_with_len 0 n in
    let inside : k < n = omega arith in
    let here : slice_index_or (range_with_len 0 n) k d ≡ k = get_or-range_with_len 0 n k d inside ∙ omega arith in
    rw here inside

positive_are : (t : Tableau) (c : ℕ) → AreCandidates t c (positive_rows t c)
positive_are t c k d l =
    let p : ℕ → Bool = λ i. is_less zero_ℚ (cell t i c) in
    record {
      row = All-filter p (λ i. i < t.rows) (range_with_len 0 t.rows) (rows_in t.rows) k d l;
      entry = not-zero_of_pos (is_less_yes zero_ℚ (cell t (slice_index_or (positive_rows t c) k d) c) (filter_passes p (range_with_len 0 t.rows) k d l));
    }

pub candidates_are : (s : Stage) (t : Tableau) (c : ℕ) → IsReadyFor s t → entering s t ≡ Some c → AreCandidates t c (candidates s t c)
candidates_are Entry t c h e k d l =
    let size : length (range_with_len 0 t.rows) ≡ t.rows = length-range_with_len 0 t.rows in
    let inside : k < t.rows = omega arith in
    let here : slice_index_or (range_with_len 0 t.rows) k d ≡ k = get_or-range_with_len 0 t.rows k d inside ∙ omega arith in
    let column : extra_column t ≡ c = cc in
    rw here (record { row = inside; entry = subst (λ j. cell t k j ≢ zero_ℚ) column (h k inside) })
candidates_are PhaseOne t c h e k d l = positive_are t c k d l
candidates_are PhaseTwo t c h e k d l = positive_are t c k d l

-- ---- one pivot

module _ (limit : Option ℕ) (s : Stage) (t : Tableau) (c : ℕ) where
  pivot_row_is : (rows : List ℕ) → 0 < length rows → pivot_row limit s t c rows ≡ unless (first_stop limit s t (leaving s t c) c) (Ok (Some (leaving s t c)))
  pivot_row_is [] l = absurd (omega arith)
  pivot_row_is (i ∷ rows) l = refl

  -- a row that leaves, and what stops its replacement
  pub row_leaves : (r : ℕ) (o : Option Place) → 0 < length (candidates s t c) → Ok r ≡ remaining limit s t c (keys t) (candidates s t c) → pivot_stop limit s t r c ≡ o → unless o (Ok (Some r)) ≡ pivot_row limit s t c (candidates s t c)
  row_leaves r o l e f =
      let (fits, same) = unless_ok (ratio_stop limit s t c (keys t) (candidates s t c)) (leaving s t c) r (sym e) in
      sym (pivot_row_is (candidates s t c) l
      ∙ ap (λ o. unless o (Ok (Some (leaving s t c)))) (or_else_none (ratio_stop limit s t c (keys t) (candidates s t c)) (pivot_stop limit s t (leaving s t c) c) fits)
      ∙ ap (λ q. unless (pivot_stop limit s t q c) (Ok (Some q))) same ∙ ap (λ o. unless o (Ok (Some r))) f)

  -- what the answer says of the choice
  pub row_chosen : (rows : List ℕ) (r : ℕ) → Ok (Some r) ≡ pivot_row limit s t c rows → (chosen_row s t c rows ≡ PivotOn r c) × (first_stop limit s t r c ≡ None)
  row_chosen [] r e = cc
  row_chosen (i ∷ rows) r e =
      let (fits, same) = unless_ok (first_stop limit s t (leaving s t c) c) (Some (leaving s t c)) (Some r) (sym e) in
      let row : leaving s t c ≡ r = cc in
      (ap (λ q. PivotOn q c) row, ap (λ q. first_stop limit s t q c) (sym row) ∙ fits)

  pub stop_chosen : (rows : List ℕ) (p : Place) → Err p ≡ pivot_row limit s t c rows → (chosen_row s t c rows ≡ PivotOn (leaving s t c) c) × (first_stop limit s t (leaving s t c) c ≡ Some p)
  stop_chosen [] p e = cc
  stop_chosen (i ∷ rows) p e = (refl, unless_err (first_stop limit s t (leaving s t c) c) (Some (leaving s t c)) p (sym e))

-- ---- the state after it

handed_size : (s n : Stage) (t : Tableau) → ((handed_on s n t).rows ≡ t.rows) × ((handed_on s n t).columns ≡ t.columns)
handed_size Entry n t = (refl, refl)
handed_size PhaseOne Entry t = (refl, refl)
handed_size PhaseOne PhaseOne t = (refl, refl)
handed_size PhaseOne PhaseTwo t = (refl, refl)
handed_size PhaseTwo n t = (refl, refl)

module _ (s n : Stage) (t p u : Tableau) (b : List ℕ) (r c : ℕ) (pivots : p ≡ pivoted t r c) (hands : u ≡ handed_on s n p) where
  pub same_rows : t.rows ≡ u.rows
  same_rows = sym (ap (λ z. z.rows) hands ∙ (handed_size s n p).0 ∙ ap (λ z. z.rows) pivots)

  pub same_columns : t.columns ≡ u.columns
  same_columns = sym (ap (λ z. z.columns) hands ∙ (handed_size s n p).1 ∙ ap (λ z. z.columns) pivots)

  -- the stage is told by the basic column that leaves
  pub state_is : (extra leaves : ℕ) → n ≡ stage_when_leaves s extra leaves → extra ≡ p.columns + p.rows → leaves ≡ slice_index b r → record { stage = n; tableau = u; basis = slice_set b r c } ≡ state_after (record { stage = s; tableau = t; basis = b }) r c
  state_is extra leaves stage e f =
      let after : n ≡ stage_after s t b r = stage ∙ ap₂ (stage_when_leaves s) (e ∙ ap (λ z. z.columns + z.rows) pivots) f in
      ap (λ z. record { stage = z; tableau = u; basis = slice_set b r c }) after
      ∙ ap (λ z. record { stage = stage_after s t b r; tableau = z; basis = slice_set b r c }) (hands ∙ ap₂ (handed_on s) after pivots)

-- ---- one turn

module _ (limit : Option ℕ) (x : State) (made : ℕ) where
  pub run_ends : (n : Next) (left : ℕ) → next x ≡ n → run_from limit (suc left) made x ≡ turned limit x made (λ y. run_from limit left (made + 1) y) n
  run_ends n left e = ap (turned limit x made (λ y. run_from limit left (made + 1) y)) e

  pub run_goes_on : (r c left : ℕ) (y : State) → next x ≡ PivotOn r c → first_stop limit x.stage x.tableau r c ≡ None → y ≡ state_after x r c → run_from limit (suc left) made x ≡ run_from limit left (made + 1) y
  run_goes_on r c left y e f g = run_ends (PivotOn r c) left e ∙ ap (λ o. stepped made o (run_from limit left (made + 1) (state_after x r c))) f ∙ ap (run_from limit left (made + 1)) (sym g)

  pub run_stops : (r c left : ℕ) (p : Place) → next x ≡ PivotOn r c → first_stop limit x.stage x.tableau r c ≡ Some p → run_from limit (suc left) made x ≡ Overflow (made + 1) p
  run_stops r c left p e f = run_ends (PivotOn r c) left e ∙ ap (λ o. stepped made o (run_from limit left (made + 1) (state_after x r c))) f

  -- a column enters
  pub next_by : (c : ℕ) → entering x.stage x.tableau ≡ Some c → next x ≡ chosen_row x.stage x.tableau c (candidates x.stage x.tableau c)
  next_by c e = ap (chosen_column x.stage x.tableau) e

  row_capped : (c : ℕ) (rows : List ℕ) → 0 < length rows → Capped ≡ finished x made (chosen_row x.stage x.tableau c rows)
  row_capped c [] l = absurd (omega arith)
  row_capped c (i ∷ rows) l = refl

  -- a row may leave, and no pivot is left
  pub run_capped : (c : ℕ) → entering x.stage x.tableau ≡ Some c → 0 < length (candidates x.stage x.tableau c) → Capped ≡ finished x made (next x)
  run_capped c e l = row_capped c (candidates x.stage x.tableau c) l ∙ sym (ap (finished x made) (next_by c e))
