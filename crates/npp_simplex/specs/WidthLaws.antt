-- A run that stays within a limit is the run at each wider limit, and over all rational numbers.
use Rattle.std.specs.Prelude.{◌≡◌, ℕ, zero, suc, ◌+◌, ◌≤◌, List, [], ◌∷◌, length, slice_index, Bool, true, false, not, ◌&&◌, cond, Option, Some, None, nat_eq, refl}
use Rattle.std.proofs.Common.{ap, sym}
use Rattle.npp_frac.specs.Fits.{fits_div}
use Rattle.npp_frac.specs.FitsLaws.{fits_sub_wider, fits_mul_wider, fits_div_wider}
use Rattle.npp_frac.specs.Rational.{Rational, ◌*ℚ◌}
use Rattle.npp_lp.specs.Programs.{LinearProgram}
use Rattle.npp_lp.specs.Verdict.{or_else, first_below}
use Rattle.npp_lp.specs.VerdictLaws.{first_below_none, first_below_clear}
use Rattle.npp_simplex.specs.declared.place.Place.{Place}
use Rattle.npp_simplex.specs.declared.place.Step.TheVariants.{Ratio}
use Rattle.npp_simplex.specs.declared.stage.Stage.{Stage}
use Rattle.npp_simplex.specs.declared.stage.Stage.TheVariants.{Entry, PhaseOne, PhaseTwo}
use Rattle.npp_simplex.specs.Tableau.{Tableau, cell, divided_cell, width, height}
use Rattle.npp_simplex.specs.Ratio.{compared, keys, candidates, least_rows}
use Rattle.npp_simplex.specs.Places.{has_row, has_column, fits_at, place_unless, column_unless, fits_less_product, quotient_fits, quotient_stop, quotients_stop, ratio_stop, in_row, first_column, division_stop, row_stop, pivot_stop, first_stop}
use Rattle.npp_simplex.specs.Run.{State, Next, PivotOn, NoColumn, NoRow, next, state_after, Outcome, stepped, turned, run_from, first_state, run}
use Rattle.npp_simplex.specs.Widths.{IsWider, IsNarrow}

-- ---- tests of size

fits_at_wider : (a b : Option ℕ) (fits : ℕ → Bool) → IsWider a b → ((m n : ℕ) → m ≤ n → true ≡ fits m → true ≡ fits n) → true ≡ fits_at a fits → true ≡ fits_at b fits
fits_at_wider (Some m) (Some n) fits w h e = h m n w e
fits_at_wider (Some m) None fits w h e = refl
fits_at_wider None (Some n) fits w h e = absurd w
fits_at_wider None None fits w h e = refl

both : (x y : Bool) → true ≡ (x && y) → (true ≡ x) × (true ≡ y)
both true y e = (refl, e)
both false y e = cc

fits_less_product_wider : (x y z : Rational) (m n : ℕ) → m ≤ n → true ≡ fits_less_product m x y z → true ≡ fits_less_product n x y z
fits_less_product_wider x y z m n h e =
    let (product, difference) = both _ _ e in
    rw (← fits_mul_wider m n y z h product, ← fits_sub_wider m n x (y *ℚ z) h difference) refl

-- ---- no stop at a limit, so none at a wider one

place_fits : (b : Bool) (p : Place) → place_unless b p ≡ None → true ≡ b
place_fits true p e = refl
place_fits false p e = cc

column_fits : (b : Bool) (j : ℕ) → column_unless b j ≡ None → true ≡ b
column_fits true j e = refl
column_fits false j e = cc

clear : {F : Type 0} (f g : ℕ → Option F) (n : ℕ) → ((j : ℕ) → f j ≡ None → g j ≡ None) → first_below n f ≡ None → first_below n g ≡ None
clear f g n h e = first_below_clear g n (λ j l. h j (first_below_none f n j e l))

clear_row : (i : ℕ) (o u : Option ℕ) → (o ≡ None → u ≡ None) → in_row i o ≡ None → in_row i u ≡ None
clear_row i None u h e = ap (in_row i) (h refl)
clear_row i (Some j) u h e = cc

clear_both : {F : Type 0} (a b c d : Option F) → (a ≡ None → c ≡ None) → (b ≡ None → d ≡ None) → or_else a b ≡ None → or_else c d ≡ None
clear_both None b c d f g e = rw (f refl) (g e)
clear_both (Some x) b c d f g e = cc

clear_where : {F : Type 0} (b : Bool) (o u : Option F) → (o ≡ None → u ≡ None) → cond b o None ≡ None → cond b u None ≡ None
clear_where true o u h e = h e
clear_where false o u h e = refl

quotient_wider : (a b : Option ℕ) (s : Stage) (t : Tableau) (c k i : ℕ) → IsWider a b → true ≡ quotient_fits a s t c k i → true ≡ quotient_fits b s t c k i
quotient_wider a b Entry t c k i w e = refl
quotient_wider a b PhaseOne t c k i w e = fits_at_wider a b (λ m. fits_div m (cell t i k) (cell t i c)) w (λ m n. fits_div_wider m n (cell t i k) (cell t i c)) e
quotient_wider a b PhaseTwo t c k i w e = fits_at_wider a b (λ m. fits_div m (cell t i k) (cell t i c)) w (λ m n. fits_div_wider m n (cell t i k) (cell t i c)) e

module _ (a b : Option ℕ) (w : IsWider a b) (s : Stage) (t : Tableau) where
  quotients_wider : (c k : ℕ) (rows : List ℕ) → quotients_stop a s t c k rows ≡ None → quotients_stop b s t c k rows ≡ None
  quotients_wider c k rows e =
      clear (λ j. quotient_stop a s t c k (slice_index rows j)) (λ j. quotient_stop b s t c k (slice_index rows j)) (length rows) (λ j fits.
      ap (λ z. place_unless z (record { step = Ratio; row = slice_index rows j; column = k })) (sym (quotient_wider a b s t c k (slice_index rows j) w (place_fits _ _ fits)))) e

  ratio_wider : (c : ℕ) (ks rows : List ℕ) → ratio_stop a s t c ks rows ≡ None → ratio_stop b s t c ks rows ≡ None
  ratio_wider c ks [] e = refl
  ratio_wider c ks (i ∷ []) e = refl
  ratio_wider c [] (i ∷ j ∷ rows) e = refl
  ratio_wider c (k ∷ ks) (i ∷ j ∷ rows) e =
      clear_both (quotients_stop a s t c k (i ∷ j ∷ rows)) (ratio_stop a s t c ks (least_rows (compared s t c k) (i ∷ j ∷ rows)))
      (quotients_stop b s t c k (i ∷ j ∷ rows)) (ratio_stop b s t c ks (least_rows (compared s t c k) (i ∷ j ∷ rows)))
      (quotients_wider c k (i ∷ j ∷ rows)) (ratio_wider c ks (least_rows (compared s t c k) (i ∷ j ∷ rows))) e

  -- a row in which each number is tested
  row_wider : (i : ℕ) (fits : ℕ → ℕ → Bool) → ((j m n : ℕ) → m ≤ n → true ≡ fits j m → true ≡ fits j n)
      → in_row i (first_column s t (λ j. fits_at a (fits j))) ≡ None → in_row i (first_column s t (λ j. fits_at b (fits j))) ≡ None
  row_wider i fits h e =
      clear_row i (first_column s t (λ j. fits_at a (fits j))) (first_column s t (λ j. fits_at b (fits j)))
      (clear (λ j. cond (has_column s t j) (column_unless (fits_at a (fits j)) j) None) (λ j. cond (has_column s t j) (column_unless (fits_at b (fits j)) j) None) (width t) (λ j.
      clear_where (has_column s t j) (column_unless (fits_at a (fits j)) j) (column_unless (fits_at b (fits j)) j) (λ passes.
      ap (λ z. column_unless z j) (sym (fits_at_wider a b (fits j) w (h j) (column_fits _ j passes)))))) e

  pivot_wider : (r c : ℕ) → pivot_stop a s t r c ≡ None → pivot_stop b s t r c ≡ None
  pivot_wider r c e =
      let f : ℕ → Option Place = λ i. cond (has_row s t i && not (nat_eq i r)) (row_stop a s t r c i) None in
      let g : ℕ → Option Place = λ i. cond (has_row s t i && not (nat_eq i r)) (row_stop b s t r c i) None in
      clear_both (division_stop a s t r c) (first_below (height t) f) (division_stop b s t r c) (first_below (height t) g)
      (row_wider r (λ j m. fits_div m (cell t r j) (cell t r c)) (λ j m n. fits_div_wider m n (cell t r j) (cell t r c)))
      (clear f g (height t) (λ i. clear_where (has_row s t i && not (nat_eq i r)) (row_stop a s t r c i) (row_stop b s t r c i)
      (row_wider i (λ j m. fits_less_product m (cell t i j) (cell t i c) (divided_cell t r c j)) (λ j. fits_less_product_wider (cell t i j) (cell t i c) (divided_cell t r c j))))) e

  stop_wider : (r c : ℕ) → first_stop a s t r c ≡ None → first_stop b s t r c ≡ None
  stop_wider r c e =
      clear_both (ratio_stop a s t c (keys t) (candidates s t c)) (pivot_stop a s t r c) (ratio_stop b s t c (keys t) (candidates s t c)) (pivot_stop b s t r c)
      (ratio_wider c (keys t) (candidates s t c)) (pivot_wider r c) e

-- ---- the run

step_wider : (made : ℕ) (o u : Option Place) (y z : Outcome) → (o ≡ None → u ≡ None) → (IsNarrow y → z ≡ y) → IsNarrow (stepped made o y) → stepped made u z ≡ stepped made o y
step_wider made None u y z f g h = rw (f refl) (g h)
step_wider made (Some p) u y z f g h = absurd h

turn_wider : (a b : Option ℕ) (x : State) (made : ℕ) (f g : State → Outcome) (n : Next) → IsWider a b → ((y : State) → IsNarrow (f y) → g y ≡ f y) → IsNarrow (turned a x made f n) → turned b x made g n ≡ turned a x made f n
turn_wider a b x made f g (PivotOn r c) w h narrow =
    step_wider made (first_stop a x.stage x.tableau r c) (first_stop b x.stage x.tableau r c) (f (state_after x r c)) (g (state_after x r c)) (stop_wider a b w x.stage x.tableau r c) (h (state_after x r c)) narrow
turn_wider a b x made f g NoColumn w h narrow = refl
turn_wider a b x made f g (NoRow c) w h narrow = refl

pub run_from_wider : (a b : Option ℕ) (left made : ℕ) (x : State) → IsWider a b → IsNarrow (run_from a left made x) → run_from b left made x ≡ run_from a left made x
run_from_wider a b zero made x w narrow = refl
run_from_wider a b (suc left) made x w narrow =
    turn_wider a b x made (λ y. run_from a left (made + 1) y) (λ y. run_from b left (made + 1) y) (next x) w (λ y h. run_from_wider a b left (made + 1) y w h) narrow

-- so with the same cap its answer is the same one: point, multipliers, value, ray and count of pivots
pub run_wider : (a b : Option ℕ) (cap : ℕ) (p : LinearProgram) → IsWider a b → IsNarrow (run a cap p) → run b cap p ≡ run a cap p
run_wider a b cap p w narrow = run_from_wider a b cap 0 (first_state p) w narrow
