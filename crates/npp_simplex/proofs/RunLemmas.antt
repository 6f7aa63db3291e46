-- What the end of a run proves of the program.
use Rattle.std.proofs.Common.{◌≡◌, ℕ, zero, suc, ◌+◌, List, [], length, Option, Some, None, arith, ap, sym, refl, subst}
use Rattle.std.specs.List.{range_with_len}
use Rattle.std.proofs.lemmas.List.FromFn.{length-range_with_len}
use Rattle.npp_lp.specs.Programs.{LinearProgram, IsLinearProgram}
use Rattle.npp_lp.specs.Duals.{IsFarkasAnswer}
use Rattle.npp_simplex.specs.declared.place.Place.{Place}
use Rattle.npp_simplex.specs.declared.stage.Stage.{Stage}
use Rattle.npp_simplex.specs.declared.stage.Stage.TheVariants.{Entry, PhaseOne, PhaseTwo}
use Rattle.npp_simplex.specs.Tableau.{Tableau}
use Rattle.npp_simplex.specs.Ratio.{entering, candidates, rising_column}
use Rattle.npp_simplex.specs.Vectors.{point, multipliers, value}
use Rattle.npp_simplex.specs.Places.{first_stop}
use Rattle.npp_simplex.specs.Run.{State, Next, PivotOn, NoColumn, NoRow, next, state_after, Outcome, no_column, no_row, finished, stepped, turned, run_from, first_state, run}
use Rattle.npp_simplex.specs.Proved.{IsProved, AreOptimal}
use Rattle.npp_simplex.proofs.Choices.{no_column_enters, no_row_leaves}
use Rattle.npp_simplex.proofs.LexStarts.{some_right_negative}
use Rattle.npp_simplex.proofs.Optimality.{optimal_proved}
use Rattle.npp_simplex.proofs.Infeasibility.{infeasible_proved, some_row_leaves}
use Rattle.npp_simplex.proofs.Rays.{unbounded_proved}
use Rattle.npp_simplex.proofs.Reached.{IsReachedAt, IsReached}
use Rattle.npp_simplex.proofs.ReachedFirst.{reached_first}
use Rattle.npp_simplex.proofs.ReachedNext.{reached_next}

module _ (p : LinearProgram) (linear : IsLinearProgram p) where
  -- where no column enters
  proved_without_column : (s : Stage) (t : Tableau) (basis : List ℕ) (made : ℕ) → IsReachedAt p s t basis → entering s t ≡ None → IsProved p (no_column s t basis made)
  proved_without_column Entry t basis made x e = cc
  proved_without_column PhaseOne t basis made x e =
      subst (λ k. IsFarkasAnswer p (multipliers t k)) (sym x.sizes.rows)
      (infeasible_proved p linear t basis x.extra_row x.sizes.rows x.sizes.columns x.sizes.basic x.rows x.first_goal x.extra x.positive (subst (λ k. rising_column t k ≡ None) x.sizes.rows e))
  proved_without_column PhaseTwo t basis made x e =
      subst (λ k. AreOptimal p (point t basis) (multipliers t (k + 1)) (value t)) (sym x.sizes.rows)
      (optimal_proved p linear t basis x.sizes.rows x.sizes.columns x.sizes.basic x.rows x.goal x.positive x.basic (subst (λ k. rising_column t (k + 1) ≡ None) x.sizes.rows e))

  -- where no row may leave
  proved_without_row : (s : Stage) (t : Tableau) (basis : List ℕ) (c made : ℕ) → IsReachedAt p s t basis → entering s t ≡ Some c → candidates s t c ≡ [] → IsProved p (no_row t basis c made)
  proved_without_row Entry t basis c made x e f =
      let (h, l, below) = some_right_negative p x.stands in
      let size : length (range_with_len 0 t.rows) ≡ 0 = ap length f in
      let rows : t.rows ≡ length p.rows = ap (λ u. u.rows) x.tableau in
      absurd (omega (arith, size, rows, length-range_with_len 0 t.rows))
  proved_without_row PhaseOne t basis c made x e f =
      absurd (some_row_leaves t (length p.rows) p.columns c x.extra_row x.sizes.rows x.sizes.columns x.extra (subst (λ k. rising_column t k ≡ Some c) x.sizes.rows e) f)
  proved_without_row PhaseTwo t basis c made x e f =
      unbounded_proved p linear t basis x.sizes.rows x.sizes.columns x.sizes.basic x.rows x.goal x.positive x.basic (subst (λ k. rising_column t (k + 1) ≡ Some c) x.sizes.rows e) f

  proved_finished : (x : State) (made : ℕ) (n : Next) → next x ≡ n → IsReached p x → IsProved p (finished x made n)
  proved_finished x made (PivotOn r c) e reached = tt
  proved_finished x made NoColumn e reached = proved_without_column x.stage x.tableau x.basis made reached (no_column_enters x e)
  proved_finished x made (NoRow c) e reached = let (column, none) = no_row_leaves x c e in proved_without_row x.stage x.tableau x.basis c made reached column none

  proved_stepped : (made : ℕ) (stop : Option Place) (rest : Outcome) → IsProved p rest → IsProved p (stepped made stop rest)
  proved_stepped made None rest h = h
  proved_stepped made (Some place) rest h = tt

  proved_turned : (limit : Option ℕ) (x : State) (made : ℕ) (rest : State → Outcome) (n : Next) → next x ≡ n → IsReached p x → ((y : State) → IsReached p y → IsProved p (rest y)) → IsProved p (turned limit x made rest n)
  proved_turned limit x made rest (PivotOn r c) e reached h = proved_stepped made (first_stop limit x.stage x.tableau r c) (rest (state_after x r c)) (h (state_after x r c) (reached_next p x r c reached e))
  proved_turned limit x made rest NoColumn e reached h = proved_without_column x.stage x.tableau x.basis made reached (no_column_enters x e)
  proved_turned limit x made rest (NoRow c) e reached h = let (column, none) = no_row_leaves x c e in proved_without_row x.stage x.tableau x.basis c made reached column none

  -- the outcome of a run proves what it says
  pub proved_from : (limit : Option ℕ) (left made : ℕ) (x : State) → IsReached p x → IsProved p (run_from limit left made x)
  proved_from limit zero made x reached = proved_finished x made (next x) refl reached
  proved_from limit (suc left) made x reached = proved_turned limit x made (λ y. run_from limit left (made + 1) y) (next x) refl reached (λ y h. proved_from limit left (made + 1) y h)

  pub proved_run : (limit : Option ℕ) (bound : ℕ) → IsProved p (run limit bound p)
  proved_run limit bound = proved_from limit bound 0 (first_state p) (reached_first p)
