-- Phase two reads nothing in the places that it has not.
use Rattle.std.specs.Prelude.{◌≡◌, ◌≢◌, ℕ, ◌≤◌, List, length, Option}
use Rattle.npp_simplex.specs.declared.stage.Stage.TheVariants.{PhaseTwo}
use Rattle.npp_simplex.specs.Tableau.{Tableau, cell, extra_column}
use Rattle.npp_simplex.specs.Run.{Outcome, run_from}

-- two tables of one size that agree but for the goal row of phase one and the extra column
pub record AgreeWithoutExtra (t u : Tableau) : Type 0 where
  pub rows : t.rows ≡ u.rows
  pub columns : t.columns ≡ u.columns
  pub cells : (i j : ℕ) → i ≢ t.rows → j ≢ extra_column t → cell t i j ≡ cell u i j

-- how a run ends that goes on from a table in phase two
abbrev pub phase_two_from : Option ℕ → ℕ → ℕ → Tableau → List ℕ → Outcome
phase_two_from limit left made t basis = run_from limit left made (record { stage = PhaseTwo; tableau = t; basis = basis })

-- two tables from which phase two ends in the same way, whatever the basis, the limit and the pivots that are left
abbrev pub HaveSameRuns : Tableau → Tableau → Type 0
HaveSameRuns t u = (limit : Option ℕ) (left made : ℕ) (basis : List ℕ) → length basis ≤ t.rows → phase_two_from limit left made t basis ≡ phase_two_from limit left made u basis
