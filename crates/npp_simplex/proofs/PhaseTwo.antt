-- The tables of phase two of a program. `IsPhaseTwoTable` bundles what is known of each.
use Rattle.std.proofs.Common.{◌≡◌, ℕ, ◌+◌, ◌<◌, ◌≤◌, List, length, arith, sym, ◌∙◌}
use Rattle.std.specs.Prelude.{slice_index}
use Rattle.npp_frac.specs.Rational.{Rational, zero_ℚ, ◌≤ℚ◌}
use Rattle.npp_frac.specs.Order.{≤ℚ_of_≡, ≤ℚ_trans}
use Rattle.npp_lp.specs.Programs.{LinearProgram, at, row_of}
use Rattle.npp_lp.specs.Duals.{coefficient}
use Rattle.npp_simplex.specs.Tableau.{Tableau, cell}
use Rattle.npp_simplex.specs.Run.{first_cell}
use Rattle.npp_simplex.proofs.Invariant.{AreRows, IsGoalRow, ArePositive, without}
use Rattle.npp_simplex.proofs.Directions.{basis_different}
use Rattle.npp_simplex.proofs.KeptRows.{without_other}
use Rattle.npp_simplex.proofs.FirstCells.{cell_of_column, cell_of_right, cell_of_goal, cell_beside_goal, slack_nonneg}

-- the cells from which the rows of phase two come
abbrev pub second_cell : LinearProgram → ℕ → ℕ → Rational
second_cell p = without (p.columns + length p.rows) (first_cell p)

-- a table of phase two: its rows come from the first ones without the extra column, no right side is below 0, and the extra
-- variable is not basic
pub record IsPhaseTwoTable (p : LinearProgram) (t : Tableau) (basis : List ℕ) : Type 0 where
  pub rows : t.rows ≡ length p.rows
  pub columns : t.columns ≡ p.columns
  pub size : length basis ≡ length p.rows
  pub are_rows : AreRows (length p.rows) p.columns (second_cell p) (cell t) (slice_index basis)
  pub goal : IsGoalRow (length p.rows) p.columns (second_cell p) (cell t) (slice_index basis) (length p.rows + 1)
  pub positive : ArePositive (length p.rows) p.columns (cell t)
  pub no_extra : (k : ℕ) → k < length p.rows → slice_index basis k < p.columns + length p.rows

module _ (p : LinearProgram) where
  pub second_of_column : (i j : ℕ) → i < length p.rows → j < p.columns → second_cell p i j ≡ coefficient (row_of p i).terms j
  second_of_column i j l h = without_other (p.columns + length p.rows) (first_cell p) i j (λ e. omega arith) ∙ cell_of_column p i j l h

  pub second_of_right : (i : ℕ) → i < length p.rows → second_cell p i (p.columns + length p.rows + 1) ≡ (row_of p i).right
  second_of_right i l = without_other (p.columns + length p.rows) (first_cell p) i (p.columns + length p.rows + 1) (λ e. omega arith) ∙ cell_of_right p i l

  pub second_of_goal : (j : ℕ) → j < p.columns → second_cell p (length p.rows + 1) j ≡ at p.goal j
  second_of_goal j l = without_other (p.columns + length p.rows) (first_cell p) (length p.rows + 1) j (λ e. omega arith) ∙ cell_of_goal p j l

  -- beside the columns of the program: its slacks and its right side
  pub second_slack : (i j : ℕ) → i < length p.rows → j < p.columns + length p.rows → p.columns ≤ j → zero_ℚ ≤ℚ second_cell p i j
  second_slack i j l h after = ≤ℚ_trans (slack_nonneg p i j l after h) (≤ℚ_of_≡ (sym (without_other (p.columns + length p.rows) (first_cell p) i j (λ e. omega arith))))

  pub second_beside_goal : (j : ℕ) → j < p.columns + length p.rows → p.columns ≤ j → second_cell p (length p.rows + 1) j ≡ zero_ℚ
  second_beside_goal j h after = without_other (p.columns + length p.rows) (first_cell p) (length p.rows + 1) j (λ e. omega arith) ∙ cell_beside_goal p j after

  pub second_goal_right : second_cell p (length p.rows + 1) (p.columns + length p.rows + 1) ≡ zero_ℚ
  second_goal_right =
      without_other (p.columns + length p.rows) (first_cell p) (length p.rows + 1) (p.columns + length p.rows + 1) (λ e. omega arith)
      ∙ cell_beside_goal p (p.columns + length p.rows + 1) (omega arith)

  module _ (t : Tableau) (basis : List ℕ) (table : IsPhaseTwoTable p t basis) where
    -- no column is basic in two rows
    pub apart : (i k : ℕ) → i < length p.rows → k < length p.rows → slice_index basis i ≡ slice_index basis k → i ≡ k
    apart = basis_different (length p.rows) p.columns (second_cell p) (cell t) (slice_index basis) table.are_rows

    pub basic_slack : (i : ℕ) → i < length p.rows → (k : ℕ) → k < length p.rows → p.columns ≤ slice_index basis k → zero_ℚ ≤ℚ second_cell p i (slice_index basis k)
    basic_slack i l k h after = second_slack i (slice_index basis k) l (table.no_extra k h) after

    pub basic_goal : (k : ℕ) → k < length p.rows → p.columns ≤ slice_index basis k → second_cell p (length p.rows + 1) (slice_index basis k) ≡ zero_ℚ
    basic_goal k h after = second_beside_goal (slice_index basis k) (table.no_extra k h) after
