-- The cells of the first tableau of a program.
use Rattle.std.proofs.Common.{◌≡◌, ◌≢◌, ℕ, ◌+◌, ◌<◌, ◌≤◌, length, true, false, cond, nat_eq, nat_lt, arith, ap, sym, ◌∙◌, refl, ne_eqb}
use Rattle.npp_frac.specs.Rational.{zero_ℚ, one_ℚ, ◌≤ℚ◌}
use Rattle.npp_frac.specs.Order.{≤ℚ_of_≡, ≤ℚ_trans}
use Rattle.npp_frac.specs.Sums.{unit, unit_other}
use Rattle.npp_lp.specs.Programs.{LinearProgram, at, row_of}
use Rattle.npp_lp.specs.Duals.{coefficient}
use Rattle.npp_simplex.specs.Run.{extra_entry, first_row_cell, first_cell}
use Rattle.npp_simplex.proofs.RowStarts.{first_goal_one, first_goal_two}
use Rattle.npp_simplex.proofs.Starting.{lt_true, lt_false}
use Rattle.npp_simplex.proofs.DoubleSums.{unit_nonneg}
use Rattle.npp_simplex.proofs.NumberLaws.{one_nonneg}

module _ (p : LinearProgram) where
  row_cell : (i j : ℕ) → i < length p.rows → first_cell p i j ≡ first_row_cell p i j
  row_cell i j l = let inside : nat_lt i (length p.rows) ≡ true = lt_true i (length p.rows) l in rw inside refl

  -- the coefficients of a row
  pub cell_of_column : (i j : ℕ) → i < length p.rows → j < p.columns → first_cell p i j ≡ coefficient (row_of p i).terms j
  cell_of_column i j l h = row_cell i j l ∙ (let before : nat_lt j p.columns ≡ true = lt_true j p.columns h in rw before refl)

  -- 1 at its own slack
  pub cell_of_slack : (i j : ℕ) → i < length p.rows → p.columns ≤ j → j < p.columns + length p.rows → first_cell p i j ≡ unit (p.columns + i) one_ℚ j
  cell_of_slack i j l after h =
      let no : nat_lt j p.columns ≡ false = lt_false j p.columns after in
      let yes : nat_lt j (p.columns + length p.rows) ≡ true = lt_true j (p.columns + length p.rows) h in
      row_cell i j l ∙ rw (no, yes) refl

  -- its right side
  pub cell_of_right : (i : ℕ) → i < length p.rows → first_cell p i (p.columns + length p.rows + 1) ≡ (row_of p i).right
  cell_of_right i l =
      let right : ℕ = p.columns + length p.rows + 1 in
      let no : nat_lt right p.columns ≡ false = lt_false right p.columns (omega arith) in
      let none : nat_lt right (p.columns + length p.rows) ≡ false = lt_false right (p.columns + length p.rows) (omega arith) in
      let other : nat_eq right (p.columns + length p.rows) ≡ false = ne_eqb right (p.columns + length p.rows) (λ e. omega arith) in
      row_cell i right l ∙ rw (no, none, other) refl

  -- the goal row of phase one: 0 but for the extra column
  pub phase_one_none : (j : ℕ) → j ≢ p.columns + length p.rows → first_cell p (length p.rows) j ≡ zero_ℚ
  phase_one_none j h = first_goal_one p j ∙ unit_other (p.columns + length p.rows) j (extra_entry p) (λ e. h (sym e))

  -- the goal, and 0 beside it
  pub cell_of_goal : (j : ℕ) → j < p.columns → first_cell p (length p.rows + 1) j ≡ at p.goal j
  cell_of_goal j l = first_goal_two p j ∙ ap (λ b. cond b (at p.goal j) zero_ℚ) (lt_true j p.columns l)

  pub cell_beside_goal : (j : ℕ) → p.columns ≤ j → first_cell p (length p.rows + 1) j ≡ zero_ℚ
  cell_beside_goal j h = first_goal_two p j ∙ ap (λ b. cond b (at p.goal j) zero_ℚ) (lt_false j p.columns h)

  -- a row has no entry below 0 beside the program's columns and its right side
  pub slack_nonneg : (i j : ℕ) → i < length p.rows → p.columns ≤ j → j < p.columns + length p.rows → zero_ℚ ≤ℚ first_cell p i j
  slack_nonneg i j l after h = ≤ℚ_trans (unit_nonneg (p.columns + i) j one_ℚ one_nonneg) (≤ℚ_of_≡ (sym (cell_of_slack i j l after h)))
