-- What holds of each state of a run, stage by stage. m and n are the numbers of rows and columns.
use Rattle.std.proofs.Common.{◌≡◌, ℕ, ◌+◌, ◌<◌, List, length, slice_index, true}
use Rattle.std.specs.List.{range_with_len}
use Rattle.npp_frac.specs.Rational.{Rational}
use Rattle.npp_lp.specs.Programs.{LinearProgram}
use Rattle.npp_simplex.specs.declared.stage.Stage.{Stage}
use Rattle.npp_simplex.specs.declared.stage.Stage.TheVariants.{Entry, PhaseOne, PhaseTwo}
use Rattle.npp_simplex.specs.Tableau.{Tableau, cell}
use Rattle.npp_simplex.specs.Run.{State, has_phase_one, first_cell, first_tableau}
use Rattle.npp_simplex.proofs.Invariant.{AreRows, IsGoalRow, IsExtraRow, ArePositive, without}

-- the tableau is of the program's size, and so is the basis
pub record IsSized (m n : ℕ) (t : Tableau) (basis : List ℕ) : Type 0 where
  pub rows : t.rows ≡ m
  pub columns : t.columns ≡ n
  pub basic : length basis ≡ m

-- phase one has not begun: the tableau is the first one, the slacks are basic, and a right side is negative
pub record IsAtEntry (p : LinearProgram) (t : Tableau) (basis : List ℕ) : Type 0 where
  pub stands : has_phase_one p ≡ true
  pub tableau : t ≡ first_tableau p
  pub slacks : basis ≡ range_with_len p.columns (length p.rows)

-- in phase one both goal rows are kept, and the extra variable is basic
pub record IsInPhaseOne (m n : ℕ) (first : ℕ → ℕ → Rational) (t : Tableau) (basis : List ℕ) : Type 0 where
  pub sizes : IsSized m n t basis
  pub rows : AreRows m n first (cell t) (slice_index basis)
  pub first_goal : IsGoalRow m n first (cell t) (slice_index basis) m
  pub second_goal : IsGoalRow m n first (cell t) (slice_index basis) (m + 1)
  pub extra_row : ℕ
  pub extra : IsExtraRow m n (cell t) (slice_index basis) extra_row
  pub positive : ArePositive m n (cell t)

-- in phase two the extra variable is not basic
pub record IsInPhaseTwo (m n : ℕ) (first : ℕ → ℕ → Rational) (t : Tableau) (basis : List ℕ) : Type 0 where
  pub sizes : IsSized m n t basis
  pub rows : AreRows m n first (cell t) (slice_index basis)
  pub goal : IsGoalRow m n first (cell t) (slice_index basis) (m + 1)
  pub positive : ArePositive m n (cell t)
  pub basic : (k : ℕ) → k < m → slice_index basis k < n + m

-- the cells of the first tableau without the extra column
abbrev pub first_cell_without : LinearProgram → ℕ → ℕ → Rational
first_cell_without p = without (p.columns + length p.rows) (first_cell p)

abbrev pub IsReachedAt : LinearProgram → Stage → Tableau → List ℕ → Type 0
IsReachedAt p Entry t basis = IsAtEntry p t basis
IsReachedAt p PhaseOne t basis = IsInPhaseOne (length p.rows) p.columns (first_cell p) t basis
IsReachedAt p PhaseTwo t basis = IsInPhaseTwo (length p.rows) p.columns (first_cell_without p) t basis

-- what holds of each state that the run of the program reaches
abbrev pub IsReached : LinearProgram → State → Type 0
IsReached p x = IsReachedAt p x.stage x.tableau x.basis
