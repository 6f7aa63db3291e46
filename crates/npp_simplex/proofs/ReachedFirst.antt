-- What holds of the state in which a run begins, and of the one after phase one's first pivot.
use Rattle.std.proofs.Common.{◌≡◌, ◌≢◌, ℕ, ◌+◌, ◌<◌, ◌≤◌, length, set, slice_index, Bool, true, false, cond, nat_eq, arith, ap, sym, ◌∙◌, refl, subst}
use Rattle.std.specs.List.{range_with_len}
use Rattle.std.proofs.lemmas.List.FromFn.{length-range_with_len, get_or-range_with_len}
use Rattle.npp_frac.specs.Rational.{zero_ℚ, one_ℚ, negative}
use Rattle.npp_lp.specs.Programs.{LinearProgram}
use Rattle.npp_simplex.specs.Tableau.{cell, pivoted}
use Rattle.npp_simplex.specs.Run.{has_phase_one, first_cell, first_tableau, first_stage, first_state}
use Rattle.npp_simplex.proofs.Starting.{one_apart}
use Rattle.npp_simplex.proofs.CellLaws.{cell_of_first, cell_of_pivoted, basis_of_turned}
use Rattle.npp_simplex.proofs.Invariant.{AreRows, IsGoalRow, IsExtraRow, turned_cell, turned_basis, ArePositive}
use Rattle.npp_simplex.proofs.KeptRows.{AreRows-same, IsGoalRow-same, IsExtraRow-same}
use Rattle.npp_simplex.proofs.RowStarts.{AreRows-first, IsGoalRow-first, IsExtraRow-entered, first_slacks, first_goals, first_extra_rows, first_extra_goal, first_without}
use Rattle.npp_simplex.proofs.LexStarts.{ArePositive-first, no_right_negative}
use Rattle.npp_simplex.proofs.LexTurns.{ArePositive-same}
use Rattle.npp_simplex.proofs.PhaseSteps.{sizes_turned, rows_turned, goal_turned, positive_turned}
use Rattle.npp_simplex.proofs.Reached.{IsSized, IsInPhaseOne, IsInPhaseTwo, IsReachedAt, IsReached, first_cell_without}

-- ---- the first state

basis_of_first : (m n k : ℕ) → k < m → n + k ≡ slice_index (range_with_len n m) k
basis_of_first m n k l = sym (get_or-range_with_len n m k 0 l)

first_phase_two : (p : LinearProgram) → has_phase_one p ≡ false → IsInPhaseTwo (length p.rows) p.columns (first_cell_without p) (first_tableau p) (range_with_len p.columns (length p.rows))
first_phase_two p h =
    let rows = AreRows-first (length p.rows) p.columns (first_cell p) (first_slacks p) in
    record {
      sizes = record { rows = refl; columns = refl; basic = length-range_with_len p.columns (length p.rows) };
      rows = AreRows-same (length p.rows) p.columns (first_cell p) (first_cell_without p) (first_cell p) (cell (first_tableau p)) (λ k. p.columns + k) (slice_index (range_with_len p.columns (length p.rows)))
          (λ i j l jl. sym (first_without p h i j l)) (λ i j l jl. sym (cell_of_first p i j l jl)) (basis_of_first (length p.rows) p.columns) rows;
      goal = IsGoalRow-same (length p.rows) p.columns (first_cell p) (first_cell_without p) (first_cell p) (cell (first_tableau p)) (λ k. p.columns + k) (slice_index (range_with_len p.columns (length p.rows))) (length p.rows + 1) (omega arith)
          (λ i j l jl. sym (first_without p h i j l)) (λ i j l jl. sym (cell_of_first p i j l jl)) (basis_of_first (length p.rows) p.columns) rows
          (IsGoalRow-first (length p.rows) p.columns (first_cell p) (length p.rows + 1) (first_goals p (length p.rows + 1) (omega arith)));
      positive = ArePositive-same (length p.rows) p.columns (first_cell p) (cell (first_tableau p)) (λ i j l jl. sym (cell_of_first p i j (omega arith) jl))
          (ArePositive-first (length p.rows) p.columns (first_cell p) (first_slacks p) (no_right_negative p h));
      basic = λ k l. subst (λ b. b < p.columns + length p.rows) (basis_of_first (length p.rows) p.columns k l) (omega arith);
    }

reached_by : (p : LinearProgram) (b : Bool) → has_phase_one p ≡ b → IsReachedAt p (first_stage b) (first_tableau p) (range_with_len p.columns (length p.rows))
reached_by p true h = record { stands = h; tableau = refl; slacks = refl }
reached_by p false h = first_phase_two p h

pub reached_first : (p : LinearProgram) → IsReached p (first_state p)
reached_first p = reached_by p (has_phase_one p) refl

-- ---- phase one's first pivot

-- the first tableau as one of phase one, but for the extra variable
module _ (p : LinearProgram) where
  first_sizes : IsSized (length p.rows) p.columns (first_tableau p) (range_with_len p.columns (length p.rows))
  first_sizes = record { rows = refl; columns = refl; basic = length-range_with_len p.columns (length p.rows) }

  first_rows : AreRows (length p.rows) p.columns (first_cell p) (cell (first_tableau p)) (slice_index (range_with_len p.columns (length p.rows)))
  first_rows =
      AreRows-same (length p.rows) p.columns (first_cell p) (first_cell p) (first_cell p) (cell (first_tableau p)) (λ k. p.columns + k) (slice_index (range_with_len p.columns (length p.rows)))
      (λ i j l jl. refl) (λ i j l jl. sym (cell_of_first p i j l jl)) (basis_of_first (length p.rows) p.columns)
      (AreRows-first (length p.rows) p.columns (first_cell p) (first_slacks p))

  first_goal_row : (g : ℕ) → length p.rows ≤ g → g < length p.rows + 2 → IsGoalRow (length p.rows) p.columns (first_cell p) (cell (first_tableau p)) (slice_index (range_with_len p.columns (length p.rows))) g
  first_goal_row g low high =
      IsGoalRow-same (length p.rows) p.columns (first_cell p) (first_cell p) (first_cell p) (cell (first_tableau p)) (λ k. p.columns + k) (slice_index (range_with_len p.columns (length p.rows))) g high
      (λ i j l jl. refl) (λ i j l jl. sym (cell_of_first p i j l jl)) (basis_of_first (length p.rows) p.columns)
      (AreRows-first (length p.rows) p.columns (first_cell p) (first_slacks p))
      (IsGoalRow-first (length p.rows) p.columns (first_cell p) g (first_goals p g low))

  module _ (stands : has_phase_one p ≡ true) (r : ℕ) (inside : r < length p.rows) where
    extra_of_first : (i : ℕ) → i < length p.rows → cell (first_tableau p) i (p.columns + length p.rows) ≡ negative one_ℚ
    extra_of_first i l = cell_of_first p i (p.columns + length p.rows) (omega arith) (omega arith) ∙ first_extra_rows p stands i l

    entered_extra : IsExtraRow (length p.rows) p.columns (cell (pivoted (first_tableau p) r (p.columns + length p.rows))) (slice_index (set (range_with_len p.columns (length p.rows)) r (p.columns + length p.rows))) r
    entered_extra =
        IsExtraRow-same (length p.rows) p.columns (turned_cell (cell (first_tableau p)) r (p.columns + length p.rows)) (cell (pivoted (first_tableau p) r (p.columns + length p.rows)))
        (turned_basis (λ k. p.columns + k) r (p.columns + length p.rows)) (slice_index (set (range_with_len p.columns (length p.rows)) r (p.columns + length p.rows))) r
        (λ i j l jl. sym (cell_of_pivoted (first_tableau p) (length p.rows) p.columns refl refl r (p.columns + length p.rows) i j l jl))
        (λ k l. ap (λ b. cond (nat_eq k r) (p.columns + length p.rows) b) (basis_of_first (length p.rows) p.columns k l) ∙ sym (basis_of_turned (range_with_len p.columns (length p.rows)) r (p.columns + length p.rows) k (let many = length-range_with_len p.columns (length p.rows) in omega arith)))
        (IsExtraRow-entered (length p.rows) p.columns (cell (first_tableau p)) r inside extra_of_first (λ j jl. cell_of_first p (length p.rows) j (omega arith) jl ∙ first_extra_goal p stands j jl))

    pub entered : ArePositive (length p.rows) p.columns (turned_cell (cell (first_tableau p)) r (p.columns + length p.rows)) → IsInPhaseOne (length p.rows) p.columns (first_cell p) (pivoted (first_tableau p) r (p.columns + length p.rows)) (set (range_with_len p.columns (length p.rows)) r (p.columns + length p.rows))
    entered positive =
        let m = length p.rows in
        let n = p.columns in
        let slacks = range_with_len p.columns (length p.rows) in
        let nonzero : cell (first_tableau p) r (p.columns + length p.rows) ≢ zero_ℚ = λ e. one_apart (sym (extra_of_first r inside) ∙ e) in
        let column : p.columns + length p.rows < p.columns + length p.rows + 1 = omega arith in
        record {
          sizes = sizes_turned m n (first_cell p) (first_tableau p) slacks r (n + m) inside column nonzero first_sizes;
          rows = rows_turned m n (first_cell p) (first_tableau p) slacks r (n + m) inside column nonzero first_sizes first_rows;
          first_goal = goal_turned m n (first_cell p) (first_tableau p) slacks r (n + m) inside column nonzero m (omega arith) (omega arith) first_sizes first_rows (first_goal_row m (omega arith) (omega arith));
          second_goal = goal_turned m n (first_cell p) (first_tableau p) slacks r (n + m) inside column nonzero (m + 1) (omega arith) (omega arith) first_sizes first_rows (first_goal_row (m + 1) (omega arith) (omega arith));
          extra_row = r;
          extra = entered_extra;
          positive = positive_turned m n (first_cell p) (first_tableau p) slacks r (n + m) inside column nonzero first_sizes positive;
        }
