-- Where no column rises in phase one the program has no point, and a column that rises has a row that may leave.
use Rattle.std.proofs.Common.{◌≡◌, ◌≢◌, ℕ, ◌+◌, ◌<◌, List, [], length, Some, None, arith, ap, sym, ◌∙◌, subst, inl, inr}
use Rattle.std.specs.Prelude.{slice_index}
use Rattle.npp_frac.specs.Rational.{Rational, zero_ℚ, negative, ◌+ℚ◌, ◌≤ℚ◌, ◌<ℚ◌}
use Rattle.npp_frac.specs.Ring.{zero-+ℚ}
use Rattle.npp_frac.specs.Order.{not-≤ℚ_of_<ℚ}
use Rattle.npp_lp.specs.Programs.{LinearProgram, IsLinearProgram}
use Rattle.npp_lp.specs.Duals.{IsFarkasAnswer}
use Rattle.npp_simplex.specs.Tableau.{Tableau, cell}
use Rattle.npp_simplex.specs.Ratio.{rising_column, positive_rows}
use Rattle.npp_simplex.specs.Run.{first_cell}
use Rattle.npp_simplex.specs.Vectors.{multipliers}
use Rattle.npp_simplex.proofs.Invariant.{combined, AreRows, IsGoalRow, IsExtraRow, ArePositive}
use Rattle.npp_simplex.proofs.NumberLaws.{negative_nonneg, negative_below}
use Rattle.npp_simplex.proofs.KeyNumbers.{some_positive}
use Rattle.npp_simplex.proofs.FirstPlaces.{none_rises, one_rises, none_positive}
use Rattle.npp_simplex.proofs.FirstCells.{cell_of_column, cell_of_right, phase_one_none}
use Rattle.npp_simplex.proofs.VectorLemmas.{multipliers_size}
use Rattle.npp_simplex.proofs.Multipliers.{multipliers_nonneg, column_sum_is, right_value_is}

-- the row of the extra variable has a positive right side, where no slack rises
pub extra_positive : (m n : ℕ) (e : ℕ → ℕ → Rational) (basis : ℕ → ℕ) (h : ℕ) → IsExtraRow m n e basis h → ArePositive m n e → ((j : ℕ) → j < n + m → e m j ≤ℚ zero_ℚ) → zero_ℚ <ℚ e m (n + m + 1)
extra_positive m n e basis h extra positive none = elim (positive h extra.row) [
  | inl above ↦ subst (λ q. zero_ℚ <ℚ q) (sym (extra.same (n + m + 1) (omega arith) (λ same. omega arith))) above
  | inr rest ↦
      let found : (k : ℕ) × (k < m) × (zero_ℚ <ℚ e h (n + k)) = some_positive (e h) n m rest.1 in
      let slack : e m (n + found.0) ≡ e h (n + found.0) = extra.same (n + found.0) (omega (arith, found.1)) (λ same. omega (arith, found.1, same)) in
      absurd (not-≤ℚ_of_<ℚ found.2 (subst (λ q. q ≤ℚ zero_ℚ) slack (none (n + found.0) (omega (arith, found.1)))))
]

-- the multipliers of the goal row of phase one are a Farkas answer
pub infeasible_proved : (p : LinearProgram) → IsLinearProgram p → (t : Tableau) (basis : List ℕ) (h : ℕ) → t.rows ≡ length p.rows → t.columns ≡ p.columns → length basis ≡ length p.rows
    → AreRows (length p.rows) p.columns (first_cell p) (cell t) (slice_index basis) → IsGoalRow (length p.rows) p.columns (first_cell p) (cell t) (slice_index basis) (length p.rows)
    → IsExtraRow (length p.rows) p.columns (cell t) (slice_index basis) h → ArePositive (length p.rows) p.columns (cell t) → rising_column t (length p.rows) ≡ None → IsFarkasAnswer p (multipliers t (length p.rows))
infeasible_proved p linear t basis h rows columns size are_rows goal extra positive none =
    let m : ℕ = length p.rows in
    let n : ℕ = p.columns in
    let low : (j : ℕ) → j < n + m → cell t m j ≤ℚ zero_ℚ = none_rises t m n rows columns m none in
    let row_is : (j : ℕ) → j < n + m + 2 → j ≢ n + m → cell t m j ≡ combined m n (first_cell p) (cell t m) j = λ j l apart.
    goal.combined j l ∙ ap (λ z. z +ℚ combined m n (first_cell p) (cell t m) j) (phase_one_none p j apart) ∙ zero-+ℚ (combined m n (first_cell p) (cell t m) j) in
    record {
      size = multipliers_size t m n rows columns m;
      not_negative = multipliers_nonneg p t m rows columns none;
      columns = λ j l.
          subst (λ q. zero_ℚ ≤ℚ q) (ap negative (row_is j (omega arith) (λ e. omega arith)) ∙ sym (column_sum_is p t m rows columns (first_cell p) j (λ k kl. cell_of_column p k j kl l)))
          (negative_nonneg (cell t m j) (low j (omega arith)));
      value =
          subst (λ q. q <ℚ zero_ℚ) (ap negative (row_is (n + m + 1) (omega arith) (λ e. omega arith)) ∙ sym (right_value_is p t m rows columns (first_cell p) (n + m + 1) (cell_of_right p)))
          (negative_below (cell t m (n + m + 1)) (extra_positive m n (cell t) (slice_index basis) h extra positive low));
    }

-- in phase one some row may leave: that of the extra variable
pub some_row_leaves : (t : Tableau) {basis : ℕ → ℕ} (m n c h : ℕ) → t.rows ≡ m → t.columns ≡ n → IsExtraRow m n (cell t) basis h → rising_column t m ≡ Some c → positive_rows t c ≡ [] → ⊥
some_row_leaves t m n c h rows columns extra rises none =
    let column : (c < n + m) × (zero_ℚ <ℚ cell t m c) = one_rises t m n rows columns m c rises in
    let same : cell t m c ≡ cell t h c = extra.same c (omega (arith, column.0)) (λ e. omega (arith, column.0, e)) in
    not-≤ℚ_of_<ℚ column.1 (subst (λ q. q ≤ℚ zero_ℚ) (sym same) (none_positive t m n rows columns c none h extra.row))
