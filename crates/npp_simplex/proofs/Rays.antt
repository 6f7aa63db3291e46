-- Where a column rises in phase two and no row may leave, the direction of the column is a ray. `IsPhaseTwoTable` bundles
-- the premises within.
use Rattle.std.proofs.Common.{◌≡◌, ◌≢◌, ℕ, ◌+◌, ◌<◌, List, [], length, Some, arith, ap, sym, ◌∙◌, subst}
use Rattle.std.specs.Prelude.{slice_index}
use Rattle.std.proofs.lemmas.List.{get_or_default}
use Rattle.npp_frac.specs.Rational.{Rational, zero_ℚ, one_ℚ, negative, ◌-ℚ◌, ◌*ℚ◌, ◌≤ℚ◌, ◌<ℚ◌}
use Rattle.npp_frac.specs.Ring.{+ℚ-zero}
use Rattle.npp_frac.specs.Order.{≤ℚ_of_≡, ≤ℚ_trans, +ℚ_mono, <ℚ_irrefl}
use Rattle.npp_frac.specs.Sums.{sum_to, unit}
use Rattle.npp_lp.specs.Programs.{LinearProgram, IsLinearProgram, IsRay, Row, AreTerms, at, row_of, no_row, terms_at, goal_at}
use Rattle.npp_simplex.specs.Tableau.{Tableau, cell}
use Rattle.npp_simplex.specs.Ratio.{rising_column, positive_rows}
use Rattle.npp_simplex.specs.Run.{first_cell}
use Rattle.npp_simplex.specs.Vectors.{ray}
use Rattle.npp_simplex.proofs.Invariant.{AreRows, IsGoalRow, ArePositive, without}
use Rattle.npp_simplex.proofs.NumberLaws.{one_nonneg, negative_nonneg}
use Rattle.npp_simplex.proofs.DoubleSums.{sum_nonneg, unit_nonneg}
use Rattle.npp_simplex.proofs.Directions.{first_row_at, goal_row_at}
use Rattle.npp_simplex.proofs.FirstPlaces.{one_rises, none_positive}
use Rattle.npp_simplex.proofs.VectorLemmas.{not_negative_at, ray_size, ray_at}
use Rattle.npp_simplex.proofs.WeightSums.{terms_of_weights, goal_of_weights, ray_weights, ray_sum, ray_sum_at_most}
use Rattle.npp_simplex.proofs.PhaseTwo.{second_cell, IsPhaseTwoTable, second_of_column, second_of_goal, second_slack, second_beside_goal, apart, basic_slack, basic_goal}

module _ (p : LinearProgram) (linear : IsLinearProgram p) (t : Tableau) (basis : List ℕ) (table : IsPhaseTwoTable p t basis) (c : ℕ) (rises : rising_column t (length p.rows + 1) ≡ Some c) (none : positive_rows t c ≡ []) where
  -- the entries of the column
  abbrev entry : ℕ → Rational
  entry k = cell t k c

  -- the numbers of the ray
  abbrev numbers : ℕ → Rational
  numbers = ray_weights (length p.rows) (slice_index basis) entry c

  column : (c < p.columns + length p.rows) × (zero_ℚ <ℚ cell t (length p.rows + 1) c)
  column = one_rises t (length p.rows) p.columns table.rows table.columns (length p.rows + 1) c rises

  -- a basic column has no reduced cost, so column c is not basic
  not_basic : (k : ℕ) → k < length p.rows → slice_index basis k ≢ c
  not_basic k l same = <ℚ_irrefl (subst (λ q. zero_ℚ <ℚ q) (ap (cell t (length p.rows + 1)) (sym same) ∙ table.goal.basic k l) column.1)

  number_at : (j : ℕ) → j < p.columns → at (ray t basis c) j ≡ numbers j
  number_at = ray_at t (length p.rows) p.columns table.rows table.columns basis table.size (apart p t basis table) c not_basic

  falls : (k : ℕ) → k < length p.rows → zero_ℚ ≤ℚ negative (entry k)
  falls k l = negative_nonneg (entry k) (none_positive t (length p.rows) p.columns table.rows table.columns c none k l)

  -- how a row changes along the column
  abbrev change : ℕ → Rational
  change i = second_cell p i c -ℚ sum_to (length p.rows) (λ k. entry k *ℚ second_cell p i (slice_index basis k))

  row_kept : (i : ℕ) → i < length p.rows → AreTerms p.columns (row_of p i).terms → terms_at (row_of p i).terms (ray t basis c) ≤ℚ zero_ℚ
  row_kept i l terms =
      let inside : c < p.columns + length p.rows + 2 = omega (arith, column.0) in
      ≤ℚ_trans (≤ℚ_of_≡ (terms_of_weights p.columns (row_of p i).terms (ray t basis c) (second_cell p i) numbers terms.in_range (λ j h. second_of_column p i j l h) number_at))
      (≤ℚ_trans (ray_sum_at_most p.columns (length p.rows) (slice_index basis) entry c (second_cell p i) (second_slack p i c l column.0) (basic_slack p t basis table i l) falls)
      (≤ℚ_of_≡ (first_row_at (length p.rows) p.columns (second_cell p) (cell t) (slice_index basis) table.are_rows c inside i l)))

  goal_is : goal_at p (ray t basis c) ≡ cell t (length p.rows + 1) c
  goal_is =
      goal_of_weights p (ray t basis c) (second_cell p (length p.rows + 1)) numbers (second_of_goal p) number_at
      ∙ ray_sum p.columns (length p.rows) (slice_index basis) entry c (second_cell p (length p.rows + 1)) (second_beside_goal p c column.0) (basic_goal p t basis table)
      ∙ sym (goal_row_at (length p.rows) p.columns (second_cell p) (cell t) (slice_index basis) table.are_rows c (omega (arith, column.0)) (length p.rows + 1) table.goal)

  number_nonneg : (j : ℕ) → zero_ℚ ≤ℚ numbers j
  number_nonneg j =
      ≤ℚ_trans (≤ℚ_of_≡ (sym (+ℚ-zero zero_ℚ)))
      (+ℚ_mono (unit_nonneg c j one_ℚ one_nonneg) (sum_nonneg (length p.rows) (λ k. unit (slice_index basis k) (negative (entry k)) j) (λ k h. unit_nonneg (slice_index basis k) j (negative (entry k)) (falls k h))))

  -- it keeps each row and raises the goal
  pub is_ray : IsRay p (ray t basis c)
  is_ray =
      let size : length (ray t basis c) ≡ p.columns = ray_size t (length p.rows) p.columns table.rows table.columns basis table.size (apart p t basis table) c in
      record {
        size = size;
        not_negative = not_negative_at (ray t basis c) (λ j l. subst (λ q. zero_ℚ ≤ℚ q) (sym (number_at j (omega (arith, l, size)))) (number_nonneg j));
        rows = λ i d l.
            let P : Row → Type 0 = λ r. terms_at r.terms (ray t basis c) ≤ℚ zero_ℚ in
            subst P (get_or_default p.rows i no_row d l) (row_kept i l (linear.rows i no_row l));
        goal = subst (λ q. zero_ℚ <ℚ q) (sym goal_is) column.1;
      }

-- the same, with what is known of the table one by one
pub unbounded_proved : (p : LinearProgram) → IsLinearProgram p → (t : Tableau) (basis : List ℕ) → t.rows ≡ length p.rows → t.columns ≡ p.columns → length basis ≡ length p.rows
    → AreRows (length p.rows) p.columns (without (p.columns + length p.rows) (first_cell p)) (cell t) (slice_index basis)
    → IsGoalRow (length p.rows) p.columns (without (p.columns + length p.rows) (first_cell p)) (cell t) (slice_index basis) (length p.rows + 1) → ArePositive (length p.rows) p.columns (cell t)
    → ((k : ℕ) → k < length p.rows → slice_index basis k < p.columns + length p.rows) → {c : ℕ} → rising_column t (length p.rows + 1) ≡ Some c → positive_rows t c ≡ [] → IsRay p (ray t basis c)
unbounded_proved p linear t basis rows columns size are_rows goal positive no_extra {c} rises none =
    is_ray p linear t basis (record { rows = rows; columns = columns; size = size; are_rows = are_rows; goal = goal; positive = positive; no_extra = no_extra }) c rises none
