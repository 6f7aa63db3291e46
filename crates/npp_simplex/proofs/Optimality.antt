-- Where no column rises in phase two, the point and the multipliers are optimal. `IsPhaseTwoTable` bundles the premises within.
use Rattle.std.proofs.Common.{◌≡◌, ℕ, ◌+◌, ◌<◌, List, length, None, arith, ap, ap₂, sym, ◌∙◌, subst}
use Rattle.std.specs.Prelude.{slice_index}
use Rattle.std.proofs.lemmas.List.{get_or_default}
use Rattle.npp_frac.specs.Rational.{Rational, zero_ℚ, negative, ◌+ℚ◌, ◌-ℚ◌, ◌*ℚ◌, ◌≤ℚ◌}
use Rattle.npp_frac.specs.Ring.{zero-+ℚ, negative_is, negative-negative}
use Rattle.npp_frac.specs.Order.{≤ℚ_of_≡, ≤ℚ_trans}
use Rattle.npp_frac.specs.Sums.{sum_to, unit}
use Rattle.npp_lp.specs.Programs.{LinearProgram, IsLinearProgram, IsPoint, Row, AreTerms, at, row_of, no_row, terms_at, goal_at}
use Rattle.npp_lp.specs.Duals.{IsDualAnswer}
use Rattle.npp_simplex.specs.Tableau.{Tableau, cell}
use Rattle.npp_simplex.specs.Ratio.{rising_column}
use Rattle.npp_simplex.specs.Run.{first_cell}
use Rattle.npp_simplex.specs.Vectors.{point, multipliers, value}
use Rattle.npp_simplex.specs.Proved.{AreOptimal}
use Rattle.npp_simplex.proofs.Invariant.{combined, AreRows, IsGoalRow, ArePositive, without}
use Rattle.npp_simplex.proofs.DoubleSums.{sum_nonneg, unit_nonneg, basic_weights, basic_sum, basic_sum_at_most}
use Rattle.npp_simplex.proofs.NumberLaws.{none_between, at_most_negative}
use Rattle.npp_simplex.proofs.KeyNumbers.{right_nonneg}
use Rattle.npp_simplex.proofs.Directions.{first_row_at, goal_row_at}
use Rattle.npp_simplex.proofs.FirstPlaces.{none_rises}
use Rattle.npp_simplex.proofs.VectorLemmas.{not_negative_at, multipliers_size, point_size, point_at}
use Rattle.npp_simplex.proofs.WeightSums.{terms_of_weights, goal_of_weights}
use Rattle.npp_simplex.proofs.PhaseTwo.{second_cell, IsPhaseTwoTable, second_of_column, second_of_right, second_of_goal, second_goal_right, apart, basic_slack, basic_goal}
use Rattle.npp_simplex.proofs.Multipliers.{multipliers_nonneg, column_sum_is, right_value_is}

module _ (p : LinearProgram) (linear : IsLinearProgram p) (t : Tableau) (basis : List ℕ) (table : IsPhaseTwoTable p t basis) where
  -- the right sides
  abbrev right : ℕ → Rational
  right k = cell t k (p.columns + length p.rows + 1)

  -- the numbers of the point
  abbrev numbers : ℕ → Rational
  numbers = basic_weights (length p.rows) (slice_index basis) right

  right_above : (k : ℕ) → k < length p.rows → zero_ℚ ≤ℚ right k
  right_above k l = right_nonneg (length p.rows) p.columns (cell t k) (table.positive k l)

  number_at : (j : ℕ) → j < p.columns → at (point t basis) j ≡ numbers j
  number_at = point_at t (length p.rows) p.columns table.rows table.columns basis table.size (apart p t basis table)

  -- what the basic columns give a row
  abbrev basic_total : ℕ → Rational
  basic_total i = sum_to (length p.rows) (λ k. right k *ℚ second_cell p i (slice_index basis k))

  right_is : (i : ℕ) → i < length p.rows → basic_total i ≡ (row_of p i).right
  right_is i l =
      sym (none_between (second_cell p i (p.columns + length p.rows + 1)) (basic_total i) (first_row_at (length p.rows) p.columns (second_cell p) (cell t) (slice_index basis) table.are_rows (p.columns + length p.rows + 1) (omega arith) i l))
      ∙ second_of_right p i l

  row_kept : (i : ℕ) → i < length p.rows → AreTerms p.columns (row_of p i).terms → terms_at (row_of p i).terms (point t basis) ≤ℚ (row_of p i).right
  row_kept i l terms =
      ≤ℚ_trans (≤ℚ_of_≡ (terms_of_weights p.columns (row_of p i).terms (point t basis) (second_cell p i) numbers terms.in_range (λ j h. second_of_column p i j l h) number_at))
      (≤ℚ_trans (basic_sum_at_most p.columns (length p.rows) (slice_index basis) right (second_cell p i) right_above (basic_slack p t basis table i l)) (≤ℚ_of_≡ (right_is i l)))

  is_point : IsPoint p (point t basis)
  is_point = record {
    size = point_size t (length p.rows) p.columns table.rows table.columns basis table.size (apart p t basis table);
    not_negative = not_negative_at (point t basis) (λ j l.
        let within : j < p.columns = omega (arith, l, point_size t (length p.rows) p.columns table.rows table.columns basis table.size (apart p t basis table)) in
        subst (λ q. zero_ℚ ≤ℚ q) (sym (number_at j within))
        (sum_nonneg (length p.rows) (λ k. unit (slice_index basis k) (right k) j) (λ k h. unit_nonneg (slice_index basis k) j (right k) (right_above k h))));
    rows = λ i d l.
        let P : Row → Type 0 = λ r. terms_at r.terms (point t basis) ≤ℚ r.right in
        subst P (get_or_default p.rows i no_row d l) (row_kept i l (linear.rows i no_row l));
  }

  value_is : value t ≡ negative (right (length p.rows + 1))
  value_is = ap₂ (λ r c. negative (cell t (r + 1) (c + r + 1))) table.rows table.columns

  goal_is : goal_at p (point t basis) ≡ value t
  goal_is =
      let row : right (length p.rows + 1) ≡ negative (basic_total (length p.rows + 1)) =
      goal_row_at (length p.rows) p.columns (second_cell p) (cell t) (slice_index basis) table.are_rows (p.columns + length p.rows + 1) (omega arith) (length p.rows + 1) table.goal
      ∙ ap (λ z. z -ℚ basic_total (length p.rows + 1)) (second_goal_right p)
      ∙ sym (negative_is (basic_total (length p.rows + 1))) in
      goal_of_weights p (point t basis) (second_cell p (length p.rows + 1)) numbers (second_of_goal p) number_at
      ∙ basic_sum p.columns (length p.rows) (slice_index basis) right (second_cell p (length p.rows + 1)) (basic_goal p t basis table)
      ∙ sym (value_is ∙ ap negative row ∙ negative-negative (basic_total (length p.rows + 1)))

  -- what the rows add to the goal in a column
  abbrev added : ℕ → Rational
  added j = combined (length p.rows) p.columns (second_cell p) (cell t (length p.rows + 1)) j

  is_dual : rising_column t (length p.rows + 1) ≡ None → IsDualAnswer p (multipliers t (length p.rows + 1)) (value t)
  is_dual none = record {
    size = multipliers_size t (length p.rows) p.columns table.rows table.columns (length p.rows + 1);
    not_negative = multipliers_nonneg p t (length p.rows + 1) table.rows table.columns none;
    columns = λ j l.
        let low : cell t (length p.rows + 1) j ≤ℚ zero_ℚ = none_rises t (length p.rows) p.columns table.rows table.columns (length p.rows + 1) none j (omega arith) in
        let sum : cell t (length p.rows + 1) j ≡ at p.goal j +ℚ added j = table.goal.combined j (omega arith) ∙ ap (λ z. z +ℚ added j) (second_of_goal p j l) in
        subst (λ q. at p.goal j ≤ℚ q)
        (sym (column_sum_is p t (length p.rows + 1) table.rows table.columns (second_cell p) j (λ k h. second_of_column p k j h l)))
        (at_most_negative (at p.goal j) (added j) (subst (λ q. q ≤ℚ zero_ℚ) sum low));
    value =
        let last : ℕ = p.columns + length p.rows + 1 in
        value_is
        ∙ ap negative (table.goal.combined last (omega arith) ∙ ap (λ z. z +ℚ added last) (second_goal_right p) ∙ zero-+ℚ (added last))
        ∙ sym (right_value_is p t (length p.rows + 1) table.rows table.columns (second_cell p) last (second_of_right p));
  }

  -- the point, its goal and the dual answer together
  pub are_optimal : rising_column t (length p.rows + 1) ≡ None → AreOptimal p (point t basis) (multipliers t (length p.rows + 1)) (value t)
  are_optimal none = record { point = is_point; goal = goal_is; dual = is_dual none }

-- the same, with what is known of the table one by one
pub optimal_proved : (p : LinearProgram) → IsLinearProgram p → (t : Tableau) (basis : List ℕ) → t.rows ≡ length p.rows → t.columns ≡ p.columns → length basis ≡ length p.rows
    → AreRows (length p.rows) p.columns (without (p.columns + length p.rows) (first_cell p)) (cell t) (slice_index basis)
    → IsGoalRow (length p.rows) p.columns (without (p.columns + length p.rows) (first_cell p)) (cell t) (slice_index basis) (length p.rows + 1) → ArePositive (length p.rows) p.columns (cell t)
    → ((k : ℕ) → k < length p.rows → slice_index basis k < p.columns + length p.rows) → rising_column t (length p.rows + 1) ≡ None → AreOptimal p (point t basis) (multipliers t (length p.rows + 1)) (value t)
optimal_proved p linear t basis rows columns size are_rows goal positive no_extra none =
    are_optimal p linear t basis (record { rows = rows; columns = columns; size = size; are_rows = are_rows; goal = goal; positive = positive; no_extra = no_extra }) none
