-- What the basic columns alone decide of a table.
use Rattle.std.proofs.Common.{◌≡◌, ℕ, ◌+◌, ◌<◌, arith, ap, sym, ◌∙◌}
use Rattle.npp_frac.specs.Rational.{Rational, zero_ℚ, one_ℚ, ◌-ℚ◌, ◌*ℚ◌, ◌≤ℚ◌, ◌<ℚ◌}
use Rattle.npp_frac.specs.Order.{≤ℚ_of_≡, ≤ℚ_trans, not-≤ℚ_of_<ℚ, *ℚ_nonneg}
use Rattle.npp_frac.specs.Sums.{sum_to, unit}
use Rattle.npp_simplex.proofs.Invariant.{Solves, AreRows, IsGoalRow, ArePositive}
use Rattle.npp_simplex.proofs.NumberLaws.{one_nonneg, none_between}
use Rattle.npp_simplex.proofs.DoubleSums.{sum_nonneg, unit_nonneg}
use Rattle.npp_simplex.proofs.KeyNumbers.{right_nonneg}
use Rattle.npp_simplex.proofs.Directions.{direction, direction_goal, direction_solves, basis_inside, goal_sum, first_row_at}

-- two tables of one stage with the same basic columns have the same goal row
pub same_goal_rows : (m n : ℕ) (first e d : ℕ → ℕ → Rational) (basis b : ℕ → ℕ) (g : ℕ) → AreRows m n first e basis → AreRows m n first d b → IsGoalRow m n first e basis g → IsGoalRow m n first d b g
    → ((k : ℕ) → k < m → (i : ℕ) × (i < m) × (b i ≡ basis k)) → (j : ℕ) → j < n + m + 2 → e g j ≡ d g j
same_goal_rows m n first e d basis b g rows others goal other same j l =
    let w : ℕ → Rational = direction m basis e j in
    let solved : Solves m n first w = direction_solves m n first e basis rows j l in
    let none : (k : ℕ) → k < m → d g (basis k) ≡ zero_ℚ = λ k h. ap (d g) (sym (same k h).2) ∙ other.basic (same k h).0 (same k h).1 in
    sym (direction_goal (n + m + 2) m basis e j (e g) l (basis_inside m n first e basis rows) goal.basic)
    ∙ goal_sum m n first e basis g w goal solved
    ∙ sym (goal_sum m n first d b g w other solved)
    ∙ direction_goal (n + m + 2) m basis e j (d g) l (basis_inside m n first e basis rows) none

-- where a first right side is negative, a table with positive rows has a basic column that is no slack
pub slacks_not_again : (m n : ℕ) (first e : ℕ → ℕ → Rational) (basis : ℕ → ℕ) → AreRows m n first e basis → ArePositive m n e → ((i k : ℕ) → i < m → k < m → first i (n + k) ≡ unit k one_ℚ i)
    → (k : ℕ) → k < m → first k (n + m + 1) <ℚ zero_ℚ → ((i : ℕ) → i < m → (q : ℕ) × (q < m) × (basis i ≡ n + q)) → ⊥
slacks_not_again m n first e basis rows positive slack k l below slacks =
    let s : Rational = sum_to m (λ i. e i (n + m + 1) *ℚ first k (basis i)) in
    let solved : first k (n + m + 1) -ℚ s ≡ zero_ℚ = first_row_at m n first e basis rows (n + m + 1) (omega arith) k l in
    let at_slack : (i : ℕ) → i < m → zero_ℚ ≤ℚ first k (basis i) = λ i h.
    ≤ℚ_trans (unit_nonneg (slacks i h).0 k one_ℚ one_nonneg) (≤ℚ_of_≡ (sym (ap (first k) (slacks i h).2 ∙ slack k (slacks i h).0 l (slacks i h).1))) in
    let above : zero_ℚ ≤ℚ s = sum_nonneg m (λ i. e i (n + m + 1) *ℚ first k (basis i)) (λ i h. *ℚ_nonneg (right_nonneg m n (e i) (positive i h)) (at_slack i h)) in
    not-≤ℚ_of_<ℚ below (≤ℚ_trans above (≤ℚ_of_≡ (sym (none_between (first k (n + m + 1)) s solved))))
