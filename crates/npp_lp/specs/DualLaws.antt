-- What multipliers prove: weak duality, and its form where there is no point.
use Rattle.std.specs.Prelude.{◌≡◌, ℕ, zero, suc, ◌<◌, ◌≤◌, List, [], ◌∷◌, length, All}
use Rattle.std.proofs.Common.{arith, ap, ap₂, ◌∙◌}
use Rattle.std.proofs.lemmas.List.Elements.{All-head, All-tail}
use Rattle.npp_frac.specs.Rational.{Rational, zero_ℚ, ◌+ℚ◌, ◌*ℚ◌, ◌≤ℚ◌}
use Rattle.npp_frac.specs.Ring.{+ℚ-*ℚ, *ℚ_comm, *ℚ_assoc, zero-*ℚ}
use Rattle.npp_frac.specs.Order.{≤ℚ_refl, ≤ℚ_trans, +ℚ_mono, *ℚ_mono, not-≤ℚ_of_<ℚ}
use Rattle.npp_frac.specs.Sums.{sum_by, sum_to, sum_to_same, sum_to_mono, sum_to_zero, sum_to-+ℚ, sum_to-*ℚ, unit, sum_to-unit}
use Rattle.npp_lp.specs.Programs.{Term, LinearProgram, AreTerms, at, row_of, no_row, product_sum, terms_at, goal_at, AreNotNegative, IsPoint, IsProgramBound, IsInfeasible, IsOptimum}
use Rattle.npp_lp.specs.Duals.{coefficient, column_sum, right_value, IsDualAnswer, IsFarkasAnswer}

-- the terms at a point, column by column
pub terms_by_columns : (n : ℕ) (ts : List Term) (x : List Rational) → All (λ t. t.column < n) ts → product_sum n (coefficient ts) (at x) ≡ terms_at ts x
unfolding sum_by
terms_by_columns n [] x h = sum_to_same n (λ j. zero_ℚ *ℚ at x j) (λ j. zero_ℚ) (λ j l. zero-*ℚ (at x j)) ∙ sum_to_zero n
terms_by_columns n (t ∷ ts) x h =
    sum_to_same n (λ j. (unit t.column t.value j +ℚ sum_by (λ s. unit s.column s.value j) ts) *ℚ at x j) (λ j. unit t.column t.value j *ℚ at x j +ℚ sum_by (λ s. unit s.column s.value j) ts *ℚ at x j) (λ j l. +ℚ-*ℚ (unit t.column t.value j) (sum_by (λ s. unit s.column s.value j) ts) (at x j))
    ∙ sum_to-+ℚ n (λ j. unit t.column t.value j *ℚ at x j) (λ j. sum_by (λ s. unit s.column s.value j) ts *ℚ at x j)
    ∙ ap₂ ◌+ℚ◌ (sum_to-unit n t.column t.value (at x) (All-head (λ s. s.column < n) t ts h)) (terms_by_columns n ts x (All-tail (λ s. s.column < n) t ts h))

-- one more row in a combination of rows at a point
more_rows : (n i : ℕ) (e : ℕ → ℕ → Rational) (y : ℕ → Rational) (x : ℕ → Rational) → sum_to n (λ j. product_sum (suc i) (λ k. e k j) y *ℚ x j) ≡ sum_to n (λ j. product_sum i (λ k. e k j) y *ℚ x j) +ℚ y i *ℚ sum_to n (λ j. e i j *ℚ x j)
unfolding sum_to
more_rows n i e y x =
    sum_to_same n (λ j. (product_sum i (λ k. e k j) y +ℚ e i j *ℚ y i) *ℚ x j) (λ j. product_sum i (λ k. e k j) y *ℚ x j +ℚ y i *ℚ (e i j *ℚ x j)) (λ j l.
    +ℚ-*ℚ (product_sum i (λ k. e k j) y) (e i j *ℚ y i) (x j)
    ∙ ap (λ t. product_sum i (λ k. e k j) y *ℚ x j +ℚ t) (ap (λ t. t *ℚ x j) (*ℚ_comm (e i j) (y i)) ∙ *ℚ_assoc (y i) (e i j) (x j)))
    ∙ sum_to-+ℚ n (λ j. product_sum i (λ k. e k j) y *ℚ x j) (λ j. y i *ℚ (e i j *ℚ x j))
    ∙ ap (λ t. sum_to n (λ j. product_sum i (λ k. e k j) y *ℚ x j) +ℚ t) (sum_to-*ℚ n (y i) (λ j. e i j *ℚ x j))

-- the first rows, each times its multiplier, are together at most their right sides
combined : (p : LinearProgram) (y x : List Rational) → All (λ r. AreTerms p.columns r.terms) p.rows → length y ≡ length p.rows → AreNotNegative y → IsPoint p x → (i : ℕ) → i ≤ length p.rows → sum_to p.columns (λ j. product_sum i (λ k. coefficient (row_of p k).terms j) (at y) *ℚ at x j) ≤ℚ product_sum i (λ k. (row_of p k).right) (at y)
unfolding sum_to
combined p y x rows size positive point zero h =
    let none : sum_to p.columns (λ j. zero_ℚ *ℚ at x j) ≡ zero_ℚ = sum_to_same p.columns (λ j. zero_ℚ *ℚ at x j) (λ j. zero_ℚ) (λ j l. zero-*ℚ (at x j)) ∙ sum_to_zero p.columns in
    rw none (≤ℚ_refl zero_ℚ)
combined p y x rows size positive point (suc i) h =
    let here : i < length p.rows = omega arith in
    let terms : AreTerms p.columns (row_of p i).terms = rows i no_row here in
    let kept : terms_at (row_of p i).terms x ≤ℚ (row_of p i).right = point.rows i no_row here in
    let times : (at y i *ℚ terms_at (row_of p i).terms x) ≤ℚ (at y i *ℚ (row_of p i).right) = *ℚ_mono (positive i zero_ℚ (omega arith)) kept in
    rw (more_rows p.columns i (λ k j. coefficient (row_of p k).terms j) (at y) (at x), terms_by_columns p.columns (row_of p i).terms x terms.in_range, *ℚ_comm (row_of p i).right (at y i))
    (+ℚ_mono (combined p y x rows size positive point i (omega arith)) times)

-- the columns, each times the number of a point there, are together at most the right sides
pub columns_at_most : (p : LinearProgram) (y x : List Rational) → All (λ r. AreTerms p.columns r.terms) p.rows → length y ≡ length p.rows → AreNotNegative y → IsPoint p x → product_sum p.columns (column_sum p y) (at x) ≤ℚ right_value p y
columns_at_most p y x rows size positive point = combined p y x rows size positive point (length p.rows) (omega arith)

-- where no column sum is below some goal, that goal at a point is at most the right sides
pub goals_at_most : (p : LinearProgram) (goal : ℕ → Rational) (y x : List Rational) → All (λ r. AreTerms p.columns r.terms) p.rows → length y ≡ length p.rows → AreNotNegative y → ((j : ℕ) → j < p.columns → goal j ≤ℚ column_sum p y j) → IsPoint p x → product_sum p.columns goal (at x) ≤ℚ right_value p y
goals_at_most p goal y x rows size positive above point =
    ≤ℚ_trans
    (sum_to_mono p.columns (λ j. goal j *ℚ at x j) (λ j. column_sum p y j *ℚ at x j) (λ j l.
    rw (*ℚ_comm (goal j) (at x j), *ℚ_comm (column_sum p y j) (at x j)) (*ℚ_mono (point.not_negative j zero_ℚ (rw point.size l)) (above j l))))
    (columns_at_most p y x rows size positive point)

-- weak duality: no point has a goal above the value of a dual answer
pub weak_duality : (p : LinearProgram) (y : List Rational) (v : Rational) → All (λ r. AreTerms p.columns r.terms) p.rows → IsDualAnswer p y v → IsProgramBound p v
weak_duality p y v rows d x point = rw d.value (goals_at_most p (at p.goal) y x rows d.size d.not_negative d.columns point)

-- a program with a Farkas answer has no point
pub no_point_of_farkas : (p : LinearProgram) (y : List Rational) → All (λ r. AreTerms p.columns r.terms) p.rows → IsFarkasAnswer p y → IsInfeasible p
no_point_of_farkas p y rows f x point =
    let none : product_sum p.columns (λ j. zero_ℚ) (at x) ≡ zero_ℚ = sum_to_same p.columns (λ j. zero_ℚ *ℚ at x j) (λ j. zero_ℚ) (λ j l. zero-*ℚ (at x j)) ∙ sum_to_zero p.columns in
    not-≤ℚ_of_<ℚ f.value (rw none at (goals_at_most p (λ j. zero_ℚ) y x rows f.size f.not_negative f.columns point))

-- a point and a dual answer of one value show that it is the optimum
pub optimum_of_answers : (p : LinearProgram) (x y : List Rational) (v : Rational) → All (λ r. AreTerms p.columns r.terms) p.rows → IsPoint p x → goal_at p x ≡ v → IsDualAnswer p y v → IsOptimum p v
optimum_of_answers p x y v rows point value d = record { attained = (x, point, value); bound = weak_duality p y v rows d }
