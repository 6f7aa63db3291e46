-- An optimum is one number, and a program with a dual answer has no ray.
use Rattle.std.specs.Prelude.{◌≡◌, ℕ, zero, suc, List, [], ◌∷◌, length, map, slice_index_or, All, refl}
use Rattle.std.proofs.Common.{sym, ◌∙◌, ap}
use Rattle.std.proofs.lemmas.List.{length-map}
use Rattle.std.proofs.lemmas.List.Elements.{All-map}
use Rattle.npp_frac.specs.Rational.{Rational, zero_ℚ, ◌*ℚ◌, ◌≤ℚ◌}
use Rattle.npp_frac.specs.Ring.{zero-*ℚ}
use Rattle.npp_frac.specs.Order.{≤ℚ_antisymm, not-≤ℚ_of_<ℚ}
use Rattle.npp_frac.specs.Sums.{sum_to_same, sum_to_zero}
use Rattle.npp_lp.specs.Programs.{Row, LinearProgram, AreTerms, at, row_of, no_row, product_sum, terms_at, goal_at, IsPoint, IsOptimum, IsRay}
use Rattle.npp_lp.specs.Duals.{coefficient, column_sum, right_value, IsDualAnswer}
use Rattle.npp_lp.specs.DualLaws.{optimum_of_answers, goals_at_most}

-- no two numbers are the optimum
pub optimum_is_one : (p : LinearProgram) (v w : Rational) → IsOptimum p v → IsOptimum p w → v ≡ w
optimum_is_one p v w a b =
    ≤ℚ_antisymm
    (rw a.attained.2 at (b.bound a.attained.0 a.attained.1))
    (rw b.attained.2 at (a.bound b.attained.0 b.attained.1))

-- a point and a dual answer of one value have the same value as any other such pair
pub pair_value_is_one : (p : LinearProgram) (x y x' y' : List Rational) (v w : Rational) → All (λ r. AreTerms p.columns r.terms) p.rows → IsPoint p x → goal_at p x ≡ v → IsDualAnswer p y v → IsPoint p x' → goal_at p x' ≡ w → IsDualAnswer p y' w → v ≡ w
pair_value_is_one p x y x' y' v w rows point value dual point' value' dual' =
    optimum_is_one p v w (optimum_of_answers p x y v rows point value dual) (optimum_of_answers p x' y' w rows point' value' dual')

-- ---- rays

-- the row with the right side 0
abbrev flat_row : Row → Row
flat_row r = record { terms = r.terms; right = zero_ℚ }

-- the program whose points are the directions that keep each row
abbrev flat : LinearProgram → LinearProgram
flat p = record { columns = p.columns; rows = map flat_row p.rows; goal = p.goal }

flat_at : (rows : List Row) (i : ℕ) → slice_index_or (map flat_row rows) i no_row ≡ flat_row (slice_index_or rows i no_row)
flat_at [] i = refl
flat_at (r ∷ rows) zero = refl
flat_at (r ∷ rows) (suc i) = flat_at rows i

-- a program with a dual answer has no ray, which would raise its goal without end
pub no_ray_of_dual : (p : LinearProgram) (y d : List Rational) (v : Rational) → All (λ r. AreTerms p.columns r.terms) p.rows → IsDualAnswer p y v → IsRay p d → ⊥
no_ray_of_dual p y d v rows dual ray =
    let size : length (flat p).rows ≡ length p.rows = length-map p.rows flat_row in
    let columns : (j : ℕ) → column_sum (flat p) y j ≡ column_sum p y j = λ j.
    ap (λ n. product_sum n (λ i. coefficient (row_of (flat p) i).terms j) (at y)) size
    ∙ sum_to_same (length p.rows) (λ i. coefficient (row_of (flat p) i).terms j *ℚ at y i) (λ i. coefficient (row_of p i).terms j *ℚ at y i) (λ i l. ap (λ r. coefficient r.terms j *ℚ at y i) (flat_at p.rows i)) in
    let none : right_value (flat p) y ≡ zero_ℚ =
    sum_to_same (length (flat p).rows) (λ i. (row_of (flat p) i).right *ℚ at y i) (λ i. zero_ℚ) (λ i l. ap (λ r. r.right *ℚ at y i) (flat_at p.rows i) ∙ zero-*ℚ (at y i))
    ∙ sum_to_zero (length (flat p).rows) in
    let point : IsPoint (flat p) d = record { size = ray.size; not_negative = ray.not_negative; rows = All-map (λ r. terms_at r.terms d ≤ℚ r.right) flat_row p.rows ray.rows } in
    let most : goal_at p d ≤ℚ right_value (flat p) y = goals_at_most (flat p) (at p.goal) y d (All-map (λ r. AreTerms p.columns r.terms) flat_row p.rows rows) (dual.size ∙ sym size) dual.not_negative (λ j l. rw (columns j) (dual.columns j l)) point in
    not-≤ℚ_of_<ℚ ray.goal (rw none at most)
