-- What the multipliers that are read off a goal row give: no multiplier is below 0, and the sums are those of the row.
use Rattle.std.proofs.Common.{◌≡◌, ℕ, ◌+◌, ◌<◌, length, None, arith, ap, sym, ◌∙◌, subst}
use Rattle.npp_frac.specs.Rational.{Rational, zero_ℚ, negative, ◌*ℚ◌, ◌≤ℚ◌}
use Rattle.npp_frac.specs.Sums.{sum_to_same}
use Rattle.npp_lp.specs.Programs.{LinearProgram, at, row_of, AreNotNegative}
use Rattle.npp_lp.specs.Duals.{coefficient, column_sum, right_value}
use Rattle.npp_simplex.specs.Tableau.{Tableau, cell}
use Rattle.npp_simplex.specs.Ratio.{rising_column}
use Rattle.npp_simplex.specs.Vectors.{multipliers}
use Rattle.npp_simplex.proofs.Invariant.{combined}
use Rattle.npp_simplex.proofs.NumberLaws.{negative_nonneg}
use Rattle.npp_simplex.proofs.DoubleSums.{product_negatives}
use Rattle.npp_simplex.proofs.FirstPlaces.{none_rises}
use Rattle.npp_simplex.proofs.VectorLemmas.{not_negative_at, multipliers_size, multipliers_at}

module _ (p : LinearProgram) (t : Tableau) (g : ℕ) (rows : t.rows ≡ length p.rows) (columns : t.columns ≡ p.columns) where
  pub multipliers_nonneg : rising_column t g ≡ None → AreNotNegative (multipliers t g)
  multipliers_nonneg none =
      not_negative_at (multipliers t g) (λ k l.
      let within : k < length p.rows = omega (arith, l, multipliers_size t (length p.rows) p.columns rows columns g) in
      subst (λ q. zero_ℚ ≤ℚ q) (sym (multipliers_at t (length p.rows) p.columns rows columns g k within))
      (negative_nonneg (cell t g (p.columns + k)) (none_rises t (length p.rows) p.columns rows columns g none (p.columns + k) (omega arith))))

  module _ (first : ℕ → ℕ → Rational) where
    combined_with : (f : ℕ → Rational) (j : ℕ) → ((k : ℕ) → k < length p.rows → first k j ≡ f k) → combined (length p.rows) p.columns first (cell t g) j ≡ combined (length p.rows) p.columns (λ k j. f k) (cell t g) j
    combined_with f j h = sum_to_same (length p.rows) (λ k. cell t g (p.columns + k) *ℚ first k j) (λ k. cell t g (p.columns + k) *ℚ f k) (λ k l. ap (λ z. cell t g (p.columns + k) *ℚ z) (h k l))

    -- the sum of a column
    pub column_sum_is : (j : ℕ) → ((k : ℕ) → k < length p.rows → first k j ≡ coefficient (row_of p k).terms j) → column_sum p (multipliers t g) j ≡ negative (combined (length p.rows) p.columns first (cell t g) j)
    column_sum_is j h =
        product_negatives (length p.rows) (λ k. cell t g (p.columns + k)) (λ k. coefficient (row_of p k).terms j) (at (multipliers t g)) (multipliers_at t (length p.rows) p.columns rows columns g)
        ∙ ap negative (sym (combined_with (λ k. coefficient (row_of p k).terms j) j h))

    -- the sum of the right sides
    pub right_value_is : (j : ℕ) → ((k : ℕ) → k < length p.rows → first k j ≡ (row_of p k).right) → right_value p (multipliers t g) ≡ negative (combined (length p.rows) p.columns first (cell t g) j)
    right_value_is j h =
        product_negatives (length p.rows) (λ k. cell t g (p.columns + k)) (λ k. (row_of p k).right) (at (multipliers t g)) (multipliers_at t (length p.rows) p.columns rows columns g)
        ∙ ap negative (sym (combined_with (λ k. (row_of p k).right) j h))
