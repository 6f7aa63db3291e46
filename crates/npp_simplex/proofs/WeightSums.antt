-- The rows and the goal of a program at a vector that is given by weights of its columns.
use Rattle.std.proofs.Common.{◌≡◌, ℕ, ◌<◌, ◌≤◌, List, ap, ap₂, sym, ◌∙◌}
use Rattle.std.specs.Prelude.{All}
use Rattle.npp_frac.specs.Rational.{Rational, zero_ℚ, one_ℚ, negative, ◌+ℚ◌, ◌-ℚ◌, ◌*ℚ◌, ◌≤ℚ◌}
use Rattle.npp_frac.specs.Ring.{*ℚ_comm, *ℚ-+ℚ, one-*ℚ, negative-*ℚ, negative-negative, -ℚ-negative}
use Rattle.npp_frac.specs.Order.{≤ℚ_of_≡, ≤ℚ_trans, +ℚ_mono}
use Rattle.npp_frac.specs.Sums.{sum_to, sum_to_same, sum_to-+ℚ, unit}
use Rattle.npp_lp.specs.Programs.{Term, LinearProgram, at, product_sum, terms_at, goal_at}
use Rattle.npp_lp.specs.Duals.{coefficient}
use Rattle.npp_lp.specs.DualLaws.{terms_by_columns}
use Rattle.npp_simplex.proofs.DoubleSums.{sum_negative, unit_sum_same, unit_sum_at_most, basic_weights, basic_sum, basic_sum_at_most}
use Rattle.npp_simplex.proofs.NumberLaws.{one_nonneg}

-- the terms of a row at a vector
pub terms_of_weights : (n : ℕ) (ts : List Term) (x : List Rational) (f w : ℕ → Rational) → All (λ t. t.column < n) ts → ((j : ℕ) → j < n → f j ≡ coefficient ts j) → ((j : ℕ) → j < n → at x j ≡ w j) → terms_at ts x ≡ product_sum n f w
terms_of_weights n ts x f w inside row vector =
    sym (terms_by_columns n ts x inside) ∙ sum_to_same n (λ j. coefficient ts j *ℚ at x j) (λ j. f j *ℚ w j) (λ j l. ap₂ ◌*ℚ◌ (sym (row j l)) (vector j l))

-- the goal
pub goal_of_weights : (p : LinearProgram) (x : List Rational) (f w : ℕ → Rational) → ((j : ℕ) → j < p.columns → f j ≡ at p.goal j) → ((j : ℕ) → j < p.columns → at x j ≡ w j) → goal_at p x ≡ product_sum p.columns f w
goal_of_weights p x f w goal vector = sum_to_same p.columns (λ j. at p.goal j *ℚ at x j) (λ j. f j *ℚ w j) (λ j l. ap₂ ◌*ℚ◌ (sym (goal j l)) (vector j l))

-- ---- along a column: 1 there, and the negatives of its entries at the basic columns

-- the weights of a ray
abbrev pub ray_weights : ℕ → (ℕ → ℕ) → (ℕ → Rational) → ℕ → ℕ → Rational
ray_weights m basis a c j = unit c one_ℚ j +ℚ basic_weights m basis (λ k. negative (a k)) j

module _ (n m : ℕ) (basis : ℕ → ℕ) (a : ℕ → Rational) (c : ℕ) (f : ℕ → Rational) where
  parts : product_sum n f (ray_weights m basis a c) ≡ sum_to n (λ j. unit c one_ℚ j *ℚ f j) +ℚ product_sum n f (basic_weights m basis (λ k. negative (a k)))
  parts =
      sum_to_same n (λ j. f j *ℚ ray_weights m basis a c j) (λ j. unit c one_ℚ j *ℚ f j +ℚ f j *ℚ basic_weights m basis (λ k. negative (a k)) j) (λ j l.
      *ℚ-+ℚ (f j) (unit c one_ℚ j) (basic_weights m basis (λ k. negative (a k)) j) ∙ ap (λ z. z +ℚ f j *ℚ basic_weights m basis (λ k. negative (a k)) j) (*ℚ_comm (f j) (unit c one_ℚ j)))
      ∙ sum_to-+ℚ n (λ j. unit c one_ℚ j *ℚ f j) (λ j. f j *ℚ basic_weights m basis (λ k. negative (a k)) j)

  whole_sum : one_ℚ *ℚ f c +ℚ sum_to m (λ k. negative (a k) *ℚ f (basis k)) ≡ f c -ℚ sum_to m (λ k. a k *ℚ f (basis k))
  whole_sum =
      let s : Rational = sum_to m (λ k. a k *ℚ f (basis k)) in
      ap₂ ◌+ℚ◌ (one-*ℚ (f c)) (sum_to_same m (λ k. negative (a k) *ℚ f (basis k)) (λ k. negative (a k *ℚ f (basis k))) (λ k l. negative-*ℚ (a k) (f (basis k))) ∙ sum_negative m (λ k. a k *ℚ f (basis k)))
      ∙ sym (-ℚ-negative (f c) (negative s))
      ∙ ap (λ z. f c -ℚ z) (negative-negative s)

  -- a function that is 0 beside the columns of the sum
  pub ray_sum : (n ≤ c → f c ≡ zero_ℚ) → ((k : ℕ) → k < m → n ≤ basis k → f (basis k) ≡ zero_ℚ) → product_sum n f (ray_weights m basis a c) ≡ f c -ℚ sum_to m (λ k. a k *ℚ f (basis k))
  ray_sum here beside = parts ∙ ap₂ ◌+ℚ◌ (unit_sum_same n c one_ℚ f here) (basic_sum n m basis (λ k. negative (a k)) f beside) ∙ whole_sum

  -- one that is not below 0 there, where no entry of the column is above 0
  pub ray_sum_at_most : (n ≤ c → zero_ℚ ≤ℚ f c) → ((k : ℕ) → k < m → n ≤ basis k → zero_ℚ ≤ℚ f (basis k)) → ((k : ℕ) → k < m → zero_ℚ ≤ℚ negative (a k)) → product_sum n f (ray_weights m basis a c) ≤ℚ (f c -ℚ sum_to m (λ k. a k *ℚ f (basis k)))
  ray_sum_at_most here beside above =
      ≤ℚ_trans (≤ℚ_of_≡ parts) (≤ℚ_trans (+ℚ_mono (unit_sum_at_most n c one_ℚ f one_nonneg here) (basic_sum_at_most n m basis (λ k. negative (a k)) f above beside)) (≤ℚ_of_≡ whole_sum))
