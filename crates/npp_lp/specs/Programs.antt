-- Linear programs over the rational numbers: the greatest goal over the points that are not negative and keep each row.
use Rattle.std.specs.Prelude.{◌≡◌, ◌≢◌, ℕ, ◌<◌, List, [], length, slice_index_or, All}
use Rattle.std.specs.List.{AllPairs}
use Rattle.npp_frac.specs.Rational.{Rational, zero_ℚ, ◌*ℚ◌, ◌≤ℚ◌, ◌<ℚ◌}
use Rattle.npp_frac.specs.Sums.{sum_by, sum_to}

-- a coefficient of a row, at its column
pub record Term : Type 0 where
  pub column : ℕ
  pub value : Rational

-- the inequality that the sum of the terms is at most the right side
pub record Row : Type 0 where
  pub terms : List Term
  pub right : Rational

-- the greatest goal · x over x >= 0 that keep each row
pub record LinearProgram : Type 0 where
  pub columns : ℕ
  pub rows : List Row
  pub goal : List Rational

-- the number at a place of a vector, and 0 past its end
abbrev pub at : List Rational → ℕ → Rational
at xs i = slice_index_or xs i zero_ℚ

-- what is read past the last row
abbrev pub no_row : Row
no_row = record { terms = []; right = zero_ℚ }

-- the row of this number
abbrev pub row_of : LinearProgram → ℕ → Row
row_of p i = slice_index_or p.rows i no_row

-- terms over so many columns: they stand in strictly rising columns, and none is 0
pub record AreTerms (columns : ℕ) (terms : List Term) : Type 0 where
  pub rising : AllPairs (λ s t. s.column < t.column) terms
  pub in_range : All (λ t. t.column < columns) terms
  pub nonzero : All (λ t. t.value ≢ zero_ℚ) terms

-- its rows are over its columns, and so is its goal
pub record IsLinearProgram (p : LinearProgram) : Type 0 where
  pub rows : All (λ r. AreTerms p.columns r.terms) p.rows
  pub goal : length p.goal ≡ p.columns

-- the sum of the first n products, in order
abbrev pub product_sum : ℕ → (ℕ → Rational) → (ℕ → Rational) → Rational
product_sum n a b = sum_to n (λ i. a i *ℚ b i)

-- the sum of the terms at a point
abbrev pub terms_at : List Term → List Rational → Rational
terms_at terms x = sum_by (λ t. t.value *ℚ at x t.column) terms

-- the goal at a point
abbrev pub goal_at : LinearProgram → List Rational → Rational
goal_at p x = product_sum p.columns (at p.goal) (at x)

-- no number is below 0
abbrev pub AreNotNegative : List Rational → Type 0
AreNotNegative xs = All (λ q. zero_ℚ ≤ℚ q) xs

-- a point of the program (a feasible point): a number for each column, none below 0, that keep each row
pub record IsPoint (p : LinearProgram) (x : List Rational) : Type 0 where
  pub size : length x ≡ p.columns
  pub not_negative : AreNotNegative x
  pub rows : All (λ r. terms_at r.terms x ≤ℚ r.right) p.rows

-- no point has a goal above v
abbrev pub IsProgramBound : LinearProgram → Rational → Type 0
IsProgramBound p v = (x : List Rational) → IsPoint p x → goal_at p x ≤ℚ v

-- there is no point
abbrev pub IsInfeasible : LinearProgram → Type 0
IsInfeasible p = (x : List Rational) → IsPoint p x → ⊥

-- some point has the goal v, and none has more
pub record IsOptimum (p : LinearProgram) (v : Rational) : Type 0 where
  pub attained : (x : List Rational) × IsPoint p x × (goal_at p x ≡ v)
  pub bound : IsProgramBound p v

-- a direction that can be followed from each point without end: it keeps each row and raises the goal
pub record IsRay (p : LinearProgram) (d : List Rational) : Type 0 where
  pub size : length d ≡ p.columns
  pub not_negative : AreNotNegative d
  pub rows : All (λ r. terms_at r.terms d ≤ℚ zero_ℚ) p.rows
  pub goal : zero_ℚ <ℚ goal_at p d
