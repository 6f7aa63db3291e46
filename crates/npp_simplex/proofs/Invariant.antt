-- What stays true of the tables of a run, with m rows and n columns. `e` are the cells of a table, `first` those from which
-- the stage's rows come, and `basis` tells the basic column of each row.
use Rattle.std.proofs.Common.{◌≡◌, ◌≢◌, ◌⊎◌, ℕ, ◌+◌, ◌<◌, List, [], ◌∷◌, map, nat_eq, if◌then◌else◌}
use Rattle.std.specs.List.{range_with_len}
use Rattle.npp_frac.specs.Rational.{Rational, zero_ℚ, one_ℚ, ◌+ℚ◌, ◌-ℚ◌, ◌*ℚ◌, ◌/ℚ◌, ◌<ℚ◌}
use Rattle.npp_frac.specs.Sums.{unit}
use Rattle.npp_lp.specs.Programs.{product_sum}

-- ---- rows as combinations of the first rows

-- the first rows, each times the row's entry in its slack column, in column j
abbrev pub combined : ℕ → ℕ → (ℕ → ℕ → Rational) → (ℕ → Rational) → ℕ → Rational
combined m n first row j = product_sum m (λ k. row (n + k)) (λ k. first k j)

-- the weights make each row 0
abbrev pub Solves : ℕ → ℕ → (ℕ → ℕ → Rational) → (ℕ → Rational) → Type 0
Solves m n e w = (i : ℕ) → i < m → product_sum (n + m + 2) (e i) w ≡ zero_ℚ

-- the rows of the program: they are combinations of the first rows, what solves them solves the first rows,
-- and the basic columns are unit columns
pub record AreRows (m n : ℕ) (first e : ℕ → ℕ → Rational) (basis : ℕ → ℕ) : Type 0 where
  pub combined : (i j : ℕ) → i < m → j < n + m + 2 → e i j ≡ combined m n first (e i) j
  pub solves : (w : ℕ → Rational) → Solves m n e w → Solves m n first w
  pub units : (i k : ℕ) → i < m → k < m → e i (basis k) ≡ unit k one_ℚ i
  pub in_range : (k : ℕ) → k < m → basis k < n + m + 1

-- row g is a goal row: its first goal row and a combination of the first rows, and 0 at each basic column
pub record IsGoalRow (m n : ℕ) (first e : ℕ → ℕ → Rational) (basis : ℕ → ℕ) (g : ℕ) : Type 0 where
  pub combined : (j : ℕ) → j < n + m + 2 → e g j ≡ first g j +ℚ combined m n first (e g) j
  pub basic : (k : ℕ) → k < m → e g (basis k) ≡ zero_ℚ

-- the extra variable is basic in row h, and the goal row of phase one is that row but for the extra column
pub record IsExtraRow (m n : ℕ) (e : ℕ → ℕ → Rational) (basis : ℕ → ℕ) (h : ℕ) : Type 0 where
  pub row : h < m
  pub basic : basis h ≡ n + m
  pub same : (j : ℕ) → j < n + m + 2 → j ≢ n + m → e m j ≡ e h j

-- a cell after the pivot on row r and column c
abbrev pub turned_cell : (ℕ → ℕ → Rational) → ℕ → ℕ → ℕ → ℕ → Rational
turned_cell e r c i j = if nat_eq i r then e r j /ℚ e r c else e i j -ℚ e i c *ℚ (e r j /ℚ e r c)

-- the basis after it
abbrev pub turned_basis : (ℕ → ℕ) → ℕ → ℕ → ℕ → ℕ
turned_basis basis r c k = if nat_eq k r then c else basis k

-- the cells without the extra column (the goal row of phase one is no part of what is said of them)
abbrev pub without : ℕ → (ℕ → ℕ → Rational) → ℕ → ℕ → Rational
without extra e i j = if nat_eq j extra then zero_ℚ else e i j

-- ---- lexicographic order

-- the first number that is not 0 is above 0
abbrev pub IsLexPositive : List Rational → Type 0
IsLexPositive [] = ⊥
IsLexPositive (q ∷ qs) = (zero_ℚ <ℚ q) ⊎ ((q ≡ zero_ℚ) × IsLexPositive qs)

-- the first number that differs is lower
abbrev pub IsLexBelow : List Rational → List Rational → Type 0
IsLexBelow [] rs = ⊥
IsLexBelow (q ∷ qs) [] = ⊥
IsLexBelow (q ∷ qs) (r ∷ rs) = (q <ℚ r) ⊎ ((q ≡ r) × IsLexBelow qs rs)

-- a row at the columns at which rows are compared: the right side, and then the slacks
abbrev pub key_numbers : ℕ → ℕ → (ℕ → Rational) → List Rational
key_numbers m n row = row (n + m + 1) ∷ map row (range_with_len n m)

-- each row of the program is lexicographically positive
abbrev pub ArePositive : ℕ → ℕ → (ℕ → ℕ → Rational) → Type 0
ArePositive m n e = (i : ℕ) → i < m → IsLexPositive (key_numbers m n (e i))
