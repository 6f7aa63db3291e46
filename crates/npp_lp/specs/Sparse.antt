-- Multipliers of some rows, for one of each row.
use Rattle.std.specs.Prelude.{ℕ, ◌+◌, ◌<◌, List, [], ◌∷◌, ◌++◌, map, All, if◌then◌else◌}
use Rattle.std.specs.List.{AllPairs, range_with_len}
use Rattle.npp_frac.specs.Rational.{Rational}
use Rattle.npp_frac.specs.Sign.{is_zero}
use Rattle.npp_frac.specs.Sums.{sum_by, unit}
use Rattle.npp_lp.specs.declared.multiplier.RowMultiplier.{RowMultiplier}

-- multipliers of some of n rows, in strictly rising order
pub record AreRowMultipliers {N : Type 0} (n : ℕ) (ys : List (RowMultiplier N)) : Type 0 where
  pub rising : AllPairs (λ s t. s.row < t.row) ys
  pub in_range : All (λ y. y.row < n) ys

-- the multiplier of a row: 0 where none is named
abbrev pub multiplier_at : List (RowMultiplier Rational) → ℕ → Rational
multiplier_at ys i = sum_by (λ y. unit y.row y.value i) ys

-- these multipliers at their rows, and 0 at every other of n rows
abbrev pub dense : ℕ → List (RowMultiplier Rational) → List Rational
dense n ys = map (multiplier_at ys) (range_with_len 0 n)

-- the multipliers that are not 0, of rows the first of which has number n
abbrev pub sparse_from : ℕ → List Rational → List (RowMultiplier Rational)
sparse_from n [] = []
sparse_from n (q ∷ qs) = (if is_zero q then [] else record { row = n; value = q } ∷ []) ++ sparse_from (n + 1) qs

-- the multipliers that are not 0
abbrev pub sparse : List Rational → List (RowMultiplier Rational)
sparse y = sparse_from 0 y

abbrev pub multiplier_meant : {N : Type 0} → (N → Rational) → RowMultiplier N → RowMultiplier Rational
multiplier_meant value y = record { row = y.row; value = value y.value }

abbrev pub multipliers_meant : {N : Type 0} → (N → Rational) → List (RowMultiplier N) → List (RowMultiplier Rational)
multipliers_meant value ys = map (multiplier_meant value) ys
