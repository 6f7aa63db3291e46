-- A combination of rows by the sums that stand at its columns.
use Rattle.std.specs.Prelude.{◌≡◌, ◌⊎◌, ℕ, ◌+◌, ◌<◌, List, [], ◌∷◌, ◌++◌, length, not, Option, None, Result, Ok, Err, if◌then◌else◌, All, Contains}
use Rattle.std.specs.List.{AllPairs}
use Rattle.npp_frac.specs.Rational.{Rational, zero_ℚ}
use Rattle.npp_frac.specs.Sign.{is_zero}
use Rattle.npp_frac.specs.declared.refusal.Overflow.{Overflow as Stop}
use Rattle.npp_lp.specs.Verdict.{or_else, first_below, sum_fault}
use Rattle.npp_lp.specs.RunningSums.{Sums, column_of}
use Rattle.npp_rows.specs.declared.names.ColumnName.{ColumnName}
use Rattle.npp_rows.specs.declared.names.Multiplier.{Multiplier}
use Rattle.npp_rows.specs.declared.cut.CutTerm.{CutTerm}
use Rattle.npp_rows.specs.declared.cut.CutFault.{CutFault}
use Rattle.npp_rows.specs.declared.cut.CutFault.TheVariants.{TollColumn, Overflow}
use Rattle.npp_rows.specs.Named.{NamedProgram, terms_from}
use Rattle.npp_rows.specs.Cuts.{Cut}
use Rattle.npp_rows.specs.Derivations.{fault_if, is_share, column_at, rounded, share_term}

-- what is wrong with the sum of a column that is no share: it has to fit and to be 0
abbrev pub toll_fault : ColumnName → Result Rational (Stop Rational) → Option (CutFault Rational)
toll_fault c r = if is_share c then None else sum_fault Overflow (λ x. fault_if (not (is_zero x)) TollColumn) r

abbrev pub toll_fault_at : List ColumnName → Sums Rational → ℕ → Option (CutFault Rational)
toll_fault_at columns s j = toll_fault (column_at columns j) (column_of s j)

-- what is wrong with the sum of a share: it has to fit
abbrev pub share_fault : ColumnName → Result Rational (Stop Rational) → Option (CutFault Rational)
share_fault c r = if is_share c then sum_fault Overflow (λ x. None) r else None

abbrev pub share_fault_at : List ColumnName → Sums Rational → ℕ → Option (CutFault Rational)
share_fault_at columns s j = share_fault (column_at columns j) (column_of s j)

-- the shares have to fit, and then the right side
abbrev pub rounding_fault : List ColumnName → Sums Rational → Option (CutFault Rational)
rounding_fault columns s = or_else (first_below (length columns) (share_fault_at columns s)) (sum_fault Overflow (λ x. None) s.right)

-- a sum, and 0 where it does not fit
abbrev pub sum_or_zero : Result Rational (Stop Rational) → Rational
sum_or_zero (Ok x) = x
sum_or_zero (Err o) = zero_ℚ

-- the rounded sums of the shares among columns the first of which has number j
abbrev pub rounded_sums : Sums Rational → ℕ → List ColumnName → List (CutTerm Rational)
rounded_sums s j [] = []
rounded_sums s j (c ∷ rest) = share_term c (rounded (sum_or_zero (column_of s j))) ++ rounded_sums s (j + 1) rest

-- the row of the rounded sums
abbrev pub rounded_cut : List ColumnName → Sums Rational → Cut
rounded_cut columns s = record { terms = rounded_sums s 0 columns; right = rounded (sum_or_zero s.right) }

-- the term of the rounded sum of a column
abbrev pub term_in : List ColumnName → Sums Rational → ℕ → List (CutTerm Rational)
term_in columns s j = share_term (column_at columns j) (rounded (sum_or_zero (column_of s j)))

-- some rows stand in no other columns than these
abbrev pub StandOnlyIn : NamedProgram → List (Multiplier Rational) → List ℕ → Type 0
StandOnlyIn p ys columns = All (λ y. All (λ t. Contains columns t.column) (terms_from 0 (p.entry y.row) p.columns)) ys

-- some of n columns by rising number, outside of which all sums are 0
pub record HoldSums (n : ℕ) (s : Sums Rational) (columns : List ℕ) : Type 0 where
  pub rising : AllPairs (λ i j. i < j) columns
  pub inside : All (λ j. j < n) columns
  pub others : (j : ℕ) → j < n → (Contains columns j) ⊎ (column_of s j ≡ Ok zero_ℚ)
