-- What a check of a Farkas answer gives, at a width.
use Rattle.std.specs.Prelude.{ℕ, List, Option, Some, None, Result, Ok, Err, if◌then◌else◌, option_map}
use Rattle.npp_frac.specs.Rational.{Rational, zero_ℚ, is_less}
use Rattle.npp_frac.specs.declared.refusal.Overflow.{Overflow as Stop}
use Rattle.npp_lp.specs.declared.faults.FarkasFault.{FarkasFault}
use Rattle.npp_lp.specs.declared.faults.FarkasFault.TheVariants.{NegativeRow, Column, NotBelowZero, Overflow}
use Rattle.npp_lp.specs.Verdict.{first_below, first_negative, sum_fault, unless}
use Rattle.npp_lp.specs.Programs.{LinearProgram}
use Rattle.npp_lp.specs.Checked.{checked_column, checked_right}

-- the sum of column j does not fit, or is below 0
abbrev pub sum_fault_at : (ℕ → Result Rational (Stop Rational)) → ℕ → Option (FarkasFault Rational)
sum_fault_at column j = sum_fault Overflow (λ s. if is_less s zero_ℚ then Some (Column j) else None) (column j)

abbrev pub column_fault : ℕ → LinearProgram → List Rational → ℕ → Option (FarkasFault Rational)
column_fault m p y = sum_fault_at (checked_column m p y)

-- the right sides' sum has to fit and to be below 0
abbrev pub value_verdict : Result Rational (Stop Rational) → Result (Unit {0}) (FarkasFault Rational)
value_verdict (Ok v) = if is_less v zero_ℚ then Ok tt else Err NotBelowZero
value_verdict (Err o) = Err (Overflow o)

-- the rows are judged first, by the first whose multiplier is below 0, then the columns, each in order, and last the value
abbrev pub farkas_judgement : Option ℕ → ℕ → (ℕ → Result Rational (Stop Rational)) → Result Rational (Stop Rational) → Result (Unit {0}) (FarkasFault Rational)
farkas_judgement negative columns column right =
    unless (option_map NegativeRow negative)
    (unless (first_below columns (sum_fault_at column))
    (value_verdict right))

unfoldable pub farkas_verdict : ℕ → LinearProgram → List Rational → Result (Unit {0}) (FarkasFault Rational)
farkas_verdict m p y = farkas_judgement (first_negative y) p.columns (checked_column m p y) (checked_right m p y)
