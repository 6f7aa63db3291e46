-- What a check of a dual answer gives, at a width.
use Rattle.std.specs.Prelude.{ℕ, List, Option, Some, None, Result, Ok, Err, if◌then◌else◌, option_map}
use Rattle.npp_frac.specs.Rational.{Rational, is_less}
use Rattle.npp_frac.specs.declared.refusal.Overflow.{Overflow as Stop}
use Rattle.npp_lp.specs.declared.faults.DualFault.{DualFault}
use Rattle.npp_lp.specs.declared.faults.DualFault.TheVariants.{NegativeRow, Column, Overflow}
use Rattle.npp_lp.specs.Verdict.{first_below, first_negative, sum_fault, unless}
use Rattle.npp_lp.specs.Programs.{LinearProgram, at}
use Rattle.npp_lp.specs.Checked.{checked_column, checked_right}

-- the sum of column j does not fit, or is below its goal
abbrev pub sum_fault_at : (ℕ → Result Rational (Stop Rational)) → List Rational → ℕ → Option (DualFault Rational)
sum_fault_at column goal j = sum_fault Overflow (λ s. if is_less s (at goal j) then Some (Column j) else None) (column j)

abbrev pub column_fault : ℕ → LinearProgram → List Rational → ℕ → Option (DualFault Rational)
column_fault m p y = sum_fault_at (checked_column m p y) p.goal

-- the value of the right sides, or that their sum does not fit
abbrev pub value_verdict : Result Rational (Stop Rational) → Result Rational (DualFault Rational)
value_verdict (Ok v) = Ok v
value_verdict (Err o) = Err (Overflow o)

-- the rows are judged first, by the first whose multiplier is below 0, then the columns, each in order, and last the value
abbrev pub dual_judgement : Option ℕ → ℕ → (ℕ → Result Rational (Stop Rational)) → List Rational → Result Rational (Stop Rational) → Result Rational (DualFault Rational)
dual_judgement negative columns column goal right =
    unless (option_map NegativeRow negative)
    (unless (first_below columns (sum_fault_at column goal))
    (value_verdict right))

unfoldable pub dual_verdict : ℕ → LinearProgram → List Rational → Result Rational (DualFault Rational)
dual_verdict m p y = dual_judgement (first_negative y) p.columns (checked_column m p y) p.goal (checked_right m p y)
