-- What a check of a point gives, at a width.
use Rattle.std.specs.Prelude.{ℕ, List, length, Option, Some, None, Result, Ok, Err, if◌then◌else◌, option_map}
use Rattle.npp_frac.specs.Rational.{Rational, is_less}
use Rattle.npp_frac.specs.declared.refusal.Overflow.{Overflow as Stop}
use Rattle.npp_lp.specs.declared.faults.PrimalFault.{PrimalFault}
use Rattle.npp_lp.specs.declared.faults.PrimalFault.TheVariants.{NegativeColumn, Row, Overflow}
use Rattle.npp_lp.specs.Verdict.{first_below, first_negative, sum_fault, unless}
use Rattle.npp_lp.specs.Programs.{LinearProgram, row_of}
use Rattle.npp_lp.specs.Checked.{checked_terms, checked_goal}

-- the sum of row i does not fit, or is above its right side
abbrev pub row_fault : ℕ → LinearProgram → List Rational → ℕ → Option (PrimalFault Rational)
row_fault m p x i = sum_fault Overflow (λ s. if is_less (row_of p i).right s then Some (Row i) else None) (checked_terms m (row_of p i).terms x)

-- the goal, or that its sum does not fit
abbrev pub value_verdict : Result Rational (Stop Rational) → Result Rational (PrimalFault Rational)
value_verdict (Ok v) = Ok v
value_verdict (Err o) = Err (Overflow o)

-- the columns are judged first, then the rows, each in order, and last the goal
unfoldable pub primal_verdict : ℕ → LinearProgram → List Rational → Result Rational (PrimalFault Rational)
primal_verdict m p x =
    unless (option_map NegativeColumn (first_negative x))
    (unless (first_below (length p.rows) (row_fault m p x))
    (value_verdict (checked_goal m p x)))
