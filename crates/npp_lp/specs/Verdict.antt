-- The first fault in an order.
use Rattle.std.specs.Prelude.{ℕ, zero, suc, List, length, Option, Some, None, Result, Ok, Err, if◌then◌else◌}
use Rattle.npp_frac.specs.Rational.{Rational, zero_ℚ, is_less}
use Rattle.npp_lp.specs.Programs.{at}

-- the first of two that is there
abbrev pub or_else : {F : Type 0} → Option F → Option F → Option F
or_else None next = next
or_else (Some f) next = Some f

-- the first of f 0, f 1, .. that is there, below n
abbrev pub first_below : {F : Type 0} → ℕ → (ℕ → Option F) → Option F
first_below zero f = None
first_below (suc n) f = or_else (first_below n f) (f n)

-- the place of the first number that is below 0
abbrev pub first_negative : List Rational → Option ℕ
first_negative xs = first_below (length xs) (λ i. if is_less (at xs i) zero_ℚ then Some i else None)

-- the fault, where there is one
abbrev pub unless : {T F : Type 0} → Option F → Result T F → Result T F
unless None r = r
unless (Some f) r = Err f

-- the fault of what was summed: the operation that did not fit, or what is wrong with the sum
abbrev pub sum_fault : {O F : Type 0} → {T : Type 0} → (O → F) → (T → Option F) → Result T O → Option F
sum_fault overflow judge (Ok s) = judge s
sum_fault overflow judge (Err o) = Some (overflow o)
