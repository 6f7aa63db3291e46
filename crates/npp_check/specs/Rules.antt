-- What a line says, or the first rule that it breaks; and the sums of a line, which break Overflow where they do not fit.
use Rattle.std.specs.Prelude.{ℕ, pos, Bool, not, ◌&&◌, nat_lt, if◌then◌else◌, Result, Ok, Err}
use Rattle.std.specs.List.{list_all, range_with_len}
use Rattle.npp_frac.specs.Rational.{Rational, whole, is_less, ◌+ℚ◌}
use Rattle.npp_frac.specs.Fits.{fits_add}
use Rattle.npp_lp.specs.Sums.{checked_sum, joined_sum}
use Rattle.npp_check.specs.declared.refusal.Rule.{Rule}
use Rattle.npp_check.specs.declared.refusal.Rule.TheVariants.{Overflow}

-- the next judgement, where the first breaks no rule
abbrev pub and_then : {X Y : Type 0} → Result X Rule → (X → Result Y Rule) → Result Y Rule
and_then (Ok x) next = next x
and_then (Err rule) next = Err rule

-- the same judgement of another form of what is said
abbrev pub judged_as : {X Y : Type 0} → (X → Y) → Result X Rule → Result Y Rule
judged_as f (Ok x) = Ok (f x)
judged_as f (Err rule) = Err rule

-- the rule is broken where the test holds
abbrev pub broken_if : {X : Type 0} → Bool → Rule → Result X Rule → Result X Rule
broken_if test rule r = if test then Err rule else r

-- whether two numbers are equal
abbrev pub same : Rational → Rational → Bool
same q r = not (is_less q r) && not (is_less r q)

-- what was formed; what does not fit breaks Overflow
abbrev pub formed : {X O : Type 0} → Result X O → Result X Rule
formed (Ok x) = Ok x
formed (Err o) = Err Overflow

-- a whole number at a width
abbrev pub whole_number : ℕ → ℕ → Result Rational Rule
whole_number limit n = if nat_lt n limit then Ok (whole (pos n)) else Err Overflow

-- a sum at a width
abbrev pub sum_of : ℕ → Rational → Rational → Result Rational Rule
sum_of limit q r = if fits_add limit q r then Ok (q +ℚ r) else Err Overflow

-- the sum of n numbers, each as often as it is counted, begun at 0 and in order
abbrev pub counted_sum : ℕ → ℕ → (ℕ → ℕ) → (ℕ → Rational) → Result Rational Rule
counted_sum limit n counts values =
    broken_if (not (list_all (λ i. nat_lt (counts i) limit) (range_with_len 0 n))) Overflow
    (formed (checked_sum limit n (λ i. whole (pos (counts i))) values))

-- a sum with a number added to it that is counted so often: the count is made a number of the width first
abbrev pub with_counted : ℕ → Rational → ℕ → Rational → Result Rational Rule
with_counted limit sum count value = and_then (whole_number limit count) (λ times. formed (joined_sum limit sum times value))
