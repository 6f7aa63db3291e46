-- Small runs, computed.
use Rattle.std.specs.Prelude.{◌≡◌, ℕ, ◌^◌, List, [], ◌∷◌, Some, None, ℤ, pos, negsuc, map, refl}
use Rattle.npp_frac.specs.Gcd.{gcd, gcd_within}
use Rattle.npp_frac.specs.Rational.{Rational, whole, ratio, negative, reciprocal, is_less, ◌+ℚ◌, ◌-ℚ◌, ◌*ℚ◌, ◌/ℚ◌}
use Rattle.npp_frac.specs.Fits.{fits_add, fits_sub, fits_mul, fits_div}
use Rattle.npp_frac.specs.Sums.{sum_by, sum_to}
use Rattle.npp_lp.specs.Programs.{LinearProgram, Row, Term}
use Rattle.npp_simplex.specs.declared.place.Step.TheVariants.{Ratio, Pivot}
use Rattle.npp_simplex.specs.declared.place.Place.{Place}
use Rattle.npp_simplex.specs.Run.{run, Outcome, Optimal, Infeasible, Unbounded, Overflow, Capped}
use Rattle.npp_simplex.specs.Bases.{bases, choose, basis_count}

-- ---- outcomes as whole numbers, which can be compared by computing

abbrev pub pairs : List Rational → List (ℤ × ℕ)
pairs xs = map (λ x. (x.num, x.den)) xs

pub data Seen : Type 0 where
  -- the value and the point, the multipliers, the pivots
  Best : List (ℤ × ℕ) → List (ℤ × ℕ) → ℕ → Seen
  NoPoint : List (ℤ × ℕ) → ℕ → Seen
  Ray : List (ℤ × ℕ) → ℕ → Seen
  Stop : ℕ → Place → Seen
  Cap : Seen

abbrev pub seen : Outcome → Seen
seen (Optimal x y v k) = Best (pairs (v ∷ x)) (pairs y) k
seen (Infeasible y k) = NoPoint (pairs y) k
seen (Unbounded d k) = Ray (pairs d) k
seen (Overflow k place) = Stop k place
seen Capped = Cap

-- ---- programs

abbrev pub term : ℕ → ℤ → Term
term j a = record { column = j; value = whole a }

abbrev pub row : List Term → Rational → Row
row terms right = record { terms = terms; right = right }

abbrev pub program : ℕ → List Row → List Rational → LinearProgram
program n rows goal = record { columns = n; rows = rows; goal = goal }

-- goal x0 + x1, rows x0 + x1 <= 1 and x0 <= 1: two rows tie, and the second leaves first
abbrev pub two_columns : LinearProgram
two_columns = program 2 (row (term 0 (pos 1) ∷ term 1 (pos 1) ∷ []) (whole (pos 1)) ∷ row (term 0 (pos 1) ∷ []) (whole (pos 1)) ∷ []) (whole (pos 1) ∷ whole (pos 1) ∷ [])

two_columns_run : seen (run None 9 two_columns) ≡ Best ((pos 1, 1) ∷ (pos 1, 1) ∷ (pos 0, 1) ∷ []) ((pos 1, 1) ∷ (pos 0, 1) ∷ []) 2
unfolding gcd gcd_within whole ratio negative reciprocal is_less fits_add fits_sub fits_mul fits_div ◌+ℚ◌ ◌-ℚ◌ ◌*ℚ◌ ◌/ℚ◌ sum_by sum_to
two_columns_run = refl

-- at 32 bits every number fits
two_columns_fit : seen (run (Some (2 ^ 31)) 9 two_columns) ≡ Best ((pos 1, 1) ∷ (pos 1, 1) ∷ (pos 0, 1) ∷ []) ((pos 1, 1) ∷ (pos 0, 1) ∷ []) 2
unfolding gcd gcd_within whole ratio negative reciprocal is_less fits_add fits_sub fits_mul fits_div ◌+ℚ◌ ◌-ℚ◌ ◌*ℚ◌ ◌/ℚ◌ sum_by sum_to
two_columns_fit = refl

-- goal x, row 65536 x <= 1/65536: the quotient of the right side is 1 / 2^32
abbrev pub thin : LinearProgram
thin = program 1 (row (term 0 (pos 65536) ∷ []) (ratio (pos 1) 65536) ∷ []) (whole (pos 1) ∷ [])

-- one candidate has no quotient in a ratio test, so the replacement stops first
thin_stop : seen (run (Some (2 ^ 31)) 9 thin) ≡ Stop 1 (record { step = Pivot; row = 0; column = 3 })
unfolding gcd gcd_within whole ratio negative reciprocal is_less fits_add fits_sub fits_mul fits_div ◌+ℚ◌ ◌-ℚ◌ ◌*ℚ◌ ◌/ℚ◌ sum_by sum_to
thin_stop = refl

-- the same with the row x <= 1
abbrev pub thin_two : LinearProgram
thin_two = program 1 (row (term 0 (pos 65536) ∷ []) (ratio (pos 1) 65536) ∷ row (term 0 (pos 1) ∷ []) (whole (pos 1)) ∷ []) (whole (pos 1) ∷ [])

-- two candidates are compared
thin_two_stop : seen (run (Some (2 ^ 31)) 9 thin_two) ≡ Stop 1 (record { step = Ratio; row = 0; column = 4 })
unfolding gcd gcd_within whole ratio negative reciprocal is_less fits_add fits_sub fits_mul fits_div ◌+ℚ◌ ◌-ℚ◌ ◌*ℚ◌ ◌/ℚ◌ sum_by sum_to
thin_two_stop = refl

-- goal x, row x <= 1
abbrev pub bounded : LinearProgram
bounded = program 1 (row (term 0 (pos 1) ∷ []) (whole (pos 1)) ∷ []) (whole (pos 1) ∷ [])

bounded_capped : seen (run None 0 bounded) ≡ Cap
unfolding gcd gcd_within whole ratio negative reciprocal is_less fits_add fits_sub fits_mul fits_div ◌+ℚ◌ ◌-ℚ◌ ◌*ℚ◌ ◌/ℚ◌ sum_by sum_to
bounded_capped = refl

bounded_run : seen (run None 1 bounded) ≡ Best ((pos 1, 1) ∷ (pos 1, 1) ∷ []) ((pos 1, 1) ∷ []) 1
unfolding gcd gcd_within whole ratio negative reciprocal is_less fits_add fits_sub fits_mul fits_div ◌+ℚ◌ ◌-ℚ◌ ◌*ℚ◌ ◌/ℚ◌ sum_by sum_to
bounded_run = refl

-- goal x, row x <= -1
abbrev pub below_zero : LinearProgram
below_zero = program 1 (row (term 0 (pos 1) ∷ []) (whole (negsuc 0)) ∷ []) (whole (pos 1) ∷ [])

below_zero_run : seen (run None 9 below_zero) ≡ NoPoint ((pos 1, 1) ∷ []) 1
unfolding gcd gcd_within whole ratio negative reciprocal is_less fits_add fits_sub fits_mul fits_div ◌+ℚ◌ ◌-ℚ◌ ◌*ℚ◌ ◌/ℚ◌ sum_by sum_to
below_zero_run = refl

-- goal x, row -x <= 0
abbrev pub open_above : LinearProgram
open_above = program 1 (row (term 0 (negsuc 0) ∷ []) (whole (pos 0)) ∷ []) (whole (pos 1) ∷ [])

open_above_run : seen (run None 9 open_above) ≡ Ray ((pos 1, 1) ∷ []) 0
unfolding gcd gcd_within whole ratio negative reciprocal is_less fits_add fits_sub fits_mul fits_div ◌+ℚ◌ ◌-ℚ◌ ◌*ℚ◌ ◌/ℚ◌ sum_by sum_to
open_above_run = refl

-- goal x, rows x <= 1 and -x <= -2: the extra variable can be made smaller, but not 0
abbrev pub between : LinearProgram
between = program 1 (row (term 0 (pos 1) ∷ []) (whole (pos 1)) ∷ row (term 0 (negsuc 0) ∷ []) (whole (negsuc 1)) ∷ []) (whole (pos 1) ∷ [])

between_run : seen (run None 9 between) ≡ NoPoint ((pos 1, 2) ∷ (pos 1, 2) ∷ []) 2
unfolding gcd gcd_within whole ratio negative reciprocal is_less fits_add fits_sub fits_mul fits_div ◌+ℚ◌ ◌-ℚ◌ ◌*ℚ◌ ◌/ℚ◌ sum_by sum_to
between_run = refl

-- goal -x, rows x <= 3 and -x <= -2: phase one finds a point
abbrev pub at_least : LinearProgram
at_least = program 1 (row (term 0 (pos 1) ∷ []) (whole (pos 3)) ∷ row (term 0 (negsuc 0) ∷ []) (whole (negsuc 1)) ∷ []) (whole (negsuc 0) ∷ [])

at_least_run : seen (run None 9 at_least) ≡ Best ((negsuc 1, 1) ∷ (pos 2, 1) ∷ []) ((pos 0, 1) ∷ (pos 1, 1) ∷ []) 2
unfolding gcd gcd_within whole ratio negative reciprocal is_less fits_add fits_sub fits_mul fits_div ◌+ℚ◌ ◌-ℚ◌ ◌*ℚ◌ ◌/ℚ◌ sum_by sum_to
at_least_run = refl

-- goal x0 + x1, rows x0 - x1 <= 0, x0 <= 1 and x1 <= 1: the first pivot changes no value
abbrev pub degenerate : LinearProgram
degenerate = program 2 (row (term 0 (pos 1) ∷ term 1 (negsuc 0) ∷ []) (whole (pos 0)) ∷ row (term 0 (pos 1) ∷ []) (whole (pos 1)) ∷ row (term 1 (pos 1) ∷ []) (whole (pos 1)) ∷ []) (whole (pos 1) ∷ whole (pos 1) ∷ [])

degenerate_run : seen (run None 9 degenerate) ≡ Best ((pos 2, 1) ∷ (pos 1, 1) ∷ (pos 1, 1) ∷ []) ((pos 0, 1) ∷ (pos 1, 1) ∷ (pos 1, 1) ∷ []) 3
unfolding gcd gcd_within whole ratio negative reciprocal is_less fits_add fits_sub fits_mul fits_div ◌+ℚ◌ ◌-ℚ◌ ◌*ℚ◌ ◌/ℚ◌ sum_by sum_to
degenerate_run = refl

-- ---- bases

-- the slacks 2 and 3; column 0 enters for the second, and column 1 for the first
two_columns_bases : bases two_columns 9 ≡ (2 ∷ 3 ∷ []) ∷ (2 ∷ 0 ∷ []) ∷ (1 ∷ 0 ∷ []) ∷ []
unfolding gcd gcd_within whole ratio negative reciprocal is_less ◌+ℚ◌ ◌-ℚ◌ ◌*ℚ◌ ◌/ℚ◌ sum_by sum_to
two_columns_bases = refl

-- two of two columns, two slacks and the extra column
two_columns_count : basis_count two_columns ≡ 10
two_columns_count = refl

-- the extra column 3 enters for the slack of the negative row, and column 0 for it
at_least_bases : bases at_least 9 ≡ (1 ∷ 2 ∷ []) ∷ (1 ∷ 3 ∷ []) ∷ (1 ∷ 0 ∷ []) ∷ []
unfolding gcd gcd_within whole ratio negative reciprocal is_less ◌+ℚ◌ ◌-ℚ◌ ◌*ℚ◌ ◌/ℚ◌ sum_by sum_to
at_least_bases = refl

choose_three_of_seven : choose 7 3 ≡ 35
choose_three_of_seven = refl
