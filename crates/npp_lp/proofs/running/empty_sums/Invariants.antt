use Rattle.std.proofs.Common.{◌≡◌, length, Ok, All}
use Rattle.npp_frac.specs.Rational.{zero_ℚ}
use Rattle.npp_lp.specs.Meaning.{sum_result}
use Rattle.npp_lp.proofs.running.empty_sums.Given as goal

-- the sums so far are of no products
abbrev pub invariant-loop-i : goal.invariant-loop-i
invariant-loop-i g l = (length l.sums.items ≡ l._i) × All (λ s. sum_result g.N.Exact.rational s ≡ Ok zero_ℚ) l.sums.items
