use Rattle.std.proofs.Common.{◌≡◌, ℕ, ◌<◌, get_or, Ok}
use Rattle.npp_frac.specs.Rational.{zero_ℚ}
use Rattle.npp_lp.specs.Meaning.{sum_result}
use Rattle.npp_lp.proofs.running.empty.Given as goal

-- the sums so far are of no products
abbrev pub invariant-loop-sum : goal.invariant-loop-sum
invariant-loop-sum g l = (k : ℕ) (d : _) → k < l.sum-index → sum_result g.N.Exact.rational (get_or l.sums k d) ≡ Ok zero_ℚ
