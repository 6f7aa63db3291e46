use Rattle.std.proofs.Common.{◌≡◌, ℕ, ◌<◌, ◌≤◌}
use Rattle.npp_frac.specs.Rational.{zero_ℚ}
use Rattle.npp_lp.specs.Programs.{at}
use Rattle.npp_simplex.proofs.line.Line.next_nonzero.Given as goal

abbrev pub invariant-loop-j : goal.invariant-loop-j
invariant-loop-j g l = (k : ℕ) → l.from ≤ k → k < l.j → at l.self k ≡ zero_ℚ
