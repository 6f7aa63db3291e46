use Rattle.std.proofs.Common.{◌≡◌, map, None, Some}
use Rattle.std.specs.Prelude.{if◌then◌else◌}
use Rattle.npp_frac.specs.Rational.{zero_ℚ, is_less}
use Rattle.npp_lp.specs.Programs.{at}
use Rattle.npp_lp.specs.Verdict.{first_below}
use Rattle.npp_lp.proofs.numbers.first_negative.Given as goal

-- no number before this place is below 0
abbrev pub invariant-loop-place : goal.invariant-loop-place
invariant-loop-place g l = first_below l.place (λ i. if is_less (at (map g.N.Exact.rational l.numbers) i) zero_ℚ then Some i else None) ≡ None
