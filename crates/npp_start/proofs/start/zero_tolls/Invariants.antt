use Rattle.std.proofs.Common.{◌≡◌, map, replicate}
use Rattle.npp_frac.specs.Rational.{zero_ℚ}
use Rattle.npp_start.proofs.start.zero_tolls.Given as goal

abbrev pub invariant-loop-toll : goal.invariant-loop-toll
invariant-loop-toll g l = map g.N.Exact.rational l.tolls.items ≡ replicate l._toll zero_ℚ
