use Rattle.std.proofs.Common.{◌≡◌, ◌+◌, ◌%◌}
use Rattle.npp_frac.specs.Gcd.{gcd}
use Rattle.npp_frac.proofs.gcd.gcd_of_odd.Given as goal

abbrev pub invariant-loop-x : goal.invariant-loop-x
invariant-loop-x l = record {
  x_odd : l.x % 2 ≡ 1;
  y_odd : l.y % 2 ≡ 1;
  same : gcd l.x l.y ≡ gcd l.fn.a l.fn.b;
}

abbrev pub decreases-loop-x : goal.decreases-loop-x
decreases-loop-x l = l.x + l.y
