use Rattle.std.proofs.Common.{◌<◌}
use Rattle.npp_simplex.proofs.forms.common_denominator.Given as goal

abbrev pub invariant-loop-j : goal.invariant-loop-j
invariant-loop-j g l = (0 < l.denominator) × (l.denominator < l.limit)
