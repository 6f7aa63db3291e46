use Rattle.npp_rows.proofs.RaiseLaws.{IsRaised}
use Rattle.npp_rows.proofs.toll_caps.raise_on.Given as goal

abbrev pub invariant-loop-toll : goal.invariant-loop-toll
invariant-loop-toll l = IsRaised l.fn.set l.fn.gap l.initial.gaps l.gaps l.toll-iterator
