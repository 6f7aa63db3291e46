use Rattle.npp_bounds.proofs.Progress.{HasAdded}
use Rattle.npp_bounds.proofs.basic.basic_bound.Given as goal

abbrev pub invariant-loop-i : goal.invariant-loop-i
invariant-loop-i l = HasAdded l.instance.arcs l.instance.commodities l.spans l.i l.total
