use Rattle.npp_bounds.proofs.Progress.{HasFound}
use Rattle.npp_bounds.proofs.least.least_costs.Given as goal

abbrev pub invariant-loop-i : goal.invariant-loop-i
invariant-loop-i l = HasFound l.instance.arcs l.instance.commodities l.i l.spans.items l.walks.items
