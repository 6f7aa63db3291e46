use Rattle.std.proofs.Common.{◌≤◌}
use Rattle.npp_short.specs.Reach.{cost_at}
use Rattle.npp_labels.specs.Search.{TriesDown}
use Rattle.npp_labels.proofs.steps.next_untried.Given as goal

abbrev pub invariant-loop-rest : goal.invariant-loop-rest
invariant-loop-rest l =
    (l.rest ≤ l.left) × TriesDown l.instance.arcs (cost_at l.potentials) l.free l.needed l.family.labels l.number l.left l.rest

abbrev pub decreases-loop-rest : goal.decreases-loop-rest
decreases-loop-rest l = l.rest
