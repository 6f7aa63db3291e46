use Rattle.std.proofs.Common.{length}
use Rattle.npp_short.specs.Reach.{cost_at}
use Rattle.npp_labels.specs.Search.{AreWaiting, left_sum}
use Rattle.npp_labels.proofs.steps.take_label.Given as goal

abbrev pub invariant-loop-next : goal.invariant-loop-next
invariant-loop-next l = AreWaiting l.instance.arcs (cost_at l.potentials) l.free l.needed l.family.labels (length l.family.labels) l.pending

abbrev pub decreases-loop-next : goal.decreases-loop-next
decreases-loop-next l = left_sum l.pending
