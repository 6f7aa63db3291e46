use Rattle.std.proofs.Common.{◌-◌}
use Rattle.npp_short.specs.Settling.{Awaits}
use Rattle.npp_short.proofs.Partial.{IsPartial}
use Rattle.npp_short.proofs.distances.settle_all.Given as goal

abbrev pub invariant-loop-node : goal.invariant-loop-node
invariant-loop-node l = record {
  partial : IsPartial l.instance.arcs l.with_tolls l.instance.nodes l.fn.destination.0 l.table l.done l.settled;
  waiting : Awaits l.table l.done l.queue;
}

-- the nodes that are not settled
abbrev pub decreases-loop-node : goal.decreases-loop-node
decreases-loop-node l = l.instance.nodes - l.settled
