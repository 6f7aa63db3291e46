use Rattle.npp_short.specs.Settling.{KeepsWaiting}
use Rattle.npp_short.proofs.Offering.{OffersFirst}
use Rattle.npp_short.proofs.distances.settle.Given as goal

abbrev pub invariant-loop-arc : goal.invariant-loop-arc
invariant-loop-arc l = record {
  offers : OffersFirst l.instance.arcs l.with_tolls l.fn.node.0 l.from l.arc-items l.arc-index l.initial.table l.table;
  waiting : KeepsWaiting l.initial.table l.initial.queue l.table l.queue;
}
