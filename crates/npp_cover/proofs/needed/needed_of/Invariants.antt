use Rattle.npp_short.specs.Reach.{cost_at}
use Rattle.npp_cover.proofs.NeededLemmas.{ListsNeeded}
use Rattle.npp_cover.proofs.needed.needed_of.Given as goal

abbrev pub invariant-loop-arc : goal.invariant-loop-arc
invariant-loop-arc l = ListsNeeded l.instance.arcs (cost_at l.potentials) l.free l.fn.node.0 l.cheapest l.arc-items l.arc-index l.needed.items
