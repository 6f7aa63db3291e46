use Rattle.std.proofs.Common.{◌≡◌, length}
use Rattle.npp_short.specs.Reach.{cost_at}
use Rattle.npp_cover.specs.Needed.{AreArcs}
use Rattle.npp_cover.proofs.NeededLists.{AreNeededBelow}
use Rattle.npp_cover.proofs.needed.NeededArcs.new.Given as goal

abbrev pub invariant-loop-node : goal.invariant-loop-node
invariant-loop-node l =
    (length l.cheapest.items ≡ l.instance.nodes) × AreArcs l.instance.arcs l.cheapest.items
    × AreNeededBelow l.instance.arcs (cost_at l.potentials) l.free l.node l.by_node.items
