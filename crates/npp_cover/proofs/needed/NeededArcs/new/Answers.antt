use Rattle.std.proofs.Common.{◌+◌, List, length, Vec, subst, sym, arith, All}
use Rattle.std.specs.declared.alloc.Global.{Global}
use Rattle.npp_net.specs.declared.types.ArcId.{ArcId}
use Rattle.npp_net.specs.declared.ends.End.TheVariants.{Tail}
use Rattle.npp_net.proofs.EndLaws.{IsEndAt, leaving_node}
use Rattle.npp_short.specs.Reach.{cost_at}
use Rattle.npp_cover.specs.declared.needed.NeededArc.{NeededArc}
use Rattle.npp_cover.proofs.NeededLists.{AreNeededBelow, below_next, below_all}
use Rattle.npp_cover.proofs.needed.NeededArcs.new.Goals as goal

pub note_cheapest-requires-clause-arcs : goal.note_cheapest-requires-clause-arcs
note_cheapest-requires-clause-arcs c = λ i d lt.
    let all : All (IsEndAt Tail c.args.instance.now.arcs c.loop-node.node (length c.args.instance.now.arcs)) c.leaving-arcs.result.now =
    subst (λ (xs : List ArcId). All (IsEndAt Tail c.args.instance.now.arcs c.loop-node.node (length c.args.instance.now.arcs)) xs) (sym c.leaving-arcs.ensures)
    (leaving_node c.args.instance.now.arcs c.loop-node.node) in
    (all i d lt).in_range

pub loop-node-preserved : goal.loop-node-preserved
loop-node-preserved c = (
  c.note_cheapest.ensures.size,
  c.note_cheapest.ensures.noted,
  subst (λ (lists : List (Vec NeededArc Global)). AreNeededBelow c.args.instance.now.arcs (cost_at c.args.potentials.now) c.args.free (c.loop-node.node + 1) lists)
      (sym c.in_ok-push.ensures.items)
      (below_next c.args.instance.now.arcs (cost_at c.args.potentials.now) c.args.free c.loop-node.node c.loop-node.by_node.items c.in_ok-needed_of.field-0
      c.loop-node.invariant.2 c.in_ok-needed_of.ensures),
)

pub returns : goal.returns
returns c =
    below_all c.args.instance.now.arcs (cost_at c.args.potentials.now) c.args.free c.loop-node.node c.args.instance.now.nodes c.loop-node.by_node.items
    (omega (arith, c.loop-node-test.false, c.loop-node.auto.node-end, c.nodes-node-end.ensures.count)) c.loop-node.invariant.2
