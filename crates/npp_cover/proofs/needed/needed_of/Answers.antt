use Rattle.std.proofs.Common.{List, length, subst, sym, ap, arith, All}
use Rattle.npp_net.specs.declared.types.ArcId.{ArcId}
use Rattle.npp_net.specs.declared.ends.End.TheVariants.{Tail}
use Rattle.npp_net.proofs.EndLaws.{IsEndAt, leaving_node}
use Rattle.npp_short.specs.Reach.{cost_at}
use Rattle.npp_cover.proofs.ClosureLemmas.{leaving_within}
use Rattle.npp_cover.proofs.NeededLemmas.{ListsNeeded, lists_next, needed_all, no_id}
use Rattle.npp_cover.proofs.needed.needed_of.Goals as goal

pub needed_by-next-requires-clause-arc : goal.needed_by-next-requires-clause-arc
needed_by-next-requires-clause-arc c =
    leaving_within c.args.instance.now.arcs c.args.node.0 c.leaving-arc-items.result.now c.loop-arc.arc-index c.leaving-arc-items.ensures c.loop-arc-test.true

pub loop-arc-preserved : goal.loop-arc-preserved
loop-arc-preserved c =
    let arcs = c.args.instance.now.arcs in
    let at : All (IsEndAt Tail c.args.instance.now.arcs c.args.node.0 (length c.args.instance.now.arcs)) c.leaving-arc-items.result.now =
    subst (λ (xs : List ArcId). All (IsEndAt Tail c.args.instance.now.arcs c.args.node.0 (length c.args.instance.now.arcs)) xs) (sym c.leaving-arc-items.ensures)
    (leaving_node c.args.instance.now.arcs c.args.node.0) in
    lists_next c.args.instance.now.arcs (cost_at c.args.potentials.now) c.args.free c.args.node.0 c.args.cheapest.now c.leaving-arc-items.result.now c.loop-arc.arc-index
    c.loop-arc.needed.items c.add.new.needed.items c.needed_by-next.result (at c.loop-arc.arc-index no_id c.loop-arc-test.true).node c.needed_by-next.ensures c.in_ok-add.ensures
    c.loop-arc.invariant

pub returns : goal.returns
returns c =
    needed_all c.args.instance.now c.requires.network (cost_at c.args.potentials.now) c.args.free c.args.node.0 c.args.cheapest.now c.loop-arc.needed.items c.sort.new.self.items c.requires.noted
    c.requires.size
    (subst (λ (xs : List ArcId). ListsNeeded c.args.instance.now.arcs (cost_at c.args.potentials.now) c.args.free c.args.node.0 c.args.cheapest.now xs c.loop-arc.arc-index c.loop-arc.needed.items)
    c.leaving-arc-items.ensures c.loop-arc.invariant)
    (omega (arith, c.loop-arc-test.false, ap (λ (xs : List ArcId). length xs) c.leaving-arc-items.ensures)) c.in_ok-sort.ensures.permutation c.in_ok-sort.ensures.sorted
