use Rattle.npp_cover.proofs.ClosureLemmas.{leaving_within}
use Rattle.npp_cover.proofs.closed.open_arc.Goals as goal

pub is_open-requires-clause-arc : goal.is_open-requires-clause-arc
is_open-requires-clause-arc c =
    leaving_within c.args.instance.now.arcs c.label_at.result.node.0 c.leaving-arc-items.result.now c.loop-arc.arc-index c.leaving-arc-items.ensures c.loop-arc-test.true
