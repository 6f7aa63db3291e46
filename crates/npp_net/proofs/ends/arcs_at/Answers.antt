use Rattle.npp_net.proofs.EndLemmas.{arcs_at_more}
use Rattle.npp_net.proofs.ends.arcs_at.Goals as goal

pub loop-i-preserved : goal.loop-i-preserved
loop-i-preserved c =
    arcs_at_more _ _ _ _ _ _ _ _ c.node_at-node.ensures.in_range c.node_at-node.ensures.place c.index_mut.ensures.value c.in_ok-push.ensures.items c.loop-i.invariant
