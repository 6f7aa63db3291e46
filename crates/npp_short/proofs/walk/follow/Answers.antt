use Rattle.std.proofs.Common.{arith}
use Rattle.npp_short.proofs.Following.{following_start, following_more, followed}
use Rattle.npp_short.proofs.walk.follow.Goals as goal

pub loop-left-init : goal.loop-left-init
loop-left-init c = rw c.new-walk.ensures.items (following_start _ _ _ _ _ (omega (arith, c.requires.potentials.size)) c.requires.start)

pub loop-left-preserved : goal.loop-left-preserved
loop-left-preserved c =
    rw (c.in_ok-push.ensures.items, c.arcs-arcs.ensures.list) (following_more _ _ _ _ _ _ _ _ _ _ c.next_arc.ensures c.loop-left.invariant)

pub returns : goal.returns
returns c = followed _ _ _ _ _ _ _ _ _ _ c.requires.potentials (omega arith) c.loop-left.invariant
