use Rattle.npp_short.proofs.Following.{IsFollowing}
use Rattle.npp_short.proofs.walk.follow.Given as goal

abbrev pub invariant-loop-left : goal.invariant-loop-left
invariant-loop-left l = IsFollowing l.instance.arcs l.with_tolls l.table l.fn.from.0 l.fn.start l.node.0 l.left l.walk.items

abbrev pub decreases-loop-left : goal.decreases-loop-left
decreases-loop-left l = l.left.arcs
