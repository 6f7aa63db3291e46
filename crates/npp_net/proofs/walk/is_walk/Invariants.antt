use Rattle.std.proofs.Common.{drop}
use Rattle.npp_net.specs.Walk.{IsWalk}
use Rattle.npp_net.proofs.walk.is_walk.Given as goal

abbrev pub invariant-loop-arc : goal.invariant-loop-arc
invariant-loop-arc l =
    (IsWalk l.instance.arcs l.fn.from.0 l.fn.to.0 l.arcs → IsWalk l.instance.arcs l.node l.fn.to.0 (drop l.arc-index l.arcs))
    × (IsWalk l.instance.arcs l.node l.fn.to.0 (drop l.arc-index l.arcs) → IsWalk l.instance.arcs l.fn.from.0 l.fn.to.0 l.arcs)
