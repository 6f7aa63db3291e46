use Rattle.std.proofs.Common.{◌≡◌, ◌≤◌, take}
use Rattle.npp_net.specs.Walk.{walk_tolls}
use Rattle.npp_net.proofs.walk.walk_tolls.Given as goal

abbrev pub invariant-loop-arc : goal.invariant-loop-arc
invariant-loop-arc l = (l.times ≡ walk_tolls l.instance.arcs (take l.arc-index l.arcs) l.toll.0) × (l.times ≤ l.arc-index)
