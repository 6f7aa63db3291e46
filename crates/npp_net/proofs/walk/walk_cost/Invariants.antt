use Rattle.std.proofs.Common.{◌≡◌, ◌≤◌, ◌*◌, take}
use Rattle.npp_net.specs.Walk.{walk_cost}
use Rattle.npp_net.proofs.walk.walk_cost.Given as goal

abbrev pub invariant-loop-arc : goal.invariant-loop-arc
invariant-loop-arc l = (l.total ≡ walk_cost l.instance.arcs (take l.arc-index l.arcs)) × (l.total ≤ 1000000 * l.arc-index)
