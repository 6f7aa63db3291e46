use Rattle.std.proofs.Common.{◌≡◌, drop}
use Rattle.npp_cover.proofs.FreeLemmas.{is_free_rest}
use Rattle.npp_cover.proofs.free.is_free_walk.Given as goal

-- the rest of the arcs decides, from the node that is reached and with the cost that is left
abbrev pub invariant-loop-arc : goal.invariant-loop-arc
invariant-loop-arc l =
    is_free_rest l.instance.arcs l.fn.from.0 l.to.0 l.fn.cost l.arcs ≡ is_free_rest l.instance.arcs l.node l.to.0 l.left (drop l.arc-index l.arcs)
