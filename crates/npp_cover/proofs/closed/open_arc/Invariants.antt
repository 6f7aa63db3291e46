use Rattle.std.proofs.Common.{◌≡◌, drop, find}
use Rattle.npp_short.specs.Reach.{cost_at}
use Rattle.npp_cover.specs.Labels.{label_at}
use Rattle.npp_cover.specs.Fault.{is_open, open_arc}
use Rattle.npp_cover.proofs.closed.open_arc.Given as goal

-- none of the arcs so far is open
abbrev pub invariant-loop-arc : goal.invariant-loop-arc
invariant-loop-arc l =
    open_arc l.instance.arcs (cost_at l.potentials) l.free l.labels (label_at l.labels l.number)
    ≡ find (is_open l.instance.arcs (cost_at l.potentials) l.free l.labels (label_at l.labels l.number)) (drop l.arc-index l.arc-items)
