use Rattle.std.proofs.Common.{◌≡◌, drop}
use Rattle.npp_short.specs.Reach.{cost_at}
use Rattle.npp_cover.specs.Fault.{open_fault, closure_fault}
use Rattle.npp_cover.proofs.closed.judge_closure.Given as goal

-- none of the labels so far is open
abbrev pub invariant-loop-number : goal.invariant-loop-number
invariant-loop-number l =
    open_fault l.instance.arcs (cost_at l.potentials) l.free l.labels
    ≡ closure_fault l.instance.arcs (cost_at l.potentials) l.free l.labels l.number (drop l.number l.labels)
