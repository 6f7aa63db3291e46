use Rattle.std.proofs.Common.{◌≡◌, ℕ, ◌<◌, false, get_or, IfSome}
use Rattle.npp_short.specs.Reach.{cost_at}
use Rattle.npp_cover.specs.Labels.{label_at}
use Rattle.npp_cover.specs.Fault.{is_open}
use Rattle.npp_cover.specs.Needed.{id_of, no_needed, IsPassed}
use Rattle.npp_cover.proofs.closed.is_open_by_needed.Given as goal

-- the label is open by none of the arcs so far, and is passed by what is noted
abbrev pub invariant-loop-place : goal.invariant-loop-place
invariant-loop-place l =
    ((j : ℕ) → j < l.place
    → is_open l.instance.arcs (cost_at l.potentials) l.free l.labels (label_at l.labels l.number) (id_of (get_or l.ways j no_needed)) ≡ false)
    × IfSome l.passed (IsPassed l.labels (label_at l.labels l.number))
