use Rattle.std.proofs.Common.{ℕ, ◌<◌, get_or}
use Rattle.npp_net.specs.Network.{arc_at}
use Rattle.npp_short.specs.declared.reach.Reach.{Reach}
use Rattle.npp_short.specs.Following.{IsTight}
use Rattle.npp_short.proofs.Offering.{no_id}
use Rattle.npp_short.proofs.walk.next_arc.Given as goal

-- none of the arcs so far is tight
abbrev pub invariant-loop-arc : goal.invariant-loop-arc
invariant-loop-arc l =
    (j : ℕ) → j < l.arc-index → (h : Reach) → IsTight l.with_tolls l.table l.left (arc_at l.instance.arcs (get_or l.arc-items j no_id)) h → ⊥
