-- The arcs that lead on to the destination.
use Rattle.std.specs.Prelude.{◌≡◌, ℕ, ◌+◌, ◌<◌, Bool, List, length, Option, Some}
use Rattle.npp_net.specs.declared.types.ArcId.{ArcId}
use Rattle.npp_net.specs.declared.types.NetArc.{NetArc}
use Rattle.npp_net.specs.Network.{arc_at}
use Rattle.npp_net.specs.Walk.{RepeatsNoNode}
use Rattle.npp_net.specs.Distance.{IsUsable}
use Rattle.npp_short.specs.declared.reach.Reach.{Reach}
use Rattle.npp_short.specs.Reach.{reach_at, Attains}

-- an arc by which a node of reach `left` has its reach, to a node of reach `after`
pub record IsTight (with_tolls : Bool) (table : List (Option Reach)) (left : Reach) (x : NetArc) (after : Reach) : Type 0 where
  pub usable : IsUsable with_tolls x
  pub there : reach_at table x.head.0 ≡ Some after
  pub cost : after.cost + x.cost ≡ left.cost
  pub count : after.arcs + 1 ≡ left.arcs

-- such an arc that begins at this node
pub record IsTightFrom (arcs : List NetArc) (with_tolls : Bool) (table : List (Option Reach)) (node : ℕ) (left : Reach) (a : ArcId) (after : Reach) : Type 0 where
  pub in_range : a.0 < length arcs
  pub from : (arc_at arcs a).tail.0 ≡ node
  pub tight : IsTight with_tolls table left (arc_at arcs a) after

-- a walk with this reach that repeats no node
pub record IsFollowed (arcs : List NetArc) (with_tolls : Bool) (u v : ℕ) (r : Reach) (walk : List ArcId) : Type 0 where
  pub attains : Attains arcs with_tolls u v r walk
  pub simple : RepeatsNoNode arcs u walk
