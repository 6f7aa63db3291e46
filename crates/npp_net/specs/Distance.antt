-- The least cost over all walks between two nodes, of whatever length, with the toll arcs at zero toll or without them.
use Rattle.std.specs.Prelude.{◌≡◌, ℕ, ◌≤◌, Bool, true, false, List, [], ◌∷◌, Option, None, Some}
use Rattle.npp_net.specs.declared.types.ArcId.{ArcId}
use Rattle.npp_net.specs.declared.types.NetArc.{NetArc}
use Rattle.npp_net.specs.declared.types.Commodity.{Commodity}
use Rattle.npp_net.specs.declared.types.Span.{Span}
use Rattle.npp_net.specs.Network.{arc_at}
use Rattle.npp_net.specs.Walk.{IsWalk, walk_cost}

-- an arc that may be used: any arc with tolls, and a toll-free one without
abbrev pub IsUsable : Bool → NetArc → Type 0
IsUsable true x = Unit {0}
IsUsable false x = x.toll ≡ false

-- each arc of the walk may be used
abbrev pub IsUsableWalk : Bool → List NetArc → List ArcId → Type 0
IsUsableWalk with_tolls arcs [] = Unit {0}
IsUsableWalk with_tolls arcs (a ∷ rest) = IsUsable with_tolls (arc_at arcs a) × IsUsableWalk with_tolls arcs rest

-- a walk from u to v, without toll arcs where they are left out
pub record Leads (arcs : List NetArc) (with_tolls : Bool) (u v : ℕ) (walk : List ArcId) : Type 0 where
  pub path : IsWalk arcs u v walk
  pub usable : IsUsableWalk with_tolls arcs walk

-- some such walk has this cost, and none has less
pub record IsLeast (arcs : List NetArc) (with_tolls : Bool) (u v cost : ℕ) : Type 0 where
  pub attained : (walk : List ArcId) × Leads arcs with_tolls u v walk × (walk_cost arcs walk ≡ cost)
  pub least : (walk : List ArcId) → Leads arcs with_tolls u v walk → cost ≤ walk_cost arcs walk

-- no such walk leads there
abbrev pub IsUnreachable : List NetArc → Bool → ℕ → ℕ → Type 0
IsUnreachable arcs with_tolls u v = (walk : List ArcId) → Leads arcs with_tolls u v walk → ⊥

-- the least cost of a walk from u to v, or None where there is none
abbrev pub IsDistance : List NetArc → Bool → ℕ → ℕ → Option ℕ → Type 0
IsDistance arcs with_tolls u v (Some cost) = IsLeast arcs with_tolls u v cost
IsDistance arcs with_tolls u v None = IsUnreachable arcs with_tolls u v

-- no walk of this commodity does without toll arcs
abbrev pub HasNoFreePath : List NetArc → Commodity → Type 0
HasNoFreePath arcs k = IsUnreachable arcs false k.origin.0 k.destination.0

-- the two least costs of a commodity: without toll arcs, and with them at zero toll
pub record IsSpan (arcs : List NetArc) (k : Commodity) (s : Span) : Type 0 where
  pub free_least : IsLeast arcs false k.origin.0 k.destination.0 s.free
  pub zero_least : IsLeast arcs true k.origin.0 k.destination.0 s.zero
