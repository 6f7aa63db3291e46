-- A walk is a list of arcs, each of which begins where the last ended. It may repeat nodes and arcs,
-- and pays an arc as often as it uses it.
use Rattle.std.specs.Prelude.{◌≡◌, ◌≢◌, ℕ, ◌<◌, Bool, List, [], ◌∷◌, length, sum_by, count_by, ◌==◌, ◌&&◌}
use Rattle.npp_net.specs.declared.types.ArcId.{ArcId}
use Rattle.npp_net.specs.declared.types.NetArc.{NetArc}
use Rattle.npp_net.specs.Network.{arc_at, toll_number}

-- a walk from u to v. The empty list is a walk from u to u
abbrev pub IsWalk : List NetArc → ℕ → ℕ → List ArcId → Type 0
IsWalk arcs u v [] = u ≡ v
IsWalk arcs u v (a ∷ rest) =
    (a.0 < length arcs) × ((arc_at arcs a).tail.0 ≡ u) × IsWalk arcs (arc_at arcs a).head.0 v rest

-- the sum of its costs, each arc as often as it stands
abbrev pub walk_cost : List NetArc → List ArcId → ℕ
walk_cost arcs walk = sum_by (λ a. (arc_at arcs a).cost) walk

-- whether this arc is the toll arc of this toll number
abbrev pub is_toll : List NetArc → ℕ → ArcId → Bool
is_toll arcs toll a = (arc_at arcs a).toll && (toll_number arcs a == toll)

-- how often a toll arc stands in it
abbrev pub walk_tolls : List NetArc → List ArcId → ℕ → ℕ
walk_tolls arcs walk toll = count_by (is_toll arcs toll) walk

-- no arc of it ends at this node
abbrev pub AvoidsNode : List NetArc → ℕ → List ArcId → Type 0
AvoidsNode arcs u [] = Unit {0}
AvoidsNode arcs u (a ∷ rest) = ((arc_at arcs a).head.0 ≢ u) × AvoidsNode arcs u rest

-- a walk from u comes to no node twice
abbrev pub RepeatsNoNode : List NetArc → ℕ → List ArcId → Type 0
RepeatsNoNode arcs u [] = Unit {0}
RepeatsNoNode arcs u (a ∷ rest) = AvoidsNode arcs u (a ∷ rest) × RepeatsNoNode arcs (arc_at arcs a).head.0 rest
