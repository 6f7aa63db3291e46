-- How far a node is from the destination: the least cost, and the fewest arcs among the walks of that cost.
use Rattle.std.specs.Prelude.{◌≡◌, ℕ, ◌+◌, ◌<◌, ◌≤◌, Bool, List, length, slice_index_or, Option, None, option_map}
use Rattle.npp_net.specs.declared.types.ArcId.{ArcId}
use Rattle.npp_net.specs.declared.types.NetArc.{NetArc}
use Rattle.npp_net.specs.Walk.{walk_cost}
use Rattle.npp_net.specs.Distance.{Leads}
use Rattle.npp_short.specs.declared.reach.Reach.{Reach}

-- the entry of a node, None past the end
abbrev pub reach_at : List (Option Reach) → ℕ → Option Reach
reach_at table v = slice_index_or table v None

-- the cost in the entry of a node
abbrev pub cost_at : List (Option Reach) → ℕ → Option ℕ
cost_at table v = option_map (λ r. r.cost) (reach_at table v)

-- less cost, or as much and no more arcs
pub record IsNoFarther (a b : Reach) : Type 0 where
  pub cost : a.cost ≤ b.cost
  pub arcs : a.cost ≡ b.cost → a.arcs ≤ b.arcs

-- less cost, or as much and fewer arcs
pub record IsNearer (a b : Reach) : Type 0 where
  pub cost : a.cost ≤ b.cost
  pub arcs : a.cost ≡ b.cost → a.arcs < b.arcs

-- the reach of a walk
abbrev pub reach_of : List NetArc → List ArcId → Reach
reach_of arcs walk = record { cost = walk_cost arcs walk; arcs = length walk }

-- the reach of a node whose first arc leads to a node of this reach
abbrev pub through : NetArc → Reach → Reach
through x r = record { cost = r.cost + x.cost; arcs = r.arcs + 1 }

-- a walk with this cost and this many arcs
pub record Attains (arcs : List NetArc) (with_tolls : Bool) (u v : ℕ) (r : Reach) (walk : List ArcId) : Type 0 where
  pub leads : Leads arcs with_tolls u v walk
  pub cost : walk_cost arcs walk ≡ r.cost
  pub count : length walk ≡ r.arcs

-- some walk has this reach, and none a nearer one
pub record IsNearest (arcs : List NetArc) (with_tolls : Bool) (u v : ℕ) (r : Reach) : Type 0 where
  pub attained : (walk : List ArcId) × Attains arcs with_tolls u v r walk
  pub least : (walk : List ArcId) → Leads arcs with_tolls u v walk → IsNoFarther r (reach_of arcs walk)
