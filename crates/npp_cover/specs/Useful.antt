-- Which walks of a commodity matter: pairs of a toll set and a cost that no other walk betters.
use Rattle.std.specs.Prelude.{◌≡◌, ℕ, ◌+◌, ◌<◌, ◌≤◌, List, slice_index_or}
use Rattle.npp_net.specs.declared.types.ArcId.{ArcId}
use Rattle.npp_net.specs.declared.types.NetArc.{NetArc}
use Rattle.npp_net.specs.declared.types.Commodity.{Commodity}
use Rattle.npp_net.specs.Network.{Network, no_commodity}
use Rattle.npp_net.specs.Walk.{IsWalk, walk_cost}
use Rattle.npp_net.specs.TollSets.{IsWithin, IsTollSetOf}

-- the commodity of this number
abbrev pub commodity_at : Network → ℕ → Commodity
commodity_at net k = slice_index_or net.commodities k no_commodity

-- some walk on from v to the destination keeps the whole below the toll-free cost
abbrev pub CanWin : List NetArc → Commodity → ℕ → ℕ → ℕ → Type 0
CanWin arcs k free v cost =
    (rest : List ArcId) × IsWalk arcs v k.destination.0 rest × (cost + walk_cost arcs rest < free)

-- the tolls and the cost of a walk from the origin to v that can still win
pub record IsPairOf (arcs : List NetArc) (k : Commodity) (free v tolls cost : ℕ) (walk : List ArcId) : Type 0 where
  pub leads : IsWalk arcs k.origin.0 v walk
  pub uses : IsTollSetOf arcs walk tolls
  pub costs : walk_cost arcs walk ≡ cost
  pub wins : CanWin arcs k free v cost

-- the same of some walk
abbrev pub IsPairAt : List NetArc → Commodity → ℕ → ℕ → ℕ → ℕ → Type 0
IsPairAt arcs k free v tolls cost = (walk : List ArcId) × IsPairOf arcs k free v tolls cost walk

-- a set within the other's, at a cost not above
pub record Dominates (tolls cost other_tolls other_cost : ℕ) : Type 0 where
  pub within : IsWithin tolls other_tolls
  pub cheaper : cost ≤ other_cost

-- a pair at v that no other pair there dominates
pub record IsUsefulLabel (arcs : List NetArc) (k : Commodity) (free v tolls cost : ℕ) : Type 0 where
  pub pair : IsPairAt arcs k free v tolls cost
  pub minimal : (s c : ℕ) → IsPairAt arcs k free v s c → Dominates s c tolls cost → (s ≡ tolls) × (c ≡ cost)
