-- An instance: how many nodes there are, the arcs and the commodities, each list in the order of its numbers.
use Rattle.std.specs.Prelude.{◌≡◌, ◌≢◌, ℕ, ◌<◌, ◌≤◌, false, List, length, All, count_by, filter, take, slice_index_or, Option, Some, None}
use Rattle.npp_net.specs.declared.types.ArcId.{ArcId}
use Rattle.npp_net.specs.declared.types.NetArc.{NetArc}
use Rattle.npp_net.specs.declared.types.Commodity.{Commodity}

pub record Network : Type 0 where
  pub nodes : ℕ
  pub arcs : List NetArc
  pub commodities : List Commodity

-- what is read past the end of a list of arcs
abbrev pub no_arc : NetArc
no_arc = record { tail = record { 0 = 0 }; head = record { 0 = 0 }; cost = 0; toll = false; ceiling = None }

-- what is read past the end of a list of commodities
abbrev pub no_commodity : Commodity
no_commodity = record { origin = record { 0 = 0 }; destination = record { 0 = 0 }; demand = 0 }

-- the arc of this number
abbrev pub arc_at : List NetArc → ArcId → NetArc
arc_at arcs a = slice_index_or arcs a.0 no_arc

-- how many toll arcs there are
abbrev pub toll_count : List NetArc → ℕ
toll_count arcs = count_by (λ x. x.toll) arcs

-- the toll number of an arc: how many toll arcs stand before it
abbrev pub toll_number : List NetArc → ArcId → ℕ
toll_number arcs a = toll_count (take a.0 arcs)

-- the ceiling of a toll: that of the toll arc of this number
abbrev pub ceiling_of : List NetArc → ℕ → Option ℕ
ceiling_of arcs a = (slice_index_or (filter (λ x. x.toll) arcs) a no_arc).ceiling

-- an arc joins nodes of the network, its cost and its ceiling are within the limits, and a toll-free arc has no ceiling
pub record IsArc (nodes : ℕ) (x : NetArc) : Type 0 where
  pub tail : x.tail.0 < nodes
  pub head : x.head.0 < nodes
  pub cost : x.cost ≤ 1000000
  pub ceiling : (u : ℕ) → x.ceiling ≡ Some u → u ≤ 1000000000
  pub free : x.toll ≡ false → x.ceiling ≡ None

-- a commodity goes from one node to another, and some travellers want it
pub record IsCommodity (nodes : ℕ) (k : Commodity) : Type 0 where
  pub origin : k.origin.0 < nodes
  pub destination : k.destination.0 < nodes
  pub demand : k.demand ≤ 1000000
  pub apart : k.origin.0 ≢ k.destination.0
  pub wanted : k.demand ≢ 0

-- the limits of an instance
pub record IsNetwork (net : Network) : Type 0 where
  pub nodes : net.nodes ≤ 1000
  pub arcs : length net.arcs ≤ 5000
  pub tolls : toll_count net.arcs ≤ 128
  pub commodities : length net.commodities ≤ 100
  pub some : 0 < length net.commodities
  pub each_arc : All (IsArc net.nodes) net.arcs
  pub each_commodity : All (IsCommodity net.nodes) net.commodities
