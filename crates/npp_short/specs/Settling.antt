-- What the table of a search holds while nodes are settled, the nearest first.
use Rattle.std.specs.Prelude.{◌≡◌, ◌⊎◌, ◌≢◌, ℕ, ◌<◌, Bool, true, false, List, length, slice_index_or, Option, Some, None, All, Contains}
use Rattle.npp_net.specs.declared.types.ArcId.{ArcId}
use Rattle.npp_net.specs.declared.types.NodeId.{NodeId}
use Rattle.npp_net.specs.declared.types.NetArc.{NetArc}
use Rattle.npp_net.specs.Network.{arc_at}
use Rattle.npp_net.specs.Distance.{IsUsable}
use Rattle.npp_short.specs.declared.reach.Reach.{Reach}
use Rattle.npp_short.specs.Reach.{reach_at, through, IsNoFarther, IsNearer}

-- whether a node is settled
abbrev pub is_done : List Bool → ℕ → Bool
is_done done v = slice_index_or done v false

-- an arc into this node that may be used
pub record IsInto (arcs : List NetArc) (with_tolls : Bool) (node : ℕ) (a : ArcId) : Type 0 where
  pub in_range : a.0 < length arcs
  pub usable : IsUsable with_tolls (arc_at arcs a)
  pub into : (arc_at arcs a).head.0 ≡ node

-- this reach is one by an arc into the node, and nearer than the entry
pub record IsBetterBy (arcs : List NetArc) (with_tolls : Bool) (node : ℕ) (from : Reach) (v : ℕ) (old : Option Reach) (s : Reach) : Type 0 where
  pub by : (a : ArcId) × IsInto arcs with_tolls node a × ((arc_at arcs a).tail.0 ≡ v) × (s ≡ through (arc_at arcs a) from)
  pub nearer : (r : Reach) → old ≡ Some r → IsNearer s r

-- the entry is as it was, or a nearer one by an arc into the node
abbrev pub IsEntryAfter : List NetArc → Bool → ℕ → Reach → ℕ → Option Reach → Option Reach → Type 0
IsEntryAfter arcs with_tolls node from v old new =
    (new ≡ old) ⊎ ((s : Reach) × (new ≡ Some s) × IsBetterBy arcs with_tolls node from v old s)

-- an entry after a reach was offered: it was no farther and stays, or that reach was nearer and is put there
abbrev pub IsOffered : Reach → Option Reach → Option Reach → Type 0
IsOffered s old new =
    ((new ≡ old) × ((t : Reach) × (old ≡ Some t) × IsNoFarther t s))
    ⊎ ((new ≡ Some s) × ((r : Reach) → old ≡ Some r → IsNearer s r))

-- the reach through an arc was offered to the entry of its tail
pub record Offers (x : NetArc) (from : Reach) (old new : List (Option Reach)) : Type 0 where
  pub size : length new ≡ length old
  pub others : (v : ℕ) → v ≢ x.tail.0 → reach_at new v ≡ reach_at old v
  pub here : IsOffered (through x from) (reach_at old x.tail.0) (reach_at new x.tail.0)

-- the entry of the tail is no farther than through the arc
abbrev pub IsReached : Reach → List (Option Reach) → NetArc → Type 0
IsReached from table x = (t : Reach) × (reach_at table x.tail.0 ≡ Some t) × IsNoFarther t (through x from)

-- the reach through each arc into the node was offered
pub record Settles (arcs : List NetArc) (with_tolls : Bool) (node : ℕ) (from : Reach) (old new : List (Option Reach)) : Type 0 where
  pub size : length new ≡ length old
  pub entries : (v : ℕ) → IsEntryAfter arcs with_tolls node from v (reach_at old v) (reach_at new v)
  pub reached : (a : ArcId) → IsInto arcs with_tolls node a → IsReached from new (arc_at arcs a)

-- a node that is not settled, with its reach, of which no other such node has a nearer
pub record IsNext (table : List (Option Reach)) (done : List Bool) (node : ℕ) (r : Reach) : Type 0 where
  pub in_range : node < length table
  pub waits : is_done done node ≡ false
  pub here : reach_at table node ≡ Some r
  pub first : (v : ℕ) (s : Reach) → is_done done v ≡ false → reach_at table v ≡ Some s → IsNoFarther r s

-- no node is left
abbrev pub AllDone : List (Option Reach) → List Bool → Type 0
AllDone table done = (v : ℕ) → v < length table → is_done done v ≡ false → reach_at table v ≡ None

-- a reach of a node is no nearer than its entry
abbrev pub IsBacked : List (Option Reach) → NodeId × Reach → Type 0
IsBacked table w = (r : Reach) × (reach_at table w.0.0 ≡ Some r) × IsNoFarther r w.1

-- the queue holds the entry of each node that is not settled
pub record Awaits (table : List (Option Reach)) (done : List Bool) (queue : List (NodeId × Reach)) : Type 0 where
  pub listed : (v : NodeId) (r : Reach) → is_done done v.0 ≡ false → reach_at table v.0 ≡ Some r → Contains queue (v, r)
  pub backed : All (IsBacked table) queue

-- whichever nodes are settled, the queue still holds those that are not
abbrev pub KeepsWaiting : List (Option Reach) → List (NodeId × Reach) → List (Option Reach) → List (NodeId × Reach) → Type 0
KeepsWaiting old_table old_queue new_table new_queue = (done : List Bool) → Awaits old_table done old_queue → Awaits new_table done new_queue

-- what is known of a node that was taken from the queue: it is settled, or this is its entry
abbrev pub IsWaiting : List (Option Reach) → List Bool → ℕ → Option Reach → Type 0
IsWaiting table done node None = (is_done done node ≡ true) ⊎ (reach_at table node ≡ None)
IsWaiting table done node (Some r) = (is_done done node ≡ false) × (reach_at table node ≡ Some r)
