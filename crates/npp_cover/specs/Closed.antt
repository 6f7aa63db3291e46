-- A closed cover: labels among which, for each walk that can still win, one has no more tolls and costs no more.
use Rattle.std.specs.Prelude.{◌≡◌, ℕ, ◌+◌, ◌<◌, ◌≤◌, true, false, List, length, MatchOption}
use Rattle.npp_net.specs.declared.types.ArcId.{ArcId}
use Rattle.npp_net.specs.declared.types.NetArc.{NetArc}
use Rattle.npp_net.specs.declared.types.Commodity.{Commodity}
use Rattle.npp_net.specs.declared.types.NodeId.{NodeId}
use Rattle.npp_net.specs.declared.types.Span.{Span}
use Rattle.npp_net.specs.Network.{Network, arc_at, toll_number}
use Rattle.npp_net.specs.Walk.{walk_cost}
use Rattle.npp_net.specs.Distance.{Leads}
use Rattle.npp_net.specs.TollSets.{Has}
use Rattle.npp_cover.specs.declared.label.Label.{Label}
use Rattle.npp_cover.specs.Useful.{CanWin, Dominates}
use Rattle.npp_cover.specs.Labels.{label_at, with_arc, start_label, label_after}

-- a label goes on from another, of a number lower than i, by this arc, which is no toll arc of the other
pub record GoesBy (arcs : List NetArc) (i : ℕ) (l from : Label) (a : ArcId) : Type 0 where
  pub lower : l.parent < i
  pub in_range : a.0 < length arcs
  pub tail : (arc_at arcs a).tail.0 ≡ from.node.0
  pub fresh : (arc_at arcs a).toll ≡ true → Has from.tolls (toll_number arcs a) → ⊥
  pub same : l ≡ label_after arcs from (record { parent = l.parent; arc = a })

-- a label of number i is the start, or goes on from its parent
abbrev pub IsStartOrGoes : List NetArc → NodeId → ℕ → Label → Label → Type 0
IsStartOrGoes arcs origin i l from = MatchOption l.last (l ≡ start_label origin) (GoesBy arcs i l from)

-- so is label i of a list
abbrev pub IsWalkLabel : List NetArc → NodeId → List Label → ℕ → Type 0
IsWalkLabel arcs origin labels i = IsStartOrGoes arcs origin i (label_at labels i) (label_at labels (label_at labels i).parent)

-- a label at v dominates this pair
pub record IsDominatedBy (labels : List Label) (v tolls cost j : ℕ) : Type 0 where
  pub in_range : j < length labels
  pub there : (label_at labels j).node.0 ≡ v
  pub dominates : Dominates (label_at labels j).tolls (label_at labels j).cost tolls cost

-- some label does
abbrev pub IsDominated : List Label → ℕ → ℕ → ℕ → Type 0
IsDominated labels v tolls cost = (j : ℕ) × IsDominatedBy labels v tolls cost j

-- the label after label i by this arc is dominated, where it can still win
abbrev pub IsClosedAt : List NetArc → Commodity → ℕ → List Label → ℕ → ArcId → Type 0
IsClosedAt arcs k free labels i a =
    CanWin arcs k free (arc_at arcs a).head.0 ((label_at labels i).cost + (arc_at arcs a).cost)
    → IsDominated labels (arc_at arcs a).head.0 (with_arc arcs (label_at labels i).tolls a) ((label_at labels i).cost + (arc_at arcs a).cost)

-- each label is a walk to a node of the network that can still win
pub record AreFaultless (net : Network) (k : Commodity) (free : ℕ) (labels : List Label) : Type 0 where
  pub each : (i : ℕ) → i < length labels → IsWalkLabel net.arcs k.origin labels i
  pub wins : (i : ℕ) → i < length labels → CanWin net.arcs k free (label_at labels i).node.0 (label_at labels i).cost
  pub nodes : (i : ℕ) → i < length labels → (label_at labels i).node.0 < net.nodes

-- the labels are walks that can still win, among them the start where a walk can win, and each extension is dominated
pub record AreClosed (arcs : List NetArc) (k : Commodity) (span : Span) (labels : List Label) : Type 0 where
  pub few : length labels ≤ 65536
  pub each : (i : ℕ) → i < length labels → IsWalkLabel arcs k.origin labels i
  pub wins : (i : ℕ) → i < length labels → CanWin arcs k span.free (label_at labels i).node.0 (label_at labels i).cost
  pub start : span.zero < span.free → 0 < length labels
  pub closed : (i : ℕ) (a : ArcId) → i < length labels → a.0 < length arcs → (arc_at arcs a).tail.0 ≡ (label_at labels i).node.0
      → IsClosedAt arcs k span.free labels i a

-- a toll-free walk of the commodity, of this cost
pub record IsFreeWalk (arcs : List NetArc) (k : Commodity) (free : ℕ) (walk : List ArcId) : Type 0 where
  pub leads : Leads arcs false k.origin.0 k.destination.0 walk
  pub costs : walk_cost arcs walk ≡ free
