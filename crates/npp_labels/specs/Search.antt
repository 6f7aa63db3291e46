-- A best-first search: what waits, and what is known while labels are taken.
use Rattle.std.specs.Prelude.{◌≡◌, ◌⊎◌, ℕ, ◌+◌, ◌-◌, ◌<◌, ◌≤◌, true, false, List, ◌∷◌, length, Contains, All, Option, Some, slice_index_or, sum_by}
use Rattle.npp_net.specs.declared.types.ArcId.{ArcId}
use Rattle.npp_net.specs.declared.types.NetArc.{NetArc}
use Rattle.npp_net.specs.declared.types.Commodity.{Commodity}
use Rattle.npp_net.specs.declared.types.Span.{Span}
use Rattle.npp_net.specs.Network.{arc_at}
use Rattle.npp_net.specs.Walk.{RepeatsNoNode}
use Rattle.npp_net.specs.TollSets.{size_of}
use Rattle.npp_cover.specs.declared.label.Label.{Label}
use Rattle.npp_cover.specs.Labels.{label_at, label_after, with_arc}
use Rattle.npp_cover.specs.Fault.{can_win, has_arc, is_dominated}
use Rattle.npp_cover.specs.Closed.{AreClosed, IsDominated}
use Rattle.npp_cover.specs.declared.needed.NeededArc.{NeededArc}
use Rattle.npp_cover.specs.Needed.{NeededValue, needed_at, no_needed, id_of}
use Rattle.npp_cover.specs.Paths.{walk_of}
use Rattle.npp_labels.specs.declared.pending.Pending.{Pending}
use Rattle.npp_labels.specs.declared.pending.Taken.{Taken}
use Rattle.npp_labels.specs.Order.{IsNoLater}
use Rattle.npp_labels.specs.Useful.{AreTheUseful}

-- what waits is the label after this one, of number i, by this arc, and can win
pub record IsExtension (arcs : List NetArc) (onward : ℕ → Option ℕ) (free : ℕ) (from : Label) (i : ℕ) (a : ArcId) (p : Pending) : Type 0 where
  pub parent : p.parent ≡ i
  pub arc : p.arc ≡ a.0
  pub node : p.node ≡ (arc_at arcs a).head.0
  pub set : p.set ≡ with_arc arcs from.tolls a
  pub size : p.size ≡ size_of p.set
  pub cost : p.cost ≡ from.cost + (arc_at arcs a).cost
  pub bound : (more : ℕ) × (onward p.node ≡ Some more) × (p.bound ≡ p.cost + more)
  pub wins : p.bound < free

-- the arc by which it extends a label
abbrev pub arc_of : Pending → ArcId
arc_of p = record { 0 = p.arc }

-- so with the label of its parent's number, where the arc begins
pub record IsPending (arcs : List NetArc) (onward : ℕ → Option ℕ) (free : ℕ) (labels : List Label) (p : Pending) : Type 0 where
  pub parent : p.parent < length labels
  pub in_range : p.arc < length arcs
  pub tail : (arc_at arcs (arc_of p)).tail.0 ≡ (label_at labels p.parent).node.0
  pub extends : IsExtension arcs onward free (label_at labels p.parent) p.parent (arc_of p) p

-- the label that waits
abbrev pub label_of : List NetArc → List Label → Pending → Label
label_of arcs labels p = label_after arcs (label_at labels p.parent) (record { parent = p.parent; arc = arc_of p })

-- the needed arcs of label i
abbrev pub ways_of : NeededValue → List Label → ℕ → List NeededArc
ways_of needed labels i = needed_at needed (label_at labels i).node.0

-- the one in place j
abbrev pub way_at : NeededValue → List Label → ℕ → ℕ → ArcId
way_at needed labels i j = id_of (slice_index_or (ways_of needed labels i) j no_needed)

-- label i need not wait by this arc: its extension cannot win, uses a toll twice, or is dominated
abbrev pub IsTried : List NetArc → (ℕ → Option ℕ) → ℕ → List Label → ℕ → ArcId → Type 0
IsTried arcs onward free labels i a =
    (can_win onward free (arc_at arcs a).head.0 ((label_at labels i).cost + (arc_at arcs a).cost) ≡ false)
    ⊎ ((has_arc arcs (label_at labels i).tolls a ≡ true)
    ⊎ IsDominated labels (arc_at arcs a).head.0 (with_arc arcs (label_at labels i).tolls a) ((label_at labels i).cost + (arc_at arcs a).cost))

-- one waits with the last `left` needed arcs of its label, by the first of them, whose toll the label has not
pub record IsWaiting (arcs : List NetArc) (onward : ℕ → Option ℕ) (free : ℕ) (needed : NeededValue) (labels : List Label) (p : Pending) : Type 0 where
  pub pending : IsPending arcs onward free labels p
  pub some : 0 < p.left
  pub within : p.left ≤ length (ways_of needed labels p.parent)
  pub here : arc_of p ≡ way_at needed labels p.parent (length (ways_of needed labels p.parent) - p.left)
  pub fresh : has_arc arcs (label_at labels p.parent).tolls (arc_of p) ≡ false

-- one waits for label i that has the needed arc in place j still before it
abbrev pub IsCovered : NeededValue → List Label → List Pending → ℕ → ℕ → Type 0
IsCovered needed labels pending i j =
    (w : Pending) × Contains pending w × (w.parent ≡ i) × (length (ways_of needed labels i) ≤ j + w.left)

-- those that wait, and each needed arc of the first n labels was tried or one waits that has it still before it
pub record AreWaiting (arcs : List NetArc) (onward : ℕ → Option ℕ) (free : ℕ) (needed : NeededValue) (labels : List Label) (n : ℕ) (pending : List Pending) : Type 0 where
  pub each : (q : Pending) → Contains pending q → IsWaiting arcs onward free needed labels q
  pub tried : (i j : ℕ) → i < n → j < length (ways_of needed labels i)
      → IsTried arcs onward free labels i (way_at needed labels i j) ⊎ IsCovered needed labels pending i j

-- of the last n needed arcs of label i all but the last m were tried
abbrev pub TriesDown : List NetArc → (ℕ → Option ℕ) → ℕ → NeededValue → List Label → ℕ → ℕ → ℕ → Type 0
TriesDown arcs onward free needed labels i n m =
    (j : ℕ) → length (ways_of needed labels i) ≤ j + n → j + m < length (ways_of needed labels i)
    → IsTried arcs onward free labels i (way_at needed labels i j)

-- label i waits by the first of its last n needed arcs that was not tried
pub record WaitsNext (arcs : List NetArc) (onward : ℕ → Option ℕ) (free : ℕ) (needed : NeededValue) (labels : List Label) (i n : ℕ) (p : Pending) : Type 0 where
  pub waiting : IsWaiting arcs onward free needed labels p
  pub parent : p.parent ≡ i
  pub left : p.left ≤ n
  pub tried : TriesDown arcs onward free needed labels i n p.left

-- how many needed arcs those that wait have before them together
abbrev pub left_sum : List Pending → ℕ
left_sum pending = sum_by (λ w. w.left) pending

-- label i waits by one of its last n needed arcs, where one is not tried
pub record Advances (arcs : List NetArc) (onward : ℕ → Option ℕ) (free : ℕ) (needed : NeededValue) (labels : List Label) (i n : ℕ) (old new : List Pending) : Type 0 where
  pub kept : (q : Pending) → Contains old q → Contains new q
  pub added : (q : Pending) → Contains new q → Contains old q ⊎ IsWaiting arcs onward free needed labels q
  pub covered : (j : ℕ) → length (ways_of needed labels i) ≤ j + n → j < length (ways_of needed labels i)
      → IsTried arcs onward free labels i (way_at needed labels i j) ⊎ IsCovered needed labels new i j
  pub lefts : left_sum new ≤ left_sum old + n

-- an extension that may wait: as a label, with as many arcs before it, and with a toll that is new
pub record IsUntried (arcs : List NetArc) (onward : ℕ → Option ℕ) (free : ℕ) (labels : List Label) (i : ℕ) (a : ArcId) (n : ℕ) (p : Pending) : Type 0 where
  pub extends : IsExtension arcs onward free (label_at labels i) i a p
  pub left : p.left ≡ n
  pub fresh : has_arc arcs (label_at labels i).tolls a ≡ false

-- one was taken out that no label dominates and no other comes before
pub record TakesFirst (arcs : List NetArc) (onward : ℕ → Option ℕ) (free : ℕ) (needed : NeededValue) (labels : List Label) (new : List Pending) (t : Taken) : Type 0 where
  pub label : t.label ≡ label_of arcs labels t.waited
  pub undominated : is_dominated labels t.label.node.0 t.label.tolls t.label.cost ≡ false
  pub waiting : AreWaiting arcs onward free needed labels (length labels) (t.waited ∷ new)
  pub first : All (IsNoLater t.waited) new

-- the labels of a search: all useful ones, each once, closed, with walks that come to no node twice
pub record AreFound (arcs : List NetArc) (k : Commodity) (span : Span) (labels : List Label) : Type 0 where
  pub closed : AreClosed arcs k span labels
  pub useful : AreTheUseful arcs k span.free labels
  pub simple : (i : ℕ) → i < length labels → RepeatsNoNode arcs k.origin.0 (walk_of labels i)
