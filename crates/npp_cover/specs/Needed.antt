-- The arcs by which labels have to be extended: extensions by the others cannot win, or are dominated by those by these.
use Rattle.std.specs.Prelude.{◌≡◌, ◌⊎◌, ℕ, ◌+◌, ◌<◌, ◌≤◌, Bool, true, false, List, [], length, slice_index_or, Option, Some, None, IfSome, All, Contains, ◌==◌, ◌&&◌, ◌||◌, not, nat_lt, nat_le, if◌then◌else◌}
use Rattle.npp_net.specs.declared.types.ArcId.{ArcId}
use Rattle.npp_net.specs.declared.types.NetArc.{NetArc}
use Rattle.npp_net.specs.Network.{arc_at}
use Rattle.npp_cover.specs.declared.needed.NeededArc.{NeededArc}
use Rattle.npp_cover.specs.declared.label.Label.{Label}
use Rattle.npp_cover.specs.Fault.{can_win, is_dominated}

-- for each node a list of arcs
abbrev pub NeededValue : Type 0
NeededValue = List (List NeededArc)

-- the list of a node
abbrev pub needed_at : NeededValue → ℕ → List NeededArc
needed_at needed v = slice_index_or needed v []

-- the number of the arc
abbrev pub id_of : NeededArc → ArcId
id_of e = record { 0 = e.arc }

-- it is an arc that leaves v, with its head, its cost, how many tolls it has, and the least cost on by it
pub record IsNeeded (arcs : List NetArc) (onward : ℕ → Option ℕ) (v : ℕ) (e : NeededArc) : Type 0 where
  pub in_range : e.arc < length arcs
  pub tail : (arc_at arcs (id_of e)).tail.0 ≡ v
  pub head : (arc_at arcs (id_of e)).head.0 ≡ e.head
  pub cost : (arc_at arcs (id_of e)).cost ≡ e.cost
  pub tolls : e.tolls ≡ (if (arc_at arcs (id_of e)).toll then 1 else 0)
  pub least : (more : ℕ) × (onward e.head ≡ Some more) × (e.onward ≡ e.cost + more)

-- it is this arc, leaving its tail
pub record IsNeededAs (arcs : List NetArc) (onward : ℕ → Option ℕ) (a : ArcId) (e : NeededArc) : Type 0 where
  pub arc : e.arc ≡ a.0
  pub needed : IsNeeded arcs onward (arc_at arcs a).tail.0 e

-- it is this arc, or one toll-free and no dearer to the same head
pub record StandsFor (arcs : List NetArc) (a : ArcId) (e : NeededArc) : Type 0 where
  pub head : (arc_at arcs (id_of e)).head.0 ≡ (arc_at arcs a).head.0
  pub cost : (arc_at arcs (id_of e)).cost ≤ (arc_at arcs a).cost
  pub tolls : (id_of e ≡ a) ⊎ ((arc_at arcs (id_of e)).toll ≡ false)

-- less cost on by it, or as much and no more tolls
pub record IsNoDearer (e f : NeededArc) : Type 0 where
  pub onward : e.onward ≤ f.onward
  pub tolls : e.onward ≡ f.onward → e.tolls ≤ f.tolls

-- what is read past the end of a list
abbrev pub no_needed : NeededArc
no_needed = record { onward = 0; tolls = 0; cost = 0; head = 0; arc = 0 }

-- each is no dearer than the next
abbrev pub Rises : List NeededArc → Type 0
Rises es = (n : ℕ) → n + 1 < length es → IsNoDearer (slice_index_or es n no_needed) (slice_index_or es (n + 1) no_needed)

-- arcs that leave v, rising, one of which stands for each arc that leaves v, is no loop, and by which a walk can win
pub record AreNeededAt (arcs : List NetArc) (onward : ℕ → Option ℕ) (free v : ℕ) (es : List NeededArc) : Type 0 where
  pub each : All (IsNeeded arcs onward v) es
  pub rising : Rises es
  pub all : (a : ArcId) → a.0 < length arcs → (arc_at arcs a).tail.0 ≡ v → can_win onward free (arc_at arcs a).head.0 (arc_at arcs a).cost ≡ true
      → ((arc_at arcs a).head.0 ≡ v) ⊎ ((e : NeededArc) × Contains es e × StandsFor arcs a e)

-- so at each node
pub record AreNeeded (arcs : List NetArc) (onward : ℕ → Option ℕ) (free nodes : ℕ) (needed : NeededValue) : Type 0 where
  pub size : length needed ≡ nodes
  pub each : (v : ℕ) → v < nodes → AreNeededAt arcs onward free v (needed_at needed v)

-- the label after this one, by the arc, is dominated even where the arc adds no toll
abbrev pub IsPassed : List Label → Label → NeededArc → Type 0
IsPassed labels l e = is_dominated labels e.head l.tolls (l.cost + e.cost) ≡ true

-- whether an arc goes to the head of another and costs no less
abbrev pub is_past : NeededArc → NeededArc → Bool
is_past e f = (e.head == f.head) && nat_le e.cost f.cost

-- the same of one that is noted, if there is one
abbrev pub is_past_noted : Option NeededArc → NeededArc → Bool
is_past_noted None f = false
is_past_noted (Some e) f = is_past e f

-- whether an arc makes another needless: toll-free, between the same nodes, and cheaper, or as cheap and the other a toll arc
-- or later
abbrev pub spares : List NetArc → ArcId → ArcId → Bool
spares arcs b a =
    not (arc_at arcs b).toll && ((arc_at arcs b).tail.0 == (arc_at arcs a).tail.0) && ((arc_at arcs b).head.0 == (arc_at arcs a).head.0)
    && (nat_lt (arc_at arcs b).cost (arc_at arcs a).cost
    || (((arc_at arcs b).cost == (arc_at arcs a).cost) && ((arc_at arcs a).toll || nat_lt b.0 a.0)))

-- whether what is noted does so
abbrev pub is_spared : List NetArc → Option ArcId → ArcId → Bool
is_spared arcs None a = false
is_spared arcs (Some b) a = spares arcs b a

-- what is noted are arcs
abbrev pub AreArcs : List NetArc → List (Option ArcId) → Type 0
AreArcs arcs noted = All (λ o. IfSome o (λ b. b.0 < length arcs)) noted

-- whether an arc is no loop, a walk by it can win, and what is noted for its head does not spare it
abbrev pub is_needed : List NetArc → (ℕ → Option ℕ) → ℕ → List (Option ArcId) → ArcId → Bool
is_needed arcs onward free noted a =
    not ((arc_at arcs a).head.0 == (arc_at arcs a).tail.0) && can_win onward free (arc_at arcs a).head.0 (arc_at arcs a).cost
    && not (is_spared arcs (slice_index_or noted (arc_at arcs a).head.0 None) a)
