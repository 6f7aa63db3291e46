-- A walk is followed from reach to reach, to the destination.
use Rattle.std.proofs.Common.{◌≡◌, ◌≢◌, ℕ, ◌+◌, ◌<◌, ◌≤◌, Bool, List, [], ◌∷◌, ◌++◌, length, Option, Some, None, MatchOption, All, Contains, get_or, refl, sym, ◌∙◌, ap, subst, arith}
use Rattle.std.proofs.lemmas.List.Sums.{sum_by-cons, sum_by_push}
use Rattle.std.proofs.lemmas.List.{length_push, get_or_default}
use Rattle.npp_net.specs.declared.types.ArcId.{ArcId}
use Rattle.npp_net.specs.declared.types.NetArc.{NetArc}
use Rattle.npp_net.specs.Network.{arc_at, no_arc, IsArc}
use Rattle.npp_net.specs.Walk.{IsWalk, AvoidsNode, RepeatsNoNode, walk_cost}
use Rattle.npp_net.specs.Distance.{IsUsable, IsUsableWalk, IsUnreachable, Leads}
use Rattle.npp_short.specs.declared.reach.Reach.{Reach}
use Rattle.npp_short.specs.Reach.{reach_at, cost_at, Attains, IsNearest}
use Rattle.npp_short.specs.Potentials.{ArePotentials}
use Rattle.npp_short.specs.Shortest.{IsShortestWalk}
use Rattle.npp_short.specs.Following.{IsFollowed, IsTight, IsTightFrom}
use Rattle.npp_net.specs.Ends.{leaving_arcs}
use Rattle.npp_net.specs.declared.ends.End.TheVariants.{Tail}
use Rattle.npp_net.proofs.EndLaws.{IsEndAt, leaving_node, leaving_all}
use Rattle.npp_short.proofs.Partial.{same_some, within}
use Rattle.npp_short.proofs.Offering.{no_id}

-- one more arc at the end
walk_push : (arcs : List NetArc) (u v : ℕ) (walk : List ArcId) (a : ArcId) → IsWalk arcs u v walk → a.0 < length arcs → (arc_at arcs a).tail.0 ≡ v
    → IsWalk arcs u (arc_at arcs a).head.0 (walk ++ a ∷ [])
walk_push arcs u v [] a path lt tail = (lt, tail ∙ sym path, refl)
walk_push arcs u v (b ∷ walk) a path lt tail = (path.0, path.1, walk_push arcs (arc_at arcs b).head.0 v walk a path.2 lt tail)

usable_push : (arcs : List NetArc) (with_tolls : Bool) (walk : List ArcId) (a : ArcId) → IsUsableWalk with_tolls arcs walk → IsUsable with_tolls (arc_at arcs a)
    → IsUsableWalk with_tolls arcs (walk ++ a ∷ [])
usable_push arcs with_tolls [] a may here = (here, tt)
usable_push arcs with_tolls (b ∷ walk) a may here = (may.0, usable_push arcs with_tolls walk a may.1 here)

abbrev pub IsAbove : List (Option Reach) → ℕ → ℕ → Type 0
IsAbove table n u = (r : Reach) × (reach_at table u ≡ Some r) × (n ≤ r.arcs)

-- each node of the walk has at least so many arcs before it
abbrev pub StaysAbove : List NetArc → List (Option Reach) → ℕ → ℕ → List ArcId → Type 0
StaysAbove arcs table n u [] = IsAbove table n u
StaysAbove arcs table n u (a ∷ walk) = IsAbove table n u × StaysAbove arcs table n (arc_at arcs a).head.0 walk

module _ (arcs : List NetArc) (table : List (Option Reach)) (n : ℕ) (a : ArcId) (h : Reach)
    (there : reach_at table (arc_at arcs a).head.0 ≡ Some h) (less : h.arcs < n) where
  other : (u : ℕ) → IsAbove table n u → (arc_at arcs a).head.0 ≢ u
  other u above = λ e.
      let same : h ≡ above.0 = same_some (reach_at table u) (subst (λ (w : ℕ). reach_at table w ≡ Some h) e there) above.1 in
      omega (arith, above.2, ap (λ (r : Reach). r.arcs) same)

  avoids_push : (u : ℕ) (walk : List ArcId) → IsAbove table n u → AvoidsNode arcs u walk → AvoidsNode arcs u (walk ++ a ∷ [])
  avoids_push u [] above avoids = (other u above, tt)
  avoids_push u (b ∷ walk) above avoids = (avoids.0, avoids_push u walk above avoids.1)

  simple_push : (u : ℕ) (walk : List ArcId) → StaysAbove arcs table n u walk → RepeatsNoNode arcs u walk → RepeatsNoNode arcs u (walk ++ a ∷ [])
  simple_push u [] above simple = ((other u above, tt), tt)
  simple_push u (b ∷ walk) above simple =
      (avoids_push u (b ∷ walk) above.0 simple.0, simple_push (arc_at arcs b).head.0 walk above.1 simple.1)

  above_push : (u : ℕ) (walk : List ArcId) → StaysAbove arcs table n u walk → StaysAbove arcs table h.arcs u (walk ++ a ∷ [])
  above_push u [] above = ((above.0, above.1, omega (arith, above.2)), (h, there, omega arith))
  above_push u (b ∷ walk) above = ((above.0.0, above.0.1, omega (arith, above.0.2)), above_push (arc_at arcs b).head.0 walk above.1)

pub record IsFollowing (arcs : List NetArc) (with_tolls : Bool) (table : List (Option Reach)) (from : ℕ) (start : Reach) (node : ℕ) (left : Reach) (walk : List ArcId) : Type 0 where
  pub leads : Leads arcs with_tolls from node walk
  pub cost : walk_cost arcs walk + left.cost ≡ start.cost
  pub count : length walk + left.arcs ≡ start.arcs
  pub within : node < length table
  pub here : reach_at table node ≡ Some left
  pub simple : RepeatsNoNode arcs from walk
  pub above : StaysAbove arcs table left.arcs from walk

pub following_start : (arcs : List NetArc) (with_tolls : Bool) (table : List (Option Reach)) (from : ℕ) (start : Reach) → from < length table
    → reach_at table from ≡ Some start → IsFollowing arcs with_tolls table from start from start []
following_start arcs with_tolls table from start lt here = record {
  leads = record { path = refl; usable = tt };
  cost = omega arith;
  count = omega arith;
  within = lt;
  here = here;
  simple = tt;
  above = (start, here, omega arith);
}

pub following_more : (arcs : List NetArc) (with_tolls : Bool) (table : List (Option Reach)) (from : ℕ) (start : Reach) (node : ℕ) (left : Reach) (walk : List ArcId)
    (a : ArcId) (after : Reach) → IsTightFrom arcs with_tolls table node left a after
    → IsFollowing arcs with_tolls table from start node left walk
    → IsFollowing arcs with_tolls table from start (arc_at arcs a).head.0 after (walk ++ a ∷ [])
following_more arcs with_tolls table from start node left walk a after on f =
    let t = on.tight in
    let sum = sum_by_push (λ (b : ArcId). (arc_at arcs b).cost) walk a in
    let long = length_push walk a in
    let less : after.arcs < left.arcs = omega (arith, t.count) in
    record {
      leads = record {
        path = walk_push arcs from node walk a f.leads.path on.in_range on.from;
        usable = usable_push arcs with_tolls walk a f.leads.usable t.usable;
      };
      cost = omega (arith, sum, t.cost, f.cost);
      count = omega (arith, long, t.count, f.count);
      within = within table (arc_at arcs a).head.0 after t.there;
      here = t.there;
      simple = simple_push arcs table left.arcs a after t.there less from walk f.above f.simple;
      above = above_push arcs table left.arcs a after t.there less from walk f.above;
    }

-- the nearest walks from a node that is in the table
nearest_here : (arcs : List NetArc) (with_tolls : Bool) (nodes destination : ℕ) (table : List (Option Reach)) → ArePotentials arcs with_tolls nodes destination table
    → (v : ℕ) (r : Reach) → v < nodes → reach_at table v ≡ Some r → IsNearest arcs with_tolls v destination r
nearest_here arcs with_tolls nodes destination table near v r lt here =
    subst (λ (o : Option Reach). MatchOption o (IsUnreachable arcs with_tolls v destination) (IsNearest arcs with_tolls v destination)) here (near.each v lt)

ends_here : (arcs : List NetArc) (with_tolls : Bool) (v destination : ℕ) (r : Reach) (walk : List ArcId) → Attains arcs with_tolls v destination r walk → r.arcs ≡ 0
    → (v ≡ destination) × (r.cost ≡ 0)
ends_here arcs with_tolls v destination r [] a none = (a.leads.path, sym a.cost)
ends_here arcs with_tolls v destination r (b ∷ walk) a none = absurd (omega (arith, a.count, none))

pub followed : (arcs : List NetArc) (with_tolls : Bool) (nodes destination : ℕ) (table : List (Option Reach)) (from : ℕ) (start : Reach) (node : ℕ) (left : Reach) (walk : List ArcId)
    → ArePotentials arcs with_tolls nodes destination table → left.arcs ≡ 0
    → IsFollowing arcs with_tolls table from start node left walk → IsFollowed arcs with_tolls from destination start walk
followed arcs with_tolls nodes destination table from start node left walk near none f =
    let at = nearest_here arcs with_tolls nodes destination table near node left (omega (arith, f.within, near.size)) f.here in
    let end = ends_here arcs with_tolls node destination left at.attained.0 at.attained.1 none in
    record {
      attains = record {
        leads = subst (λ (v : ℕ). Leads arcs with_tolls from v walk) end.0 f.leads;
        cost = omega (arith, f.cost, end.1);
        count = omega (arith, f.count, none);
      };
      simple = f.simple;
    }

-- a walk that was followed from the reach of a node is a shortest one
pub shortest : (arcs : List NetArc) (with_tolls : Bool) (nodes destination : ℕ) (table : List (Option Reach)) (from : ℕ) (start : Reach) (walk : List ArcId)
    → ArePotentials arcs with_tolls nodes destination table → from < nodes → reach_at table from ≡ Some start
    → IsFollowed arcs with_tolls from destination start walk → IsShortestWalk arcs with_tolls from destination walk
shortest arcs with_tolls nodes destination table from start walk near lt here f =
    let at = nearest_here arcs with_tolls nodes destination table near from start lt here in
    record {
      leads = f.attains.leads;
      least = λ other leads. let above = at.least other leads in omega (arith, f.attains.cost, above.cost);
      simple = f.simple;
    }

-- its cost is that of the node
pub cost_here : (arcs : List NetArc) (with_tolls : Bool) (u v : ℕ) (table : List (Option Reach)) (from : ℕ) (start : Reach) (walk : List ArcId)
    → reach_at table from ≡ Some start → IsFollowed arcs with_tolls u v start walk → cost_at table from ≡ Some (walk_cost arcs walk)
cost_here arcs with_tolls u v table from start walk here f = rw (here, f.attains.cost) refl

-- a node with a walk is in the table
is_there : (P : Reach → Type 0) (W : List ArcId → Type 0) (o : Option Reach) → MatchOption o ((walk : List ArcId) → W walk → ⊥) P → (walk : List ArcId) → W walk
    → (h : Reach) × (o ≡ Some h)
is_there P W None none walk leads = absurd (none walk leads)
is_there P W (Some h) near walk leads = (h, refl)

-- the node behind the first arc of a nearest walk has the rest of its reach
behind_first : (arcs : List NetArc) (with_tolls : Bool) (destination : ℕ) (table : List (Option Reach)) (node : ℕ) (left h : Reach) (a : ArcId) (rest : List ArcId)
    → IsNearest arcs with_tolls node destination left → Attains arcs with_tolls node destination left (a ∷ rest)
    → IsNearest arcs with_tolls (arc_at arcs a).head.0 destination h → reach_at table (arc_at arcs a).head.0 ≡ Some h
    → IsTightFrom arcs with_tolls table node left a h
behind_first arcs with_tolls destination table node left h a rest here at there is =
    let after = there.attained.0 in
    let got = there.attained.1 in
    let below = there.least rest (record { path = at.leads.path.2; usable = at.leads.usable.1 }) in
    let above = here.least (a ∷ after) (record { path = (at.leads.path.0, at.leads.path.1, got.leads.path); usable = (at.leads.usable.0, got.leads.usable) }) in
    let sum_rest = sum_by-cons (λ (b : ArcId). (arc_at arcs b).cost) a rest in
    let sum_after = sum_by-cons (λ (b : ArcId). (arc_at arcs b).cost) a after in
    let cost : h.cost + (arc_at arcs a).cost ≡ left.cost = omega (arith, sum_rest, sum_after, at.cost, got.cost, below.cost, above.cost) in
    let fewer : h.arcs ≤ length rest = below.arcs (omega (arith, cost, sum_rest, at.cost)) in
    let more : left.arcs ≤ length (a ∷ after) = above.arcs (omega (arith, cost, sum_after, got.cost)) in
    record {
      in_range = at.leads.path.0;
      from = at.leads.path.1;
      tight = record {
        usable = at.leads.usable.0;
        there = is;
        cost = cost;
        count = omega (arith, fewer, more, at.count, got.count);
      };
    }

tight_of : (arcs : List NetArc) (with_tolls : Bool) (nodes destination : ℕ) (table : List (Option Reach)) (node : ℕ) (left : Reach)
    → ArePotentials arcs with_tolls nodes destination table → All (IsArc nodes) arcs
    → IsNearest arcs with_tolls node destination left → (walk : List ArcId) → Attains arcs with_tolls node destination left walk → 0 < left.arcs
    → (a : ArcId) × ((h : Reach) × IsTightFrom arcs with_tolls table node left a h)
tight_of arcs with_tolls nodes destination table node left near limits here [] at more = absurd (omega (arith, at.count))
tight_of arcs with_tolls nodes destination table node left near limits here (a ∷ rest) at more =
    let head = (arc_at arcs a).head.0 in
    let lt : head < nodes = (limits a.0 no_arc at.leads.path.0).head in
    let leads : Leads arcs with_tolls head destination rest = record { path = at.leads.path.2; usable = at.leads.usable.1 } in
    let known = is_there (IsNearest arcs with_tolls head destination) (λ (w : List ArcId). Leads arcs with_tolls head destination w) (reach_at table head) (near.each head lt) rest leads in (
      a,
      (
        known.0,
        behind_first arcs with_tolls destination table node left known.0 a rest here at
            (nearest_here arcs with_tolls nodes destination table near head known.0 lt known.1) known.1,
      ),
    )

-- a node that is not the destination has its reach by some arc
pub tight_exists : (arcs : List NetArc) (with_tolls : Bool) (nodes destination : ℕ) (table : List (Option Reach)) (node : ℕ) (left : Reach)
    → ArePotentials arcs with_tolls nodes destination table → All (IsArc nodes) arcs → node < nodes → reach_at table node ≡ Some left → 0 < left.arcs
    → (a : ArcId) × ((h : Reach) × IsTightFrom arcs with_tolls table node left a h)
tight_exists arcs with_tolls nodes destination table node left near limits lt here more =
    let at = nearest_here arcs with_tolls nodes destination table near node left lt here in
    tight_of arcs with_tolls nodes destination table node left near limits at at.attained.0 at.attained.1 more

-- so one of the arcs that leave it is such an arc
pub tight_listed : (arcs : List NetArc) (with_tolls : Bool) (nodes destination : ℕ) (table : List (Option Reach)) (node : ℕ) (left : Reach) (listed : List ArcId) (n : ℕ)
    → ArePotentials arcs with_tolls nodes destination table → All (IsArc nodes) arcs → node < nodes → reach_at table node ≡ Some left → 0 < left.arcs
    → listed ≡ leaving_arcs arcs node → length listed ≤ n
    → ((j : ℕ) → j < n → (h : Reach) → IsTight with_tolls table left (arc_at arcs (get_or listed j no_id)) h → ⊥)
    → ⊥
tight_listed arcs with_tolls nodes destination table node left listed n near limits lt here more list all none =
    let found = tight_exists arcs with_tolls nodes destination table node left near limits lt here more in
    let a = found.0 in
    let on = found.1.1 in
    let at = subst (λ (l : List ArcId). Contains l a) (sym list) (leaving_all arcs node a on.in_range on.from) in
    let is : get_or listed at.0 no_id ≡ a = get_or_default listed at.0 no_id a at.1 ∙ at.2 in
    none at.0 (omega (arith, at.1, all)) found.1.0 (subst (λ (b : ArcId). IsTight with_tolls table left (arc_at arcs b) found.1.0) (sym is) on.tight)

-- each arc that leaves the node is in range, and begins there
pub leaving_at : (arcs : List NetArc) (node : ℕ) (listed : List ArcId) (j : ℕ) → listed ≡ leaving_arcs arcs node → j < length listed
    → IsEndAt Tail arcs node (length arcs) (get_or listed j no_id)
leaving_at arcs node listed j list lt =
    let all = subst (λ (l : List ArcId). All (IsEndAt Tail arcs node (length arcs)) l) (sym list) (leaving_node arcs node) in
    all j no_id lt
