-- The search after some nodes are settled, and after one more.
use Rattle.std.proofs.Common.{◌≡◌, ◌⊎◌, inl, inr, ℕ, ◌+◌, ◌*◌, ◌<◌, ◌≤◌, Bool, true, false, List, [], ◌∷◌, length, set, replicate, cond, get_or, Option, Some, None, refl, sym, ◌∙◌, ap, subst, arith, All, count_by}
use Rattle.std.proofs.lemmas.Bool.{cases_eq, cases_lt, false≢true}
use Rattle.std.proofs.lemmas.Grind.{common_steps}
use Rattle.std.proofs.lemmas.List.{get_or-set_same, get_or-set_other, length-set, get_or-replicate, get_or_past, length-replicate}
use Rattle.std.proofs.lemmas.List.Sums.{sum_by-cons, count_by-le-length}
use Rattle.std.proofs.lemmas.List.Folds.{sum_by-replicate}
use Rattle.npp_net.specs.declared.types.ArcId.{ArcId}
use Rattle.npp_net.specs.declared.types.NetArc.{NetArc}
use Rattle.npp_net.specs.Network.{no_arc, arc_at, IsArc}
use Rattle.npp_net.specs.Walk.{IsWalk}
use Rattle.npp_net.specs.Distance.{IsUsable}
use Rattle.npp_short.specs.declared.reach.Reach.{Reach}
use Rattle.npp_short.specs.Reach.{reach_at, through, IsNoFarther, Attains}
use Rattle.npp_short.specs.Settling.{Settles, IsInto, IsNext, IsReached, is_done}
use Rattle.npp_short.proofs.Order.{near_trans, near_self, near_from_nearer, near_through, not_both}

-- the search after `settled` nodes
pub record IsPartial (arcs : List NetArc) (with_tolls : Bool) (nodes destination : ℕ) (table : List (Option Reach)) (done : List Bool) (settled : ℕ) : Type 0 where
  pub size : length table ≡ nodes
  pub flags : length done ≡ nodes
  pub count : count_by (λ b. b) done ≡ settled
  pub within : settled ≤ nodes
  pub attained : (v : ℕ) (r : Reach) → reach_at table v ≡ Some r → (walk : List ArcId) × Attains arcs with_tolls v destination r walk
  pub small : (v : ℕ) (r : Reach) → reach_at table v ≡ Some r → (r.cost ≤ 1000000 * settled) × (r.arcs ≤ settled)
  pub start : (r : Reach) × (reach_at table destination ≡ Some r) × (r.cost ≡ 0) × (r.arcs ≡ 0)
  pub known : (v : ℕ) → is_done done v ≡ true → (r : Reach) × (reach_at table v ≡ Some r)
  pub order : (u v : ℕ) (r s : Reach) → is_done done u ≡ true → is_done done v ≡ false
      → reach_at table u ≡ Some r → reach_at table v ≡ Some s → IsNoFarther r s
  pub closed : (a : ArcId) (h : Reach) → a.0 < length arcs → IsUsable with_tolls (arc_at arcs a)
      → is_done done (arc_at arcs a).head.0 ≡ true → reach_at table (arc_at arcs a).head.0 ≡ Some h → IsReached h table (arc_at arcs a)

-- an entry that stands is one
pub same_some : {a b : Reach} (o : Option Reach) → o ≡ Some a → o ≡ Some b → a ≡ b
same_some o p q = cc

-- an entry that is there is in the table
pub within : (table : List (Option Reach)) (v : ℕ) (r : Reach) → reach_at table v ≡ Some r → v < length table
within table v r here = elim (cases_lt v (length table)) [
  | inl lt ↦ lt
  | inr past ↦ let e : reach_at table v ≡ None = get_or_past table v None past in absurd cc
]

pub done_cases : (done : List Bool) (node u : ℕ) → is_done (set done node true) u ≡ true → (u ≡ node) ⊎ (is_done done u ≡ true)
done_cases done node u is = elim (cases_eq u node) [
  | inl e ↦ inl e
  | inr ne ↦ inr (sym (get_or-set_other done node u true false ne) ∙ is)
]

pub waits_still : (done : List Bool) (node v : ℕ) → node < length done → is_done (set done node true) v ≡ false → is_done done v ≡ false
waits_still done node v lt is = elim (cases_eq v node) [
  | inl e ↦ let one : is_done (set done node true) v ≡ true = subst (λ (w : ℕ). get_or (set done node true) w false ≡ true) (sym e) (get_or-set_same done node true false lt) in absurd (false≢true (sym is ∙ one))
  | inr ne ↦ sym (get_or-set_other done node v true false ne) ∙ is
]

count_more : (done : List Bool) (node settled : ℕ) → node < length done → is_done done node ≡ false → count_by (λ b. b) done ≡ settled
    → count_by (λ b. b) (set done node true) ≡ settled + 1
count_more done node settled lt waits count = grind (arith, common_steps)

-- a walk with one more arc in front
attains_one_more : (arcs : List NetArc) (with_tolls : Bool) (v node destination : ℕ) (h : Reach) (a : ArcId) (walk : List ArcId)
    → IsInto arcs with_tolls node a → (arc_at arcs a).tail.0 ≡ v
    → Attains arcs with_tolls node destination h walk
    → Attains arcs with_tolls v destination (through (arc_at arcs a) h) (a ∷ walk)
attains_one_more arcs with_tolls v node destination h a walk into tail w =
    let sum = sum_by-cons (λ (b : ArcId). (arc_at arcs b).cost) a walk in record {
      leads = record {
        path = (into.in_range, tail, subst (λ (n : ℕ). IsWalk arcs n destination walk) (sym into.into) w.leads.path);
        usable = (into.usable, w.leads.usable);
      };
      cost = omega (arith, sum, w.cost);
      count = omega (arith, w.count);
    }

module _ (arcs : List NetArc) (with_tolls : Bool) (nodes destination : ℕ) (old new : List (Option Reach)) (done : List Bool) (settled node : ℕ) (h : Reach)
    (limits : All (IsArc nodes) arcs)
    (next : IsNext old done node h)
    (s : Settles arcs with_tolls node h old new)
    (p : IsPartial arcs with_tolls nodes destination old done settled) where
  -- what is no farther than the node stays
  stays : (u : ℕ) (r : Reach) → reach_at old u ≡ Some r → IsNoFarther r h → reach_at new u ≡ Some r
  stays u r was near = elim (s.entries u) [
    | inl same ↦ same ∙ was
    | inr put ↦
        let x = arc_at arcs put.2.by.0 in
        let far : IsNoFarther r put.0 = subst (λ (q : Reach). IsNoFarther r q) (sym put.2.by.3) (near_trans near (near_through x h)) in
        absurd (not_both (put.2.nearer r was) far)
  ]

  done_near : (u : ℕ) (r : Reach) → is_done done u ≡ true → reach_at old u ≡ Some r → IsNoFarther r h
  done_near u r is was = p.order u node r h is next.waits was next.here

  here_still : reach_at new node ≡ Some h
  here_still = stays node h next.here (near_self h)

  -- a new entry is the old one, or farther than the node
  entry_from : (v : ℕ) (q : Reach) → reach_at new v ≡ Some q → (reach_at old v ≡ Some q) ⊎ IsNoFarther h q
  entry_from v q is = elim (s.entries v) [
    | inl same ↦ inl (sym same ∙ is)
    | inr put ↦
        let e : put.0 ≡ q = same_some (reach_at new v) put.1 is in
        inr (subst (λ (z : Reach). IsNoFarther h z) (sym put.2.by.3 ∙ e) (near_through (arc_at arcs put.2.by.0) h))
  ]

  known_more : (u : ℕ) → is_done (set done node true) u ≡ true → (r : Reach) × (reach_at new u ≡ Some r)
  known_more u is = elim (done_cases done node u is) [
    | inl e ↦ (h, subst (λ (w : ℕ). reach_at new w ≡ Some h) (sym e) here_still)
    | inr was ↦ let k = p.known u was in (k.0, stays u k.0 k.1 (done_near u k.0 was k.1))
  ]

  node_in : node < length done
  node_in = omega (arith, next.in_range, p.size, p.flags)

  order_more : (u v : ℕ) (r q : Reach) → is_done (set done node true) u ≡ true → is_done (set done node true) v ≡ false
      → reach_at new u ≡ Some r → reach_at new v ≡ Some q → IsNoFarther r q
  order_more u v r q du dv at_u at_v =
      let waits = waits_still done node v node_in dv in
      elim (done_cases done node u du) [
        | inl e ↦
            let eh : h ≡ r = same_some (reach_at new node) here_still (subst (λ (w : ℕ). reach_at new w ≡ Some r) e at_u) in
            subst (λ (z : Reach). IsNoFarther z q) eh (elim (entry_from v q at_v) [
              | inl was ↦ next.first v q waits was
              | inr far ↦ far
            ])
        | inr was_done ↦
            let k = p.known u was_done in
            let near = done_near u k.0 was_done k.1 in
            let er : k.0 ≡ r = same_some (reach_at new u) (stays u k.0 k.1 near) at_u in
            subst (λ (z : Reach). IsNoFarther z q) er (elim (entry_from v q at_v) [
              | inl was ↦ p.order u v k.0 q was_done waits k.1 was
              | inr far ↦ near_trans near far
            ])
      ]

  -- an entry only comes nearer
  improves : (v : ℕ) (t : Reach) → reach_at old v ≡ Some t → (q : Reach) × (reach_at new v ≡ Some q) × IsNoFarther q t
  improves v t was = elim (s.entries v) [
    | inl same ↦ (t, same ∙ was, near_self t)
    | inr put ↦ (put.0, put.1, near_from_nearer (put.2.nearer t was))
  ]

  closed_more : (a : ArcId) (g : Reach) → a.0 < length arcs → IsUsable with_tolls (arc_at arcs a)
      → is_done (set done node true) (arc_at arcs a).head.0 ≡ true → reach_at new (arc_at arcs a).head.0 ≡ Some g → IsReached g new (arc_at arcs a)
  closed_more a g lt may is at_head = elim (done_cases done node (arc_at arcs a).head.0 is) [
    | inl e ↦
        let eg : h ≡ g = same_some (reach_at new node) here_still (subst (λ (w : ℕ). reach_at new w ≡ Some g) e at_head) in
        subst (λ (z : Reach). IsReached z new (arc_at arcs a)) eg (s.reached a (record { in_range = lt; usable = may; into = e }))
    | inr was_done ↦
        let known = p.known (arc_at arcs a).head.0 was_done in
        let near = done_near (arc_at arcs a).head.0 known.0 was_done known.1 in
        let eg : known.0 ≡ g = same_some (reach_at new (arc_at arcs a).head.0) (stays (arc_at arcs a).head.0 known.0 known.1 near) at_head in
        let c = p.closed a known.0 lt may was_done known.1 in
        let i = improves (arc_at arcs a).tail.0 c.0 c.1 in
        (i.0, i.1, near_trans i.2 (subst (λ (z : Reach). IsNoFarther c.0 (through (arc_at arcs a) z)) eg c.2))
  ]

  attained_more : (v : ℕ) (r : Reach) → reach_at new v ≡ Some r → (walk : List ArcId) × Attains arcs with_tolls v destination r walk
  attained_more v r is = elim (s.entries v) [
    | inl same ↦ p.attained v r (sym same ∙ is)
    | inr put ↦
        let a = put.2.by.0 in
        let e : through (arc_at arcs a) h ≡ r = sym put.2.by.3 ∙ same_some (reach_at new v) put.1 is in
        let w = p.attained node h next.here in
        subst (λ (z : Reach). (walk : List ArcId) × Attains arcs with_tolls v destination z walk) e
        (a ∷ w.0, attains_one_more arcs with_tolls v node destination h a w.0 put.2.by.1 put.2.by.2 w.1)
  ]

  small_more : (v : ℕ) (r : Reach) → reach_at new v ≡ Some r → (r.cost ≤ 1000000 * (settled + 1)) × (r.arcs ≤ settled + 1)
  small_more v r is = elim (s.entries v) [
    | inl same ↦ let b = p.small v r (sym same ∙ is) in (omega arith, omega arith)
    | inr put ↦
        let a = put.2.by.0 in
        let e : through (arc_at arcs a) h ≡ r = sym put.2.by.3 ∙ same_some (reach_at new v) put.1 is in
        let b = p.small node h next.here in
        let cost : (arc_at arcs a).cost ≤ 1000000 = (limits a.0 no_arc put.2.by.1.in_range).cost in
        subst (λ (z : Reach). (z.cost ≤ 1000000 * (settled + 1)) × (z.arcs ≤ settled + 1)) e (omega arith, omega arith)
  ]

  start_more : (r : Reach) × (reach_at new destination ≡ Some r) × (r.cost ≡ 0) × (r.arcs ≡ 0)
  start_more = elim (s.entries destination) [
    | inl same ↦ (p.start.0, same ∙ p.start.1, p.start.2, p.start.3)
    | inr put ↦ let near = put.2.nearer p.start.0 p.start.1 in absurd (grind (arith, p.start.2, p.start.3))
  ]

  -- one more node is settled
  pub partial_more : IsPartial arcs with_tolls nodes destination new (set done node true) (settled + 1)
  partial_more =
      let counted = count_more done node settled node_in next.waits p.count in
      let few = count_by-le-length (λ (b : Bool). b) (set done node true) in record {
        size = s.size ∙ p.size;
        flags = length-set done node true ∙ p.flags;
        count = counted;
        within = omega (arith, few, counted, length-set done node true, p.flags);
        attained = attained_more;
        small = small_more;
        start = start_more;
        known = known_more;
        order = order_more;
        closed = closed_more;
      }

none_at : (nodes v : ℕ) → reach_at (replicate nodes None) v ≡ None
none_at nodes v = elim (cases_lt v nodes) [
  | inl lt ↦ get_or-replicate nodes v None None lt
  | inr past ↦ get_or_past (replicate nodes None) v None (omega (arith, length-replicate {A = Option Reach} nodes None))
]

none_done : (nodes v : ℕ) → is_done (replicate nodes false) v ≡ false
none_done nodes v = elim (cases_lt v nodes) [
  | inl lt ↦ get_or-replicate nodes v false false lt
  | inr past ↦ get_or_past (replicate nodes false) v false (omega (arith, length-replicate nodes false))
]

-- the reach of the destination itself
abbrev pub no_way : Reach
no_way = record { cost = 0; arcs = 0 }

-- before any node is settled only the destination has a reach
abbrev pub first_table : ℕ → ℕ → List (Option Reach)
first_table nodes destination = set (replicate nodes None) destination (Some no_way)

pub reach_there : (nodes destination : ℕ) → destination < nodes → reach_at (first_table nodes destination) destination ≡ Some no_way
reach_there nodes destination lt = get_or-set_same (replicate nodes None) destination (Some no_way) None (omega (arith, length-replicate {A = Option Reach} nodes None))

pub reach_only_there : (nodes destination v : ℕ) (r : Reach) → destination < nodes → reach_at (first_table nodes destination) v ≡ Some r → (v ≡ destination) × (r ≡ no_way)
reach_only_there nodes destination v r lt is = elim (cases_eq v destination) [
  | inl e ↦
      let here = subst (λ (w : ℕ). reach_at (first_table nodes destination) w ≡ Some r) e is in
      (e, same_some (reach_at (first_table nodes destination) destination) here (reach_there nodes destination lt))
  | inr ne ↦ let none : reach_at (first_table nodes destination) v ≡ None = get_or-set_other (replicate nodes None) destination v (Some no_way) None ne ∙ none_at nodes v in absurd cc
]

attained_first : (arcs : List NetArc) (with_tolls : Bool) (v destination : ℕ) (r : Reach) → v ≡ destination → r ≡ no_way → Attains arcs with_tolls v destination r []
attained_first arcs with_tolls v destination r there none = record {
  leads = record { path = there; usable = tt };
  cost = sym (ap (λ (q : Reach). q.cost) none);
  count = sym (ap (λ (q : Reach). q.arcs) none);
}

partial_first : (arcs : List NetArc) (with_tolls : Bool) (nodes destination : ℕ) → destination < nodes
    → IsPartial arcs with_tolls nodes destination (first_table nodes destination) (replicate nodes false) 0
partial_first arcs with_tolls nodes destination lt = record {
  size = length-set (replicate nodes None) destination (Some no_way) ∙ length-replicate {A = Option Reach} nodes None;
  flags = length-replicate nodes false;
  count = omega (arith, sum_by-replicate (λ (b : Bool). cond b 1 0) nodes false);
  within = omega arith;
  attained = λ v r is. let o = reach_only_there nodes destination v r lt is in ([], attained_first arcs with_tolls v destination r o.0 o.1);
  small = λ v r is.
      let o = (reach_only_there nodes destination v r lt is).1 in
      (omega (arith, ap (λ (q : Reach). q.cost) o), omega (arith, ap (λ (q : Reach). q.arcs) o));
  start = (no_way, reach_there nodes destination lt, refl, refl);
  known = λ v is. absurd (false≢true (sym (none_done nodes v) ∙ is));
  order = λ u v r q is. absurd (false≢true (sym (none_done nodes u) ∙ is));
  closed = λ a h lt' may is. absurd (false≢true (sym (none_done nodes (arc_at arcs a).head.0) ∙ is));
}

-- before any node is settled
pub partial_start : (arcs : List NetArc) (with_tolls : Bool) (nodes destination : ℕ) (table : List (Option Reach)) (done : List Bool)
    → destination < nodes → table ≡ replicate nodes None → done ≡ replicate nodes false
    → IsPartial arcs with_tolls nodes destination (set table destination (Some no_way)) done 0
partial_start arcs with_tolls nodes destination table done lt empty none =
    subst (λ (t : List (Option Reach)). IsPartial arcs with_tolls nodes destination (set t destination (Some no_way)) done 0) (sym empty)
    (subst (λ (b : List Bool). IsPartial arcs with_tolls nodes destination (first_table nodes destination) b 0) (sym none)
    (partial_first arcs with_tolls nodes destination lt))
