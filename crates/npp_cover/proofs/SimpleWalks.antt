-- Each walk can be cut down to one that comes to no node twice, and such a walk has fewer arcs than there are nodes.
use Rattle.std.proofs.Common.{◌≡◌, ◌≢◌, ◌⊎◌, inl, inr, ℕ, ◌*◌, ◌<◌, ◌≤◌, Bool, true, false, List, [], ◌∷◌, length, map, eqb, ◌||◌, refl, sym, ◌∙◌, ap, subst, arith}
use Rattle.std.proofs.lemmas.Bool.{cases_eq, false≢true}
use Rattle.std.proofs.lemmas.List.{length-map}
use Rattle.std.proofs.lemmas.Map.Steps.{length-le_from_distinct_below}
use Rattle.std.specs.List.{IsDistinct, AllByRecursion, list_any}
use Rattle.npp_net.specs.declared.types.ArcId.{ArcId}
use Rattle.npp_net.specs.declared.types.NetArc.{NetArc}
use Rattle.npp_net.specs.declared.types.Commodity.{Commodity}
use Rattle.npp_net.specs.declared.types.Span.{Span}
use Rattle.npp_net.specs.Network.{Network, IsNetwork, IsCommodity, arc_at, no_arc}
use Rattle.npp_net.specs.Walk.{IsWalk, walk_cost, AvoidsNode, RepeatsNoNode}
use Rattle.npp_net.specs.Distance.{IsUsableWalk, Leads, IsLeast, IsSpan}
use Rattle.npp_cover.proofs.TestLemmas.{equal_of_test, test_of_other}
use Rattle.npp_cover.proofs.ReplaceLemmas.{walk_cost-cons}

module _ (arcs : List NetArc) (with_tolls : Bool) (v : ℕ) where
  -- a walk from u that comes to no node twice, and costs no more
  pub record IsCut (u most : ℕ) (walk : List ArcId) : Type 0 where
    pub leads : Leads arcs with_tolls u v walk
    pub simple : RepeatsNoNode arcs u walk
    pub cost : walk_cost arcs walk ≤ most

  -- where a walk comes to u, what follows is one from u
  cut_at : (u w : ℕ) (walk : List ArcId) → IsWalk arcs w v walk → IsUsableWalk with_tolls arcs walk → RepeatsNoNode arcs w walk
      → ((rest : List ArcId) × IsCut u (walk_cost arcs walk) rest) ⊎ ((w ≢ u) × AvoidsNode arcs u walk)
  cut_at u w [] path usable simple = elim (cases_eq w u) [
    | inl e ↦ inl ([], record { leads = record { path = sym e ∙ path; usable = usable }; simple = tt; cost = omega arith })
    | inr ne ↦ inr (ne, tt)
  ]
  cut_at u w (a ∷ rest) path usable simple = elim (cases_eq w u) [
    | inl e ↦ inl (
      a ∷ rest,
      record {
        leads = record { path = (path.0, path.1 ∙ e, path.2); usable = usable };
        simple = subst (λ (n : ℕ). RepeatsNoNode arcs n (a ∷ rest)) e simple;
        cost = omega arith;
      },
    )
    | inr ne ↦ elim (cut_at u (arc_at arcs a).head.0 rest path.2 usable.1 simple.1) [
      | inl found ↦ inl (found.0, record { leads = found.1.leads; simple = found.1.simple; cost = omega (arith, walk_cost-cons arcs a rest, found.1.cost) })
      | inr away ↦ inr (ne, away)
    ]
  ]

  cut_down : (u : ℕ) (walk : List ArcId) → Leads arcs with_tolls u v walk → (simple : List ArcId) × IsCut u (walk_cost arcs walk) simple
  cut_down u [] leads = ([], record { leads = leads; simple = tt; cost = omega arith })
  cut_down u (a ∷ rest) leads =
      let head : ℕ = (arc_at arcs a).head.0 in
      let next = cut_down head rest (record { path = leads.path.2; usable = leads.usable.1 }) in
      elim (cut_at u head next.0 next.1.leads.path next.1.leads.usable next.1.simple) [
        | inl found ↦ (
          found.0,
          record {
            leads = found.1.leads;
            simple = found.1.simple;
            cost = omega (arith, walk_cost-cons arcs a rest, next.1.cost, found.1.cost);
          },
        )
        | inr away ↦ (
          a ∷ next.0,
          record {
            leads = record { path = (leads.path.0, leads.path.1, next.1.leads.path); usable = (leads.usable.0, next.1.leads.usable) };
            simple = (away, next.1.simple);
            cost = omega (arith, walk_cost-cons arcs a rest, walk_cost-cons arcs a next.0, next.1.cost);
          },
        )
      ]

-- the nodes that a walk comes to
abbrev heads_of : List NetArc → List ArcId → List ℕ
heads_of arcs walk = map (λ a. (arc_at arcs a).head.0) walk

avoided : (arcs : List NetArc) (u : ℕ) (walk : List ArcId) → AvoidsNode arcs u walk → AllByRecursion (λ w. eqb u w ≡ false) (heads_of arcs walk)
avoided arcs u [] avoids = tt
avoided arcs u (a ∷ rest) avoids = (test_of_other u (arc_at arcs a).head.0 avoids.0, avoided arcs u rest avoids.1)

distinct : (arcs : List NetArc) (u : ℕ) (walk : List ArcId) → RepeatsNoNode arcs u walk → IsDistinct eqb (u ∷ heads_of arcs walk)
unfolding IsDistinct
distinct arcs u [] simple = (tt, tt)
distinct arcs u (a ∷ rest) simple = (avoided arcs u (a ∷ rest) simple.0, distinct arcs (arc_at arcs a).head.0 rest simple.1)

one_by : (n q x : ℕ) (b found : Bool) → eqb q x ≡ b → x < n → (found ≡ true → q < n) → (eqb q x || found) ≡ true → q < n
one_by n q x true found is lt rest e = omega (arith, equal_of_test q x is, lt)
one_by n q x false found is lt rest e = rest (ap (λ (t : Bool). t || found) (sym is) ∙ e)

one_of : (n : ℕ) (xs : List ℕ) → AllByRecursion (λ x. x < n) xs → (q : ℕ) → list_any (eqb q) xs ≡ true → q < n
one_of n [] all q e = absurd (false≢true e)
one_of n (x ∷ xs) all q e = one_by n q x (eqb q x) (list_any (eqb q) xs) refl all.0 (one_of n xs all.1 q) e

module _ (net : Network) (limits : IsNetwork net) where
  heads_within : (u v : ℕ) (walk : List ArcId) → IsWalk net.arcs u v walk → AllByRecursion (λ w. w < net.nodes) (heads_of net.arcs walk)
  heads_within u v [] path = tt
  heads_within u v (a ∷ rest) path = ((limits.each_arc a.0 no_arc path.0).head, heads_within (arc_at net.arcs a).head.0 v rest path.2)

  -- a walk that comes to no node twice has fewer arcs than there are nodes
  pub few_arcs : (u v : ℕ) (walk : List ArcId) → u < net.nodes → IsWalk net.arcs u v walk → RepeatsNoNode net.arcs u walk → length walk < net.nodes
  few_arcs u v walk lt path simple =
      let all = length-le_from_distinct_below (u ∷ heads_of net.arcs walk) net.nodes (distinct net.arcs u walk simple)
      (one_of net.nodes (u ∷ heads_of net.arcs walk) (lt, heads_within u v walk path)) in
      omega (arith, all, length-map walk (λ a. (arc_at net.arcs a).head.0))

  cost_by_arcs : (u v : ℕ) (walk : List ArcId) → IsWalk net.arcs u v walk → walk_cost net.arcs walk ≤ 1000000 * length walk
  cost_by_arcs u v [] path = omega arith
  cost_by_arcs u v (a ∷ rest) path =
      omega (arith, walk_cost-cons net.arcs a rest, (limits.each_arc a.0 no_arc path.0).cost, cost_by_arcs (arc_at net.arcs a).head.0 v rest path.2)

  -- a least cost is one of at most 999 arcs
  pub least_below : (with_tolls : Bool) (u v cost : ℕ) → u < net.nodes → IsLeast net.arcs with_tolls u v cost → cost < 1000000000
  least_below with_tolls u v cost lt is =
      let cut = cut_down net.arcs with_tolls v u is.attained.0 is.attained.1 in
      let arcs = few_arcs u v cut.0 lt cut.1.leads.path cut.1.simple in
      omega (arith, is.least cut.0 cut.1.leads, cost_by_arcs u v cut.0 cut.1.leads.path, arcs, limits.nodes)

-- the least toll-free cost of a commodity fits 32 bits
pub free_below : (net : Network) → IsNetwork net → (k : Commodity) → IsCommodity net.nodes k → (s : Span) → IsSpan net.arcs k s → s.free < 1000000000
free_below net limits k ends s is = least_below net limits false k.origin.0 k.destination.0 s.free ends.origin is.free_least
