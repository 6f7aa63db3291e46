-- An instance with useful covers has measures: between two nodes there is a least cost or no walk. It is found by allowing one more
-- arc after another: a walk by a new arc goes to it for the first time and on from it for the last time by the old ones.
use Rattle.std.specs.Prelude.{◌≡◌, ◌≢◌, ◌⊎◌, ℕ, zero, suc, ◌+◌, ◌<◌, ◌≤◌, true, List, [], ◌∷◌, ◌++◌, length, map, Option, Some, None, refl}
use Rattle.std.specs.List.{AllZip, range_with_len}
use Rattle.std.proofs.Common.{arith, ap, sym, ◌∙◌, subst, inl, inr, eq-or-lt_of_le, le_of_suc-le-suc}
use Rattle.std.proofs.lemmas.Bool.{cases_eq, cases_lt}
use Rattle.std.proofs.lemmas.List.FromFn.{length-map-range_with_len, get_or-map-range_with_len}
use Rattle.std.proofs.lemmas.List.Sums.{sum_by-append}
use Rattle.npp_net.specs.declared.types.ArcId.{ArcId}
use Rattle.npp_net.specs.declared.types.NetArc.{NetArc}
use Rattle.npp_net.specs.declared.types.Commodity.{Commodity}
use Rattle.npp_net.specs.declared.types.Span.{Span}
use Rattle.npp_net.specs.Distance.{IsUsableWalk, IsDistance}
use Rattle.npp_net.specs.Network.{Network, arc_at}
use Rattle.npp_net.specs.Walk.{IsWalk, walk_cost}
use Rattle.npp_bounds.specs.Spans.{AreSpans}
use Rattle.npp_cover.specs.Replaces.{CoverValue}
use Rattle.npp_cover.proofs.ReplaceLemmas.{walk_cost-cons}
use Rattle.npp_labels.specs.Covers.{IsUsefulCover, AreUsefulCovers}
use Rattle.npp_check.specs.Measures.{Measures, AreOnward, AreAllOnward, AreMeasures}

module _ (arcs : List NetArc) where
  -- a walk from u to v by arcs of numbers below n
  abbrev IsWalkBelow : ℕ → ℕ → ℕ → List ArcId → Type 0
  IsWalkBelow n u v [] = u ≡ v
  IsWalkBelow n u v (a ∷ rest) = (a.0 < n) × ((arc_at arcs a).tail.0 ≡ u) × IsWalkBelow n (arc_at arcs a).head.0 v rest

  record IsLeastBelow (n u v cost : ℕ) : Type 0 where
    attained : (walk : List ArcId) × IsWalkBelow n u v walk × (walk_cost arcs walk ≡ cost)
    least : (walk : List ArcId) → IsWalkBelow n u v walk → cost ≤ walk_cost arcs walk

  abbrev IsDistanceBelow : ℕ → ℕ → ℕ → Option ℕ → Type 0
  IsDistanceBelow n u v (Some cost) = IsLeastBelow n u v cost
  IsDistanceBelow n u v None = (walk : List ArcId) → IsWalkBelow n u v walk → ⊥

  more_arcs : (n u v : ℕ) (walk : List ArcId) → IsWalkBelow n u v walk → IsWalkBelow (suc n) u v walk
  more_arcs n u v [] h = h
  more_arcs n u v (a ∷ rest) h = (omega (arith, h.0), h.1, more_arcs n (arc_at arcs a).head.0 v rest h.2)

  joined : (n u w v : ℕ) (first second : List ArcId) → IsWalkBelow n u w first → IsWalkBelow n w v second → IsWalkBelow n u v (first ++ second)
  joined n u w v [] second h k = subst (λ (i : ℕ). IsWalkBelow n i v second) (sym h) k
  joined n u w v (a ∷ rest) second h k = (h.0, h.1, joined n (arc_at arcs a).head.0 w v rest second h.2 k)

  -- ---- one more arc

  module _ (n : ℕ) where
    abbrev new : ArcId
    new = record { 0 = n }

    -- a walk to the new arc and one on from it, which together cost no more
    record IsBy (u v cost : ℕ) : Type 0 where
      before : List ArcId
      behind : List ArcId
      comes : IsWalkBelow n u (arc_at arcs new).tail.0 before
      goes : IsWalkBelow n (arc_at arcs new).head.0 v behind
      costs : walk_cost arcs before + (arc_at arcs new).cost + walk_cost arcs behind ≤ cost

    by_or_not : (u v : ℕ) (walk : List ArcId) → IsWalkBelow (suc n) u v walk → IsWalkBelow n u v walk ⊎ IsBy u v (walk_cost arcs walk)
    by_or_not u v [] h = inl h
    by_or_not u v (b ∷ rest) h = by_arc (eq-or-lt_of_le (le_of_suc-le-suc h.0)) (by_or_not (arc_at arcs b).head.0 v rest h.2)
      where
        by_arc : (b.0 ≡ n) ⊎ (b.0 < n) → IsWalkBelow n (arc_at arcs b).head.0 v rest ⊎ IsBy (arc_at arcs b).head.0 v (walk_cost arcs rest)
            → IsWalkBelow n u v (b ∷ rest) ⊎ IsBy u v (walk_cost arcs (b ∷ rest))
        by_arc (inl e) (inl without) =
            let same : b ≡ new = λ i. record { 0 = e i } in
            inr (record {
              before = [];
              behind = rest;
              comes = sym h.1 ∙ ap (λ (x : ArcId). (arc_at arcs x).tail.0) same;
              goes = subst (λ (x : ArcId). IsWalkBelow n (arc_at arcs x).head.0 v rest) same without;
              costs = omega (arith, walk_cost-cons arcs b rest, ap (λ (x : ArcId). (arc_at arcs x).cost) same);
            })
        by_arc (inl e) (inr by) =
            let same : b ≡ new = λ i. record { 0 = e i } in
            inr (record {
              before = [];
              behind = by.behind;
              comes = sym h.1 ∙ ap (λ (x : ArcId). (arc_at arcs x).tail.0) same;
              goes = by.goes;
              costs = omega (arith, walk_cost-cons arcs b rest, ap (λ (x : ArcId). (arc_at arcs x).cost) same, by.costs);
            })
        by_arc (inr lt) (inl without) = inl (lt, h.1, without)
        by_arc (inr lt) (inr by) =
            inr (record {
              before = b ∷ by.before;
              behind = by.behind;
              comes = (lt, h.1, by.comes);
              goes = by.goes;
              costs = omega (arith, walk_cost-cons arcs b rest, walk_cost-cons arcs b by.before, by.costs);
            })

    -- a walk by the new arc
    by_new : (u v x y : ℕ) → IsLeastBelow n u (arc_at arcs new).tail.0 x → IsLeastBelow n (arc_at arcs new).head.0 v y
        → (walk : List ArcId) × IsWalkBelow (suc n) u v walk × (walk_cost arcs walk ≡ x + (arc_at arcs new).cost + y)
    by_new u v x y to on = (
      to.attained.0 ++ new ∷ on.attained.0,
      joined (suc n) u (arc_at arcs new).tail.0 v to.attained.0 (new ∷ on.attained.0) (more_arcs n u (arc_at arcs new).tail.0 to.attained.0 to.attained.1)
          (omega arith, refl, more_arcs n (arc_at arcs new).head.0 v on.attained.0 on.attained.1),
      omega (arith, sum_by-append (λ (b : ArcId). (arc_at arcs b).cost) to.attained.0 (new ∷ on.attained.0), walk_cost-cons arcs new on.attained.0, to.attained.2, on.attained.2),
    )

    kept : (u v c : ℕ) → IsLeastBelow n u v c → ((walk : List ArcId) → IsBy u v (walk_cost arcs walk) → c ≤ walk_cost arcs walk) → IsLeastBelow (suc n) u v c
    kept u v c is above = record {
      attained = (is.attained.0, more_arcs n u v is.attained.0 is.attained.1, is.attained.2);
      least = λ walk h. elim (by_or_not u v walk h) [
        | inl without ↦ is.least walk without
        | inr by ↦ above walk by
      ];
    }

    next : (u v : ℕ) (o p q : Option ℕ) → IsDistanceBelow n u v o → IsDistanceBelow n u (arc_at arcs new).tail.0 p → IsDistanceBelow n (arc_at arcs new).head.0 v q
        → (r : Option ℕ) × IsDistanceBelow (suc n) u v r
    next u v None None q old to on = (
      None,
      λ walk h. elim (by_or_not u v walk h) [
        | inl without ↦ old walk without
        | inr by ↦ to by.before by.comes
      ],
    )
    next u v None (Some x) None old to on = (
      None,
      λ walk h. elim (by_or_not u v walk h) [
        | inl without ↦ old walk without
        | inr by ↦ on by.behind by.goes
      ],
    )
    next u v None (Some x) (Some y) old to on = (
      Some (x + (arc_at arcs new).cost + y),
      record {
        attained = by_new u v x y to on;
        least = λ walk h. elim (by_or_not u v walk h) [
          | inl without ↦ absurd (old walk without)
          | inr by ↦ omega (arith, by.costs, to.least by.before by.comes, on.least by.behind by.goes)
        ];
      },
    )
    next u v (Some c) None q old to on = (Some c, kept u v c old (λ walk by. absurd (to by.before by.comes)))
    next u v (Some c) (Some x) None old to on = (Some c, kept u v c old (λ walk by. absurd (on by.behind by.goes)))
    next u v (Some c) (Some x) (Some y) old to on = elim (cases_lt (x + (arc_at arcs new).cost + y) c) [
      | inl lt ↦ (
        Some (x + (arc_at arcs new).cost + y),
        record {
          attained = by_new u v x y to on;
          least = λ walk h. elim (by_or_not u v walk h) [
            | inl without ↦ omega (arith, lt, old.least walk without)
            | inr by ↦ omega (arith, by.costs, to.least by.before by.comes, on.least by.behind by.goes)
          ];
        },
      )
      | inr le ↦ (Some c, kept u v c old (λ walk by. omega (arith, le, by.costs, to.least by.before by.comes, on.least by.behind by.goes)))
    ]

  -- ---- all arcs

  by_none : (u v : ℕ) → u ≢ v → (walk : List ArcId) → IsWalkBelow 0 u v walk → ⊥
  by_none u v ne [] h = ne h
  by_none u v ne (a ∷ rest) h = omega (arith, h.0)

  found_below : (n u v : ℕ) → (o : Option ℕ) × IsDistanceBelow n u v o
  found_below zero u v = elim (cases_eq u v) [
    | inl e ↦ (Some 0, record { attained = ([], e, omega arith); least = λ walk h. omega arith })
    | inr ne ↦ (None, by_none u v ne)
  ]
  found_below (suc n) u v =
      let old = found_below n u v in
      let to = found_below n u (arc_at arcs (new n)).tail.0 in
      let on = found_below n (arc_at arcs (new n)).head.0 v in
      next n u v old.0 to.0 on.0 old.1 to.1 on.1

  below_all : (u v : ℕ) (walk : List ArcId) → IsWalk arcs u v walk → IsWalkBelow (length arcs) u v walk
  below_all u v [] h = h
  below_all u v (a ∷ rest) h = (h.0, h.1, below_all (arc_at arcs a).head.0 v rest h.2)

  all_below : (u v : ℕ) (walk : List ArcId) → IsWalkBelow (length arcs) u v walk → IsWalk arcs u v walk
  all_below u v [] h = h
  all_below u v (a ∷ rest) h = (h.0, h.1, all_below (arc_at arcs a).head.0 v rest h.2)

  usable : (walk : List ArcId) → IsUsableWalk true arcs walk
  usable [] = tt
  usable (a ∷ rest) = (tt, usable rest)

  as_distance : (u v : ℕ) (o : Option ℕ) → IsDistanceBelow (length arcs) u v o → IsDistance arcs true u v o
  as_distance u v None h = λ walk leads. h walk (below_all u v walk leads.path)
  as_distance u v (Some cost) h = record {
    attained = (h.attained.0, record { path = all_below u v h.attained.0 h.attained.1; usable = usable h.attained.0 }, h.attained.2);
    least = λ walk leads. h.least walk (below_all u v walk leads.path);
  }

  distance : ℕ → ℕ → Option ℕ
  distance u v = (found_below (length arcs) u v).0

  is_distance : (u v : ℕ) → IsDistance arcs true u v (distance u v)
  unfolding distance
  is_distance u v = as_distance u v (found_below (length arcs) u v).0 (found_below (length arcs) u v).1

  -- ---- measures

  onward_costs : ℕ → Commodity → List (Option ℕ)
  onward_costs nodes k = map (λ v. distance v k.destination.0) (range_with_len 0 nodes)

  are_onward : (nodes : ℕ) (k : Commodity) → AreOnward arcs nodes k (onward_costs nodes k)
  unfolding onward_costs
  are_onward nodes k = record {
    size = length-map-range_with_len (λ v. distance v k.destination.0) 0 nodes;
    each = λ v lt.
        subst (λ (o : Option ℕ). IsDistance arcs true v k.destination.0 o) (sym (get_or-map-range_with_len (λ v. distance v k.destination.0) 0 nodes v v None lt (omega arith)))
        (is_distance v k.destination.0);
  }

  all_onward : (nodes : ℕ) (ks : List Commodity) → (costs : List (List (Option ℕ))) × AreAllOnward arcs nodes ks costs
  all_onward nodes [] = ([], tt)
  all_onward nodes (k ∷ ks) = let rest = all_onward nodes ks in (onward_costs nodes k ∷ rest.0, (are_onward nodes k, rest.1))

  all_spans : (ks : List Commodity) (cs : List CoverValue) → AllZip (IsUsefulCover arcs) ks cs → (ss : List Span) × AreSpans arcs ks ss
  all_spans [] [] h = ([], tt)
  all_spans [] (c ∷ cs) h = absurd h
  all_spans (k ∷ ks) [] h = absurd h
  all_spans (k ∷ ks) (c ∷ cs) h = let rest = all_spans ks cs h.1 in (h.0.span ∷ rest.0, (h.0.is_span, rest.1))

-- an instance with useful covers has measures
pub some_measures : (net : Network) (covers : List CoverValue) → AreUsefulCovers net.arcs net.commodities covers → (f : Measures) × AreMeasures net f
some_measures net covers useful =
    let spans = all_spans net.arcs net.commodities covers useful in
    let onward = all_onward net.arcs net.nodes net.commodities in
    (record { spans = spans.0; onward = onward.0 }, record { spans = spans.1; onward = onward.1 })
