-- The needed arcs of a node, and what they stand for.
use Rattle.std.proofs.Common.{◌≡◌, inl, inr, ◌⊎◌, ℕ, ◌+◌, ◌<◌, ◌≤◌, Bool, true, false, List, [], ◌∷◌, ◌++◌, length, get_or, Option, Some, None, IfSome, MatchOption, All, Contains, IsPermutation, refl, sym, ◌∙◌, ap, subst, arith, nat_eq, nat_lt, ◌&&◌, ◌||◌, not}
use Rattle.std.proofs.lemmas.Bool.{cases_eq, and_parts, or_cases, false≢true, false_from_ne_true}
use Rattle.std.proofs.lemmas.Bool.Decides.{nat_tests}
use Rattle.std.proofs.lemmas.List.{get_or_default}
use Rattle.std.proofs.lemmas.List.Sorted.{All-permutation, Contains-permutation}
use Rattle.npp_cover.proofs.ClosureLemmas.{head_within}
use Rattle.std.specs.Ordering.{nat_cmp, ordering_then, is_lt}
use Rattle.std.specs.List.Sorted.{IsSorted}
use Rattle.std.specs.declared.cmp.Ordering.{Ordering}
use Rattle.std.proofs.lemmas.List.Elements.{All-append, All-cons, All-nil, Contains-push, Contains-append_left}
use Rattle.npp_net.specs.declared.types.ArcId.{ArcId}
use Rattle.npp_net.specs.declared.types.NetArc.{NetArc}
use Rattle.npp_net.specs.Network.{Network, IsNetwork, arc_at}
use Rattle.npp_net.specs.Ends.{leaving_arcs}
use Rattle.npp_net.proofs.EndLaws.{leaving_all}
use Rattle.npp_cover.specs.declared.needed.NeededArc.{NeededArc}
use Rattle.npp_cover.specs.Fault.{is_below, can_win}
use Rattle.npp_cover.specs.Needed.{id_of, no_needed, IsNeeded, IsNeededAs, StandsFor, IsNoDearer, Rises, AreNeededAt, AreArcs, spares, is_spared, is_needed}
use Rattle.npp_cover.proofs.TestLemmas.{equal_of_test, less_of_test, test_of_other, test_of_less, is_no}

abbrev pub no_id : ArcId
no_id = record { 0 = 0 }

-- the needed ones of the first n arcs are listed
pub record ListsNeeded (arcs : List NetArc) (onward : ℕ → Option ℕ) (free v : ℕ) (noted : List (Option ArcId)) (items : List ArcId) (n : ℕ) (es : List NeededArc) : Type 0 where
  pub each : All (IsNeeded arcs onward v) es
  pub listed : (j : ℕ) → j < n → is_needed arcs onward free noted (get_or items j no_id) ≡ true → (e : NeededArc) × Contains es e × (id_of e ≡ get_or items j no_id)

module _ (arcs : List NetArc) (onward : ℕ → Option ℕ) (free v : ℕ) (noted : List (Option ArcId)) (items : List ArcId) where
  pub lists_none : ListsNeeded arcs onward free v noted items 0 []
  lists_none = record { each = All-nil (IsNeeded arcs onward v); listed = λ j lt yes. absurd (omega arith) }

  pub lists_no : (n : ℕ) (es : List NeededArc) → is_needed arcs onward free noted (get_or items n no_id) ≡ false
      → ListsNeeded arcs onward free v noted items n es → ListsNeeded arcs onward free v noted items (n + 1) es
  lists_no n es no_need so_far = record {
    each = so_far.each;
    listed = λ j lt yes. elim (cases_eq j n) [
      | inl e ↦ absurd (false≢true (sym no_need ∙ (ap (λ (m : ℕ). is_needed arcs onward free noted (get_or items m no_id)) (sym e) ∙ yes)))
      | inr ne ↦ so_far.listed j (omega arith) yes
    ];
  }

  pub lists_one : (n : ℕ) (es : List NeededArc) (e : NeededArc) → (arc_at arcs (get_or items n no_id)).tail.0 ≡ v → IsNeededAs arcs onward (get_or items n no_id) e
      → ListsNeeded arcs onward free v noted items n es → ListsNeeded arcs onward free v noted items (n + 1) (es ++ e ∷ [])
  lists_one n es e tail is so_far = record {
    each = All-append (IsNeeded arcs onward v) es (e ∷ []) so_far.each
        (All-cons (IsNeeded arcs onward v) e [] (subst (λ (u : ℕ). IsNeeded arcs onward u e) tail is.needed) (All-nil (IsNeeded arcs onward v)));
    listed = λ j lt yes. elim (cases_eq j n) [
      | inl same ↦ (
        e,
        Contains-push es e,
        ap (λ (m : ℕ). (let b : ArcId = record { 0 = m } in b)) is.arc ∙ ap (λ (m : ℕ). get_or items m no_id) (sym same),
      )
      | inr ne ↦
          let had = so_far.listed j (omega arith) yes in
          (had.0, Contains-append_left es (e ∷ []) had.0 had.1, had.2)
    ];
  }

  pub lists_next : (n : ℕ) (es now : List NeededArc) (o : Option NeededArc) → (arc_at arcs (get_or items n no_id)).tail.0 ≡ v
      → MatchOption o (is_needed arcs onward free noted (get_or items n no_id) ≡ false) (IsNeededAs arcs onward (get_or items n no_id))
      → MatchOption o (now ≡ es) (λ e. now ≡ es ++ e ∷ [])
      → ListsNeeded arcs onward free v noted items n es → ListsNeeded arcs onward free v noted items (n + 1) now
  lists_next n es now None tail no_need same so_far =
      subst (λ (xs : List NeededArc). ListsNeeded arcs onward free v noted items (n + 1) xs) (sym same) (lists_no n es no_need so_far)
  lists_next n es now (Some e) tail is same so_far =
      subst (λ (xs : List NeededArc). ListsNeeded arcs onward free v noted items (n + 1) xs) (sym same) (lists_one n es e tail is so_far)

-- what an arc that makes another needless is
record IsSparer (arcs : List NetArc) (b a : ArcId) : Type 0 where
  pub free : (arc_at arcs b).toll ≡ false
  pub tail : (arc_at arcs b).tail.0 ≡ (arc_at arcs a).tail.0
  pub head : (arc_at arcs b).head.0 ≡ (arc_at arcs a).head.0
  pub cost : (arc_at arcs b).cost ≤ (arc_at arcs a).cost

module _ (arcs : List NetArc) where
  cost_by : (b a : ArcId) → (nat_lt (arc_at arcs b).cost (arc_at arcs a).cost
      || (nat_eq (arc_at arcs b).cost (arc_at arcs a).cost && ((arc_at arcs a).toll || nat_lt b.0 a.0))) ≡ true → (arc_at arcs b).cost ≤ (arc_at arcs a).cost
  cost_by b a e = elim (or_cases (nat_lt (arc_at arcs b).cost (arc_at arcs a).cost) (nat_eq (arc_at arcs b).cost (arc_at arcs a).cost && ((arc_at arcs a).toll || nat_lt b.0 a.0)) e) [
    | inl lt ↦ omega (arith, less_of_test (arc_at arcs b).cost (arc_at arcs a).cost lt)
    | inr even ↦
        let parts = and_parts (nat_eq (arc_at arcs b).cost (arc_at arcs a).cost) ((arc_at arcs a).toll || nat_lt b.0 a.0) even in
        omega (arith, equal_of_test (arc_at arcs b).cost (arc_at arcs a).cost parts.0)
  ]

  sparer : (b a : ArcId) → spares arcs b a ≡ true → IsSparer arcs b a
  sparer b a e =
      let x : NetArc = arc_at arcs b in
      let y : NetArc = arc_at arcs a in
      let last : Bool = nat_lt x.cost y.cost || (nat_eq x.cost y.cost && (y.toll || nat_lt b.0 a.0)) in
      let one = and_parts (not x.toll && nat_eq x.tail.0 y.tail.0 && nat_eq x.head.0 y.head.0) last e in
      let two = and_parts (not x.toll && nat_eq x.tail.0 y.tail.0) (nat_eq x.head.0 y.head.0) one.0 in
      let three = and_parts (not x.toll) (nat_eq x.tail.0 y.tail.0) two.0 in
      record {
        free = is_no x.toll three.0;
        tail = equal_of_test x.tail.0 y.tail.0 three.1;
        head = equal_of_test x.head.0 y.head.0 two.1;
        cost = cost_by b a one.1;
      }

  -- no arc makes itself needless
  not_itself : (a : ArcId) → spares arcs a a ≡ true → ⊥
  not_itself a e =
      let x : NetArc = arc_at arcs a in
      let free = (sparer a a e).free in
      let last : Bool = nat_lt x.cost x.cost || (nat_eq x.cost x.cost && (x.toll || nat_lt a.0 a.0)) in
      let one = and_parts (not x.toll && nat_eq x.tail.0 x.tail.0 && nat_eq x.head.0 x.head.0) last e in
      elim (or_cases (nat_lt x.cost x.cost) (nat_eq x.cost x.cost && (x.toll || nat_lt a.0 a.0)) one.1) [
        | inl lt ↦ omega (arith, less_of_test x.cost x.cost lt)
        | inr even ↦ elim (or_cases x.toll (nat_lt a.0 a.0) (and_parts (nat_eq x.cost x.cost) (x.toll || nat_lt a.0 a.0) even).1) [
          | inl toll ↦ false≢true (sym free ∙ toll)
          | inr lt ↦ omega (arith, less_of_test a.0 a.0 lt)
        ]
      ]

-- a cheaper way on can win too
pub below_less : (free cost less : ℕ) (o : Option ℕ) → less ≤ cost → is_below free cost o ≡ true → is_below free less o ≡ true
below_less free cost less None le e = e
below_less free cost less (Some more) le e = test_of_less (less + more) free (omega (arith, less_of_test (cost + more) free e))

three_yes : (loop wins spared : Bool) → loop ≡ false → wins ≡ true → spared ≡ false → (not loop && wins && not spared) ≡ true
three_yes true wins spared l w s = absurd (false≢true (sym l))
three_yes false true true l w s = absurd (false≢true (sym s))
three_yes false true false l w s = refl
three_yes false false spared l w s = absurd (false≢true w)

module _ (arcs : List NetArc) (onward : ℕ → Option ℕ) (free v : ℕ) (noted : List (Option ArcId)) (es : List NeededArc) (known : AreArcs arcs noted)
    (n : ℕ) (so_far : ListsNeeded arcs onward free v noted (leaving_arcs arcs v) n es) (whole : length (leaving_arcs arcs v) ≤ n) where
  -- an arc that passes the test is listed
  listed : (a : ArcId) → a.0 < length arcs → (arc_at arcs a).tail.0 ≡ v → is_needed arcs onward free noted a ≡ true → (e : NeededArc) × Contains es e × (id_of e ≡ a)
  listed a arc tail passes =
      let at = leaving_all arcs v a arc tail in
      let same : get_or (leaving_arcs arcs v) at.0 no_id ≡ a = get_or_default (leaving_arcs arcs v) at.0 no_id a at.1 ∙ at.2 in
      let had = so_far.listed at.0 (omega (arith, at.1)) (ap (λ (b : ArcId). is_needed arcs onward free noted b) same ∙ passes) in
      (had.0, had.1, had.2 ∙ same)

  no_loop : (a : ArcId) → (arc_at arcs a).tail.0 ≡ v → ((arc_at arcs a).head.0 ≡ v → ⊥) → nat_eq (arc_at arcs a).head.0 (arc_at arcs a).tail.0 ≡ false
  no_loop a tail ne = test_of_other (arc_at arcs a).head.0 (arc_at arcs a).tail.0 (λ e. ne (sym e ∙ tail))

  itself : (a : ArcId) (e : NeededArc) → id_of e ≡ a → StandsFor arcs a e
  itself a e same = record {
    head = ap (λ (b : ArcId). (arc_at arcs b).head.0) same;
    cost = omega (arith, ap (λ (b : ArcId). (arc_at arcs b).cost) same);
    tolls = inl same;
  }

  by_note : (a : ArcId) (o : Option ArcId) → get_or noted (arc_at arcs a).head.0 None ≡ o → (arc_at arcs a).head.0 < length noted → a.0 < length arcs
      → (arc_at arcs a).tail.0 ≡ v → ((arc_at arcs a).head.0 ≡ v → ⊥) → can_win onward free (arc_at arcs a).head.0 (arc_at arcs a).cost ≡ true
      → (spared : Bool) → is_spared arcs o a ≡ spared → (e : NeededArc) × Contains es e × StandsFor arcs a e
  by_note a o is lt arc tail ne wins false no_spare =
      let had = listed a arc tail
      (three_yes (nat_eq (arc_at arcs a).head.0 (arc_at arcs a).tail.0) (can_win onward free (arc_at arcs a).head.0 (arc_at arcs a).cost)
      (is_spared arcs (get_or noted (arc_at arcs a).head.0 None) a) (no_loop a tail ne) wins (ap (λ (p : Option ArcId). is_spared arcs p a) is ∙ no_spare)) in
      (had.0, had.1, itself a had.0 had.2)
  by_note a None is lt arc tail ne wins true spared = absurd (false≢true spared)
  by_note a (Some h) is lt arc tail ne wins true spared =
      let by = sparer arcs h a spared in
      let range : h.0 < length arcs = subst (λ (o : Option ArcId). IfSome o (λ b. b.0 < length arcs)) is (known (arc_at arcs a).head.0 None lt) in
      let wins' : can_win onward free (arc_at arcs h).head.0 (arc_at arcs h).cost ≡ true =
      ap (λ (u : ℕ). can_win onward free u (arc_at arcs h).cost) by.head
      ∙ below_less free (arc_at arcs a).cost (arc_at arcs h).cost (onward (arc_at arcs a).head.0) by.cost wins in
      let is' : get_or noted (arc_at arcs h).head.0 None ≡ Some h = ap (λ (u : ℕ). get_or noted u None) by.head ∙ is in
      let had = listed h range (by.tail ∙ tail)
      (three_yes (nat_eq (arc_at arcs h).head.0 (arc_at arcs h).tail.0) (can_win onward free (arc_at arcs h).head.0 (arc_at arcs h).cost)
      (is_spared arcs (get_or noted (arc_at arcs h).head.0 None) h) (no_loop h (by.tail ∙ tail) (λ e. ne (sym by.head ∙ e))) wins'
      (ap (λ (p : Option ArcId). is_spared arcs p h) is' ∙ false_from_ne_true (spares arcs h h) (not_itself arcs h))) in (
        had.0,
        had.1,
        record {
          head = ap (λ (b : ArcId). (arc_at arcs b).head.0) had.2 ∙ by.head;
          cost = omega (arith, ap (λ (b : ArcId). (arc_at arcs b).cost) had.2, by.cost);
          tolls = inr (ap (λ (b : ArcId). (arc_at arcs b).toll) had.2 ∙ by.free);
        },
      )

  pub stand_for_all : (a : ArcId) → a.0 < length arcs → (arc_at arcs a).tail.0 ≡ v → (arc_at arcs a).head.0 < length noted
      → can_win onward free (arc_at arcs a).head.0 (arc_at arcs a).cost ≡ true
      → ((arc_at arcs a).head.0 ≡ v) ⊎ ((e : NeededArc) × Contains es e × StandsFor arcs a e)
  stand_for_all a arc tail lt wins = elim (cases_eq (arc_at arcs a).head.0 v) [
    | inl loop ↦ inl loop
    | inr ne ↦ inr (by_note a (get_or noted (arc_at arcs a).head.0 None) refl lt arc tail ne wins (is_spared arcs (get_or noted (arc_at arcs a).head.0 None) a) refl)
  ]

-- ---- in order

abbrev pub cmp_needed : NeededArc → NeededArc → Ordering
cmp_needed x y =
    ordering_then (nat_cmp x.onward y.onward)
    (ordering_then (nat_cmp x.tolls y.tolls) (ordering_then (nat_cmp x.cost y.cost) (ordering_then (nat_cmp x.head y.head) (nat_cmp x.arc y.arc))))

no_dearer : (x y : NeededArc) → is_lt (cmp_needed y x) ≡ false → IsNoDearer x y
no_dearer x y not_less = record { onward = grind (arith, nat_tests); tolls = λ e. grind (arith, nat_tests) }

pub rises : (es : List NeededArc) → IsSorted cmp_needed es → Rises es
rises es sorted n lt = no_dearer (get_or es n no_needed) (get_or es (n + 1) no_needed) (sorted n no_needed (omega arith) lt)

-- the listed arcs, sorted
pub needed_all : (net : Network) → IsNetwork net → (onward : ℕ → Option ℕ) (free v : ℕ) (noted : List (Option ArcId)) (es sorted : List NeededArc) → AreArcs net.arcs noted
    → length noted ≡ net.nodes → {n : ℕ} → ListsNeeded net.arcs onward free v noted (leaving_arcs net.arcs v) n es → length (leaving_arcs net.arcs v) ≤ n → IsPermutation es sorted
    → IsSorted cmp_needed sorted → AreNeededAt net.arcs onward free v sorted
needed_all net limits onward free v noted es sorted known size {n} so_far whole moved in_order = record {
  each = All-permutation (IsNeeded net.arcs onward v) es sorted moved so_far.each;
  rising = rises sorted in_order;
  all = λ a arc tail wins.
      elim (stand_for_all net.arcs onward free v noted es known n so_far whole a arc tail (omega (arith, size, head_within net a limits arc)) wins) [
        | inl loop ↦ inl loop
        | inr found ↦ inr (found.0, Contains-permutation es sorted found.0 moved found.1, found.2)
      ];
}
