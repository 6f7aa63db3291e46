-- The label that is taken is useful, and none of the labels before it is the same.
use Rattle.std.proofs.Common.{◌≡◌, inl, inr, ℕ, ◌+◌, ◌<◌, true, false, List, [], ◌∷◌, ◌++◌, length, Option, Some, refl, sym, ◌∙◌, ap, subst, arith, nat_lt, Contains}
use Rattle.std.proofs.lemmas.Bool.{cases_eq}
use Rattle.std.proofs.lemmas.List.{length-append}
use Rattle.std.specs.Int.{bit_at}
use Rattle.npp_net.specs.declared.types.Commodity.{Commodity}
use Rattle.npp_net.specs.Network.{Network, IsNetwork, IsCommodity}
use Rattle.npp_net.specs.Distance.{IsLeast, IsDistance}
use Rattle.npp_net.specs.TollSets.{size_of}
use Rattle.npp_cover.specs.declared.label.Label.{Label}
use Rattle.npp_cover.specs.Labels.{label_at}
use Rattle.npp_cover.specs.Useful.{CanWin, IsPairAt, Dominates, IsUsefulLabel}
use Rattle.npp_cover.specs.Fault.{is_below, is_dominated}
use Rattle.npp_cover.specs.Needed.{NeededValue, AreNeeded}
use Rattle.npp_cover.specs.Closed.{GoesBy, IsDominated, AreFaultless}
use Rattle.npp_cover.proofs.ClosureLemmas.{head_within}
use Rattle.npp_cover.proofs.FaultLemmas.{faultless_more, by_place, before, at_end, wins_by}
use Rattle.npp_labels.specs.declared.pending.Pending.{Pending}
use Rattle.npp_labels.specs.Order.{IsNoLater}
use Rattle.npp_labels.specs.Useful.{IsAs, AreUseful}
use Rattle.npp_labels.specs.declared.pending.Taken.{Taken}
use Rattle.npp_labels.specs.Search.{IsPending, TakesFirst, arc_of, label_of}
use Rattle.npp_labels.proofs.SizeLemmas.{size_le, size_same}
use Rattle.npp_labels.proofs.PendingLemmas.{contains_first, contains_cases}
use Rattle.npp_labels.proofs.BehindLemmas.{front}
use Rattle.npp_labels.proofs.ChainLemmas.{then_up, fresh_by}
use Rattle.npp_labels.proofs.FrontierLemmas.{IsFrontier, pair_meets}
use Rattle.npp_labels.proofs.Searching.{IsSearching, not_dominated, pair_of, first_start, test_of_lt}
use Rattle.npp_cover.proofs.StandLemmas.{keeps_tolls}

module _ (net : Network) (limits : IsNetwork net) (k : Commodity) (ends : IsCommodity net.nodes k) (free : ℕ) (onward : ℕ → Option ℕ)
    (distances : (v : ℕ) → v < net.nodes → IsDistance net.arcs true v k.destination.0 (onward v))
    (needed : NeededValue) (known_needed : AreNeeded net.arcs onward free net.nodes needed)
    (labels : List Label) (old new : List Pending) (t : Taken) (known : IsSearching net k free onward needed labels old)
    (takes : TakesFirst net.arcs onward free needed labels new t) where
  abbrev pub p : Pending
  p = t.waited

  abbrev pub l : Label
  l = label_of net.arcs labels p

  valid_p : IsPending net.arcs onward free labels p
  valid_p = (takes.waiting.each p (contains_first p new)).pending

  none_dominates : IsDominated labels l.node.0 l.tolls l.cost → ⊥
  none_dominates found =
      not_dominated labels l.node.0 l.tolls l.cost
      (subst (λ (x : Label). is_dominated labels x.node.0 x.tolls x.cost ≡ false) takes.label takes.undominated) found

  parent_range : p.parent < length labels
  parent_range = valid_p.parent

  -- a label on the way to the parent, at the head of the arc, would dominate it
  goes : GoesBy net.arcs (length labels) l (label_at labels p.parent) (arc_of p)
  goes = record {
    lower = parent_range;
    in_range = valid_p.in_range;
    tail = valid_p.tail;
    fresh = λ toll has.
        let way = fresh_by net.arcs k.origin labels known.good.each p.parent (arc_of p) parent_range valid_p.in_range toll has in
        none_dominates (
          way.0,
          record {
            in_range = omega (arith, way.1.lower, parent_range);
            there = way.1.there;
            dominates = record {
              within = λ b has'. keeps_tolls net.arcs (label_at labels p.parent).tolls (arc_of p) b (way.1.up.within b has');
              cheaper = omega (arith, way.1.up.cheaper);
            };
          },
        );
    same = refl;
  }

  abbrev more : ℕ
  more = valid_p.extends.bound.0

  onward_l : onward l.node.0 ≡ Some more
  onward_l = ap onward (sym valid_p.extends.node) ∙ valid_p.extends.bound.1

  bound_l : p.bound ≡ l.cost + more
  bound_l = omega (arith, valid_p.extends.bound.2, valid_p.extends.cost)

  node_l : l.node.0 < net.nodes
  node_l = head_within net (arc_of p) limits valid_p.in_range

  below_l : nat_lt (l.cost + more) free ≡ true
  below_l = test_of_lt (l.cost + more) free (omega (arith, bound_l, valid_p.extends.wins))

  wins_l : CanWin net.arcs k free l.node.0 l.cost
  wins_l = wins_by net.arcs k free l.node.0 l.cost (onward l.node.0) (distances l.node.0 node_l)
      (ap (λ (o : Option ℕ). is_below free l.cost o) onward_l ∙ below_l)

  least_l : IsLeast net.arcs true l.node.0 k.destination.0 more
  least_l = subst (λ (o : Option ℕ). IsDistance net.arcs true l.node.0 k.destination.0 o) onward_l (distances l.node.0 node_l)

  abbrev pub all : List Label
  all = labels ++ l ∷ []

  pub good_all : AreFaultless net k free all
  good_all = faultless_more net k free labels l known.good parent_range goes wins_l node_l

  count_all : length all ≡ length labels + 1
  count_all = length-append labels (l ∷ [])

  no_later : (q : Pending) → Contains (p ∷ new) q → IsNoLater p q
  no_later q h = elim (contains_cases p q new h) [
    | inl e ↦ subst (λ (x : Pending). IsNoLater p x) (sym e) (record { bound = omega arith; size = λ same. omega arith })
    | inr h' ↦ subst (λ (x : Pending). IsNoLater p x) h'.2 (takes.first h'.0 q h'.1)
  ]

  front_rest : IsFrontier net.arcs k free onward labels (p ∷ new)
  front_rest = front net limits k free onward distances needed known_needed labels known.good (p ∷ new) takes.waiting

  minimal_l : (s c : ℕ) → IsPairAt net.arcs k free l.node.0 s c → Dominates s c l.tolls l.cost → (s ≡ l.tolls) × (c ≡ l.cost)
  minimal_l s c pair up =
      elim (pair_meets net.arcs net.nodes (λ a lt. head_within net a limits lt) k free onward distances labels (p ∷ new) front_rest l.node.0 s c more known.some
      (first_start net k free labels known.good known.some) pair least_l) [
        | inl found ↦ absurd (none_dominates (
          found.0,
          record {
            in_range = found.1.in_range;
            there = found.1.there;
            dominates = then_up (label_at labels found.0).tolls (label_at labels found.0).cost s c l.tolls l.cost found.1.dominates up;
          },
        ))
        | inr ahead ↦
            let before' = ahead.2 in
            let behind = before'.waits.2 in
            let later = no_later before'.waits.0 before'.waits.1 in
            let even : p.bound ≡ before'.waits.0.bound = omega (arith, later.bound, behind.bound, before'.most, bound_l, up.cheaper) in
            let even' : before'.waits.0.bound ≡ ahead.0 = omega (arith, later.bound, behind.bound, before'.most, bound_l, up.cheaper) in
            let size_p : p.size ≡ size_of l.tolls = valid_p.extends.size ∙ ap (λ (n : ℕ). size_of n) valid_p.extends.set in (
              size_same s l.tolls up.within (omega (arith, later.size even, behind.size even', size_p, size_le ahead.1 s before'.within)),
              omega (arith, later.bound, behind.bound, before'.most, bound_l, up.cheaper),
            )
      ]

  useful_l : IsUsefulLabel net.arcs k free l.node.0 l.tolls l.cost
  useful_l = record {
    pair = subst (λ (x : Label). IsPairAt net.arcs k free x.node.0 x.tolls x.cost) (at_end labels l)
        (pair_of net k free all good_all (length labels) (omega (arith, count_all)));
    minimal = minimal_l;
  }

  not_as : (i : ℕ) → i < length labels → IsAs (label_at labels i) l.node.0 l.tolls l.cost → ⊥
  not_as i lt as' = none_dominates (
    i,
    record {
      in_range = lt;
      there = as'.node;
      dominates = record { within = λ b has. ap (λ (s : ℕ). bit_at s b) (sym as'.tolls) ∙ has; cheaper = omega (arith, as'.cost) };
    },
  )

  as_back : (x y : Label) → IsAs x y.node.0 y.tolls y.cost → IsAs y x.node.0 x.tolls x.cost
  as_back x y h = record { node = sym h.node; tolls = sym h.tolls; cost = sym h.cost }

  once_all : (i j : ℕ) → i < length all → j < length all → IsAs (label_at all i) (label_at all j).node.0 (label_at all j).tolls (label_at all j).cost → i ≡ j
  once_all i j li lj same = elim (cases_eq i (length labels)) [
    | inl ei ↦ elim (cases_eq j (length labels)) [
      | inl ej ↦ ei ∙ sym ej
      | inr nj ↦
          let lt : j < length labels = omega (arith, count_all) in
          let at_i : label_at all i ≡ l = ap (λ (m : ℕ). label_at all m) ei ∙ at_end labels l in
          absurd (not_as j lt (as_back l (label_at labels j)
          (subst (λ (x : Label). IsAs x (label_at labels j).node.0 (label_at labels j).tolls (label_at labels j).cost) at_i
          (subst (λ (x : Label). IsAs (label_at all i) x.node.0 x.tolls x.cost) (before labels l j lt) same))))
    ]
    | inr ni ↦
        let lt : i < length labels = omega (arith, count_all) in
        let here : IsAs (label_at labels i) (label_at all j).node.0 (label_at all j).tolls (label_at all j).cost =
        subst (λ (x : Label). IsAs x (label_at all j).node.0 (label_at all j).tolls (label_at all j).cost) (before labels l i lt) same in
        elim (cases_eq j (length labels)) [
          | inl ej ↦
              let at_j : label_at all j ≡ l = ap (λ (m : ℕ). label_at all m) ej ∙ at_end labels l in
              absurd (not_as i lt (subst (λ (x : Label). IsAs (label_at labels i) x.node.0 x.tolls x.cost) at_j here))
          | inr nj ↦
              let lt' : j < length labels = omega (arith, count_all) in
              known.useful.once i j lt lt' (subst (λ (x : Label). IsAs (label_at labels i) x.node.0 x.tolls x.cost) (before labels l j lt') here)
        ]
  ]

  pub useful_all : AreUseful net.arcs k free all
  useful_all = record {
    each = by_place labels l (λ i x. IsUsefulLabel net.arcs k free x.node.0 x.tolls x.cost) known.useful.each useful_l;
    once = once_all;
  }
