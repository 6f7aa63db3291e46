-- What is known when one more label is taken.
use Rattle.std.proofs.Common.{◌≡◌, inl, inr, ◌⊎◌, ℕ, ◌+◌, ◌-◌, ◌<◌, ◌≤◌, true, false, List, [], ◌∷◌, ◌++◌, length, get_or, Option, sym, ◌∙◌, ap, subst, arith}
use Rattle.std.proofs.lemmas.List.{length-append}
use Rattle.std.specs.Int.{bit_at}
use Rattle.npp_net.specs.declared.types.ArcId.{ArcId}
use Rattle.npp_net.specs.declared.types.Commodity.{Commodity}
use Rattle.npp_net.specs.Network.{Network, IsNetwork, IsCommodity, arc_at}
use Rattle.npp_net.specs.Distance.{IsDistance}
use Rattle.npp_cover.specs.declared.label.Label.{Label}
use Rattle.npp_cover.specs.Labels.{label_at, with_arc}
use Rattle.npp_cover.specs.Useful.{Dominates}
use Rattle.npp_cover.specs.Closed.{IsDominated}
use Rattle.npp_cover.proofs.ClosureLemmas.{head_within}
use Rattle.npp_cover.proofs.FaultLemmas.{before, at_end}
use Rattle.npp_labels.specs.declared.pending.Pending.{Pending}
use Rattle.npp_labels.specs.Useful.{HasTooMany}
use Rattle.npp_labels.specs.declared.pending.Taken.{Taken}
use Rattle.npp_cover.specs.declared.needed.NeededArc.{NeededArc}
use Rattle.npp_cover.specs.Fault.{can_win, has_arc}
use Rattle.npp_cover.specs.Needed.{NeededValue, needed_at, id_of, no_needed, AreNeeded}
use Rattle.npp_labels.specs.Search.{IsExtension, IsPending, IsWaiting, IsTried, AreWaiting, Advances, TakesFirst, ways_of, way_at, arc_of, label_of}
use Rattle.npp_labels.proofs.PendingLemmas.{contains_first}
use Rattle.npp_labels.proofs.WaitLemmas.{waiting_next, waiting_one_more}
use Rattle.npp_labels.proofs.Searching.{IsSearching}
use Rattle.npp_labels.proofs.TakenLemmas.{good_all, useful_all}

-- the label of one that waited is there, with the arcs that it has left
pub record IsParentThere (nodes : ℕ) (needed : NeededValue) (labels : List Label) (w : Pending) : Type 0 where
  pub in_range : w.parent < length labels
  pub node : (label_at labels w.parent).node.0 < nodes
  pub some : 0 < w.left
  pub left : w.left ≤ length (ways_of needed labels w.parent)

module _ (net : Network) (limits : IsNetwork net) (k : Commodity) (ends : IsCommodity net.nodes k) (free : ℕ) (onward : ℕ → Option ℕ)
    (distances : (v : ℕ) → v < net.nodes → IsDistance net.arcs true v k.destination.0 (onward v)) where
  module _ (needed : NeededValue) (known_needed : AreNeeded net.arcs onward free net.nodes needed) where
    module _ (labels : List Label) (old new : List Pending) (t : Taken) (known : IsSearching net k free onward needed labels old)
        (takes : TakesFirst net.arcs onward free needed labels new t) where
      abbrev p : Pending
      p = t.waited

      abbrev l : Label
      l = label_of net.arcs labels p

      abbrev all : List Label
      all = labels ++ l ∷ []

      valid_p : IsWaiting net.arcs onward free needed labels p
      valid_p = takes.waiting.each p (contains_first p new)

      count_all : length all ≡ length labels + 1
      count_all = length-append labels (l ∷ [])

      dominated_more : (v s c : ℕ) → IsDominated labels v s c → IsDominated all v s c
      dominated_more v s c found = (
        found.0,
        record {
          in_range = omega (arith, found.1.in_range, count_all);
          there = ap (λ (x : Label). x.node.0) (before labels l found.0 found.1.in_range) ∙ found.1.there;
          dominates = subst (λ (x : Label). Dominates x.tolls x.cost s c) (sym (before labels l found.0 found.1.in_range)) found.1.dominates;
        },
      )

      pending_more : (q : Pending) → IsPending net.arcs onward free labels q → IsPending net.arcs onward free all q
      pending_more q is = record {
        parent = omega (arith, is.parent, count_all);
        in_range = is.in_range;
        tail = is.tail ∙ ap (λ (x : Label). x.node.0) (sym (before labels l q.parent is.parent));
        extends = subst (λ (x : Label). IsExtension net.arcs onward free x q.parent (arc_of q) q) (sym (before labels l q.parent is.parent)) is.extends;
      }

      waiting_more : (q : Pending) → IsWaiting net.arcs onward free needed labels q → IsWaiting net.arcs onward free needed all q
      waiting_more q is =
          let same : label_at all q.parent ≡ label_at labels q.parent = before labels l q.parent is.pending.parent in
          let ways : ways_of needed all q.parent ≡ ways_of needed labels q.parent = ap (λ (x : Label). needed_at needed x.node.0) same in
          record {
            pending = pending_more q is.pending;
            some = is.some;
            within = omega (arith, is.within, ap (λ (xs : List NeededArc). length xs) ways);
            here = is.here ∙ ap (λ (xs : List NeededArc). id_of (get_or xs (length xs - q.left) no_needed)) (sym ways);
            fresh = ap (λ (x : Label). has_arc net.arcs x.tolls (arc_of q)) same ∙ is.fresh;
          }

      tried_more : (i : ℕ) (a : ArcId) → i < length labels → IsTried net.arcs onward free labels i a → IsTried net.arcs onward free all i a
      tried_more i a lt tried =
          subst (λ (x : Label). (can_win onward free (arc_at net.arcs a).head.0 (x.cost + (arc_at net.arcs a).cost) ≡ false)
          ⊎ ((has_arc net.arcs x.tolls a ≡ true) ⊎ IsDominated all (arc_at net.arcs a).head.0 (with_arc net.arcs x.tolls a) (x.cost + (arc_at net.arcs a).cost)))
          (sym (before labels l i lt))
          (elim tried [
            | inl cannot ↦ inl cannot
            | inr rest ↦ elim rest [
              | inl has ↦ inr (inl has)
              | inr found ↦ inr (inr (dominated_more (arc_at net.arcs a).head.0 (with_arc net.arcs (label_at labels i).tolls a) ((label_at labels i).cost + (arc_at net.arcs a).cost) found))
            ]
          ])

      p_dominated : IsDominated all p.node p.set p.cost
      p_dominated = (
        length labels,
        record {
          in_range = omega (arith, count_all);
          there = ap (λ (x : Label). x.node.0) (at_end labels l) ∙ sym valid_p.pending.extends.node;
          dominates = subst (λ (x : Label). Dominates x.tolls x.cost p.set p.cost) (sym (at_end labels l))
              (record { within = λ b has. ap (λ (s : ℕ). bit_at s b) valid_p.pending.extends.set ∙ has; cheaper = omega (arith, valid_p.pending.extends.cost) });
        },
      )

      still_waiting : AreWaiting net.arcs onward free needed all (length labels) (p ∷ new)
      still_waiting = record {
        each = λ q h. waiting_more q (takes.waiting.each q h);
        tried = λ i j lt within.
            let same : label_at all i ≡ label_at labels i = before labels l i lt in
            let ways : ways_of needed all i ≡ ways_of needed labels i = ap (λ (x : Label). needed_at needed x.node.0) same in
            let way : way_at needed all i j ≡ way_at needed labels i j = ap (λ (xs : List NeededArc). id_of (get_or xs j no_needed)) ways in
            let size : length (ways_of needed all i) ≡ length (ways_of needed labels i) = ap (λ (xs : List NeededArc). length xs) ways in
            elim (takes.waiting.tried i j lt (omega (arith, size))) [
              | inl done ↦ inl (subst (λ (a : ArcId). IsTried net.arcs onward free all i a) (sym way) (tried_more i (way_at needed labels i j) lt done))
              | inr w ↦ inr (w.0, w.1, w.2, omega (arith, w.3, size))
            ];
      }

      module _ (mid final : List Pending) (few : length labels < 65536) (first : Advances net.arcs onward free needed all p.parent (p.left - 1) new mid)
          (second : Advances net.arcs onward free needed all (length labels) (length (ways_of needed all (length labels))) mid final) where
        pub searching_more : IsSearching net k free onward needed all final
        searching_more = record {
          good = good_all net limits k ends free onward distances needed known_needed labels old new t known takes;
          some = omega (arith, count_all);
          few = omega (arith, count_all);
          useful = useful_all net limits k ends free onward distances needed known_needed labels old new t known takes;
          waiting = subst (λ (n : ℕ). AreWaiting net.arcs onward free needed all n final) (sym count_all)
              (waiting_one_more net.arcs onward free needed all (length labels) mid final
              (waiting_next net.arcs onward free needed all (length labels) p new mid still_waiting p_dominated first) second);
        }

    -- ---- the same of a label that was taken, as it is

    pub node_within : (labels : List Label) (new : List Pending) (t : Taken) → TakesFirst net.arcs onward free needed labels new t → t.label.node.0 < net.nodes
    node_within labels new t takes =
        subst (λ (y : Label). y.node.0 < net.nodes) (sym takes.label)
        (head_within net (arc_of t.waited) limits (takes.waiting.each t.waited (contains_first t.waited new)).pending.in_range)

    pub too_many : (labels : List Label) (old new : List Pending) (t : Taken) → IsSearching net k free onward needed labels old → TakesFirst net.arcs onward free needed labels new t
        → length labels ≡ 65536 → HasTooMany net.arcs k free
    too_many labels old new t known takes full = (
      labels ++ label_of net.arcs labels t.waited ∷ [],
      omega (arith, length-append labels (label_of net.arcs labels t.waited ∷ [])),
      useful_all net limits k ends free onward distances needed known_needed labels old new t known takes,
    )

    pub searching_next : (labels next : List Label) (old new mid final : List Pending) (t : Taken) (n : ℕ) → IsSearching net k free onward needed labels old
        → TakesFirst net.arcs onward free needed labels new t → n ≡ length labels → (n ≡ 65536 → ⊥) → next ≡ labels ++ t.label ∷ []
        → Advances net.arcs onward free needed next t.waited.parent (t.waited.left - 1) new mid
        → Advances net.arcs onward free needed next n (length (ways_of needed next n)) mid final → IsSearching net k free onward needed next final
    searching_next labels next old new mid final t n known takes is_n more is_next first second =
        let l : Label = label_of net.arcs labels t.waited in
        let same : next ≡ labels ++ l ∷ [] = is_next ∙ ap (λ (y : Label). labels ++ y ∷ []) takes.label in
        subst (λ (xs : List Label). IsSearching net k free onward needed xs final) (sym same)
        (searching_more labels old new t known takes mid final (omega (arith, known.few))
        (subst (λ (xs : List Label). Advances net.arcs onward free needed xs t.waited.parent (t.waited.left - 1) new mid) same first)
        (subst (λ (xs : List Label). Advances net.arcs onward free needed xs (length labels) (length (ways_of needed xs (length labels))) mid final) same
        (subst (λ (m : ℕ). Advances net.arcs onward free needed next m (length (ways_of needed next m)) mid final) is_n second)))

    pub parent_there : (labels next : List Label) (old new : List Pending) (t : Taken) → IsSearching net k free onward needed labels old
        → TakesFirst net.arcs onward free needed labels new t → next ≡ labels ++ t.label ∷ [] → IsParentThere net.nodes needed next t.waited
    parent_there labels next old new t known takes is_next =
        let wait = takes.waiting.each t.waited (contains_first t.waited new) in
        let same : label_at next t.waited.parent ≡ label_at labels t.waited.parent =
        ap (λ (xs : List Label). label_at xs t.waited.parent) is_next ∙ before labels t.label t.waited.parent wait.pending.parent in
        record {
          in_range = omega (arith, wait.pending.parent, ap (λ (xs : List Label). length xs) is_next, length-append labels (t.label ∷ []));
          node = omega (arith, known.good.nodes t.waited.parent wait.pending.parent, ap (λ (x : Label). x.node.0) same);
          some = wait.some;
          left = omega (arith, wait.within, ap (λ (x : Label). length (needed_at needed x.node.0)) same);
        }
