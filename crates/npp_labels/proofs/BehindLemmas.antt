-- Where each needed arc of each label was tried or waits, each extension that can win is dominated, or one waits that comes no
-- later.
use Rattle.std.proofs.Common.{◌≡◌, inl, inr, ◌⊎◌, ℕ, ◌+◌, ◌-◌, ◌<◌, ◌≤◌, Bool, true, false, cond, List, length, Option, Some, refl, sym, ◌∙◌, ap, subst, arith, get_or, Contains, ◌^◌, bit_or, nat_eq, ◌&&◌}
use Rattle.std.proofs.lemmas.Bool.{false≢true, and_parts, cases_Bool}
use Rattle.std.proofs.lemmas.Bool.Decides.{nat_tests}
use Rattle.std.specs.Option.{unwrap_or}
use Rattle.std.proofs.lemmas.Nat.Bits.{bit_at-lt}
use Rattle.std.proofs.lemmas.List.{get_or_default}
use Rattle.std.specs.Int.{bit_at}
use Rattle.npp_net.specs.declared.types.ArcId.{ArcId}
use Rattle.npp_net.specs.declared.types.NetArc.{NetArc}
use Rattle.npp_net.specs.declared.types.Commodity.{Commodity}
use Rattle.npp_net.specs.Network.{Network, IsNetwork, arc_at, toll_number}
use Rattle.npp_net.specs.Distance.{IsDistance}
use Rattle.npp_net.specs.TollSets.{size_of}
use Rattle.npp_cover.specs.declared.label.Label.{Label}
use Rattle.npp_cover.specs.declared.needed.NeededArc.{NeededArc}
use Rattle.npp_cover.specs.Labels.{label_at, with_arc}
use Rattle.npp_cover.specs.Fault.{is_below, can_win, has_arc}
use Rattle.npp_cover.specs.Closed.{IsDominated, AreFaultless}
use Rattle.npp_cover.specs.Needed.{NeededValue, id_of, no_needed, IsNeeded, StandsFor, AreNeededAt, AreNeeded}
use Rattle.npp_cover.proofs.TestLemmas.{equal_of_test}
use Rattle.npp_cover.proofs.SetLemmas.{with_same, with_other}
use Rattle.npp_cover.proofs.ClosureLemmas.{head_within}
use Rattle.npp_cover.proofs.NeededLemmas.{below_less}
use Rattle.npp_cover.proofs.FaultLemmas.{below_by}
use Rattle.npp_cover.proofs.StandLemmas.{keeps_tolls, stands_within, stands_dominated, loop_dominated}
use Rattle.npp_labels.specs.declared.pending.Pending.{Pending}
use Rattle.npp_labels.specs.Search.{arc_of, ways_of, way_at, AreWaiting}
use Rattle.npp_labels.proofs.SizeLemmas.{size_le, size_more}
use Rattle.npp_labels.proofs.ChainLemmas.{fresh_by}
use Rattle.npp_labels.proofs.FrontierLemmas.{IsNoLaterThan, IsBehind, IsFrontier}
use Rattle.npp_labels.proofs.WaitLemmas.{in_turn}

-- how many tolls a label has after an arc whose toll is new
size_after : (arcs : List NetArc) (s : ℕ) (a : ArcId) (t : Bool) → (arc_at arcs a).toll ≡ t → has_arc arcs s a ≡ false → size_of (with_arc arcs s a) ≡ size_of s + cond t 1 0
size_after arcs s a true toll fresh =
    let n : ℕ = toll_number arcs a in
    let set : with_arc arcs s a ≡ bit_or s (2 ^ n) = ap (λ (b : Bool). cond b (bit_or s (2 ^ n)) s) toll in
    ap (λ (x : ℕ). size_of x) set ∙ size_more s (bit_or s (2 ^ n)) n (record {
      new = not_one (bit_at s n) (bit_at-lt s n) (sym (ap (λ (b : Bool). b && nat_eq (bit_at s n) 1) toll) ∙ fresh);
      has = with_same s n;
      others = λ b ne. with_other s n b ne;
    })
  where
    not_one : (bit : ℕ) → bit < 2 → nat_eq bit 1 ≡ false → bit ≡ 0
    not_one bit lt e = grind (arith, nat_tests)
size_after arcs s a false toll fresh = ap (λ (b : Bool). size_of (cond b (bit_or s (2 ^ toll_number arcs a)) s)) toll ∙ (let e : size_of s ≡ size_of s + 0 = omega arith in e)

module _ (net : Network) (limits : IsNetwork net) (k : Commodity) (free : ℕ) (onward : ℕ → Option ℕ)
    (distances : (v : ℕ) → v < net.nodes → IsDistance net.arcs true v k.destination.0 (onward v)) (needed : NeededValue) (known : AreNeeded net.arcs onward free net.nodes needed)
    (labels : List Label) (good : AreFaultless net k free labels) (pending : List Pending) (waiting : AreWaiting net.arcs onward free needed labels (length labels) pending) where
  -- an extension by a toll that the label has is dominated by a label on the way
  used_dominated : (i : ℕ) (a : ArcId) → i < length labels → a.0 < length net.arcs → has_arc net.arcs (label_at labels i).tolls a ≡ true
      → IsDominated labels (arc_at net.arcs a).head.0 (with_arc net.arcs (label_at labels i).tolls a) ((label_at labels i).cost + (arc_at net.arcs a).cost)
  used_dominated i a lt arc has =
      let l : Label = label_at labels i in
      let parts = and_parts (arc_at net.arcs a).toll (nat_eq (bit_at l.tolls (toll_number net.arcs a)) 1) has in
      let way = fresh_by net.arcs k.origin labels good.each i a lt arc parts.0 (equal_of_test (bit_at l.tolls (toll_number net.arcs a)) 1 parts.1) in (
        way.0,
        record {
          in_range = omega (arith, way.1.lower);
          there = way.1.there;
          dominates = record {
            within = λ b has'. keeps_tolls net.arcs l.tolls a b (way.1.up.within b has');
            cheaper = omega (arith, way.1.up.cheaper);
          };
        },
      )

  -- one that has the arc in place j before it comes no later than the extension by that
  no_later_than : (i j : ℕ) (w : Pending) → i < length labels → j < length (ways_of needed labels i)
      → Contains pending w → w.parent ≡ i → length (ways_of needed labels i) ≤ j + w.left → has_arc net.arcs (label_at labels i).tolls (way_at needed labels i j) ≡ false
      → IsNoLaterThan w ((label_at labels i).cost + (get_or (ways_of needed labels i) j no_needed).onward) (size_of (with_arc net.arcs (label_at labels i).tolls (way_at needed labels i j)))
  no_later_than i j w lt within here parent left fresh =
      let wait = waiting.each w here in
      let l : Label = label_at labels i in
      let es : List NeededArc = ways_of needed labels i in
      let e : NeededArc = get_or es j no_needed in
      let all : AreNeededAt net.arcs onward free l.node.0 es = known.each l.node.0 (good.nodes i lt) in
      let ways : ways_of needed labels w.parent ≡ es = ap (λ (x : ℕ). ways_of needed labels x) parent in
      let size : length (ways_of needed labels w.parent) ≡ length es = ap (λ (xs : List NeededArc). length xs) ways in
      let q : ℕ = length es - w.left in
      let f : NeededArc = get_or es q no_needed in
      let of_f : IsNeeded net.arcs onward l.node.0 f = all.each q no_needed (omega (arith, wait.some, wait.within, size)) in
      let of_e : IsNeeded net.arcs onward l.node.0 e = all.each j no_needed within in
      let turn = in_turn es all.rising j q (omega arith) within in
      let arc : arc_of w ≡ id_of f = wait.here ∙ ap (λ (xs : List NeededArc). id_of (get_or xs (length xs - w.left) no_needed)) ways in
      let node : w.node ≡ f.head = wait.pending.extends.node ∙ (ap (λ (b : ArcId). (arc_at net.arcs b).head.0) arc ∙ of_f.head) in
      let more : wait.pending.extends.bound.0 ≡ of_f.least.0 =
      ap (λ (o : Option ℕ). unwrap_or o 0) (sym wait.pending.extends.bound.1 ∙ (ap onward node ∙ of_f.least.1)) in
      let cost : w.cost ≡ l.cost + f.cost =
      wait.pending.extends.cost
      ∙ (ap (λ (x : ℕ). (label_at labels x).cost + (arc_at net.arcs (arc_of w)).cost) parent
      ∙ (ap (λ (b : ArcId). l.cost + (arc_at net.arcs b).cost) arc ∙ ap (λ (n : ℕ). l.cost + n) of_f.cost)) in
      let bound : w.bound ≡ l.cost + f.onward = omega (arith, wait.pending.extends.bound.2, cost, more, of_f.least.2) in
      let set : w.set ≡ with_arc net.arcs l.tolls (id_of f) =
      wait.pending.extends.set
      ∙ (ap (λ (x : ℕ). with_arc net.arcs (label_at labels x).tolls (arc_of w)) parent ∙ ap (λ (b : ArcId). with_arc net.arcs l.tolls b) arc) in
      let fresh_f : has_arc net.arcs l.tolls (id_of f) ≡ false =
      sym (ap (λ (x : ℕ). has_arc net.arcs (label_at labels x).tolls (arc_of w)) parent ∙ ap (λ (b : ArcId). has_arc net.arcs l.tolls b) arc) ∙ wait.fresh in
      let size_w : w.size ≡ size_of l.tolls + f.tolls =
      wait.pending.extends.size
      ∙ (ap (λ (n : ℕ). size_of n) set
      ∙ (size_after net.arcs l.tolls (id_of f) (arc_at net.arcs (id_of f)).toll refl fresh_f ∙ ap (λ (n : ℕ). size_of l.tolls + n) (sym of_f.tolls))) in
      let size_e : size_of (with_arc net.arcs l.tolls (id_of e)) ≡ size_of l.tolls + e.tolls =
      size_after net.arcs l.tolls (id_of e) (arc_at net.arcs (id_of e)).toll refl fresh ∙ ap (λ (n : ℕ). size_of l.tolls + n) (sym of_e.tolls) in
      record {
        bound = omega (arith, bound, turn.onward);
        size = λ even. omega (arith, size_w, size_e, turn.tolls (omega (arith, bound)));
      }

  -- a label's extension by an arc that another stands for
  by_place : (i j : ℕ) (a : ArcId) → i < length labels → j < length (ways_of needed labels i) → a.0 < length net.arcs
      → StandsFor net.arcs a (get_or (ways_of needed labels i) j no_needed)
      → is_below free ((label_at labels i).cost + (arc_at net.arcs a).cost) (onward (arc_at net.arcs a).head.0) ≡ true
      → IsDominated labels (arc_at net.arcs a).head.0 (with_arc net.arcs (label_at labels i).tolls a) ((label_at labels i).cost + (arc_at net.arcs a).cost)
      ⊎ ((more : ℕ) × (onward (arc_at net.arcs a).head.0 ≡ Some more)
      × IsBehind pending ((label_at labels i).cost + (arc_at net.arcs a).cost + more) (size_of (with_arc net.arcs (label_at labels i).tolls a)))
  by_place i j a lt within arc stands can =
      let l : Label = label_at labels i in
      let e : NeededArc = get_or (ways_of needed labels i) j no_needed in
      let of_e : IsNeeded net.arcs onward l.node.0 e = (known.each l.node.0 (good.nodes i lt)).each j no_needed within in
      let used = λ (has : has_arc net.arcs l.tolls (id_of e) ≡ true). stands_dominated net.arcs labels l a e stands (used_dominated i (id_of e) lt of_e.in_range has) in
      elim (waiting.tried i j lt within) [
        | inl tried ↦ elim tried [
          | inl cannot ↦
              absurd (false≢true (sym cannot
              ∙ (ap (λ (v : ℕ). can_win onward free v (l.cost + (arc_at net.arcs (id_of e)).cost)) stands.head
              ∙ below_less free (l.cost + (arc_at net.arcs a).cost) (l.cost + (arc_at net.arcs (id_of e)).cost) (onward (arc_at net.arcs a).head.0) (omega (arith, stands.cost)) can)))
          | inr rest ↦ elim rest [
            | inl has ↦ inl (used has)
            | inr found ↦ inl (stands_dominated net.arcs labels l a e stands found)
          ]
        ]
        | inr w ↦ elim (cases_Bool (has_arc net.arcs l.tolls (id_of e))) [
          | inl has ↦ inl (used has)
          | inr fresh ↦
              let first = no_later_than i j w.0 lt within w.1 w.2 w.3 fresh in
              let le = size_le (with_arc net.arcs l.tolls (id_of e)) (with_arc net.arcs l.tolls a) (stands_within net.arcs l.tolls a e stands) in
              inr (
                of_e.least.0,
                ap onward (sym (sym of_e.head ∙ stands.head)) ∙ of_e.least.1,
                (
                  w.0,
                  w.1,
                  record {
                    bound = omega (arith, first.bound, of_e.least.2, of_e.cost, stands.cost);
                    size = λ even. omega (arith, le, first.size (omega (arith, first.bound, of_e.least.2, of_e.cost, stands.cost)));
                  },
                ),
              )
        ]
      ]

  pub front : IsFrontier net.arcs k free onward labels pending
  front i a lt arc tail wins =
      let l : Label = label_at labels i in
      let x : NetArc = arc_at net.arcs a in
      let can = below_by net.arcs k free x.head.0 (l.cost + x.cost) (onward x.head.0) (distances x.head.0 (head_within net a limits arc)) wins in
      elim ((known.each l.node.0 (good.nodes i lt)).all a arc tail (below_less free (l.cost + x.cost) x.cost (onward x.head.0) (omega arith) can)) [
        | inl loop ↦ inl (loop_dominated net.arcs labels i a lt loop)
        | inr found ↦
            let at = found.1 in
            let same : get_or (ways_of needed labels i) at.0 no_needed ≡ found.0 = get_or_default (ways_of needed labels i) at.0 no_needed found.0 at.1 ∙ at.2 in
            by_place i at.0 a lt at.1 arc (subst (λ (e : NeededArc). StandsFor net.arcs a e) (sym same) found.2) can
      ]
