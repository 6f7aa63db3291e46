-- An extension by an arc is dominated where the one by the arc that stands for it is.
use Rattle.std.proofs.Common.{◌≡◌, inl, inr, ℕ, suc, ◌+◌, ◌<◌, ◌≤◌, Bool, true, false, cond, List, [], ◌∷◌, length, get_or, Option, Some, None, All, find, refl, sym, ◌∙◌, ap, subst, arith, ◌^◌, bit_or, not, ◌&&◌, nat_eq, nat_le, IfSome}
use Rattle.std.proofs.lemmas.Bool.{cases_eq, and_parts, false≢true, false_from_ne_true}
use Rattle.std.specs.Int.{bit_at}
use Rattle.npp_net.specs.declared.types.ArcId.{ArcId}
use Rattle.npp_net.specs.declared.types.NetArc.{NetArc}
use Rattle.npp_net.specs.Network.{Network, IsNetwork, arc_at, toll_number}
use Rattle.npp_net.specs.TollSets.{Has, IsWithin}
use Rattle.npp_net.specs.declared.ends.End.TheVariants.{Tail}
use Rattle.npp_net.specs.Ends.{leaving_arcs}
use Rattle.npp_net.proofs.EndLaws.{IsEndAt, leaving_node}
use Rattle.npp_cover.specs.declared.label.Label.{Label}
use Rattle.npp_cover.specs.declared.needed.NeededArc.{NeededArc}
use Rattle.npp_cover.specs.Labels.{label_at, with_arc}
use Rattle.npp_cover.specs.Fault.{can_win, is_dominated, is_open, open_arc}
use Rattle.npp_cover.specs.Closed.{IsDominated}
use Rattle.npp_cover.specs.Needed.{id_of, IsNeeded, IsPassed, is_past, is_past_noted, StandsFor, NeededValue, needed_at, AreNeededAt, AreNeeded}
use Rattle.npp_cover.proofs.TestLemmas.{is_no, both, equal_of_test, le_of_test}
use Rattle.npp_cover.proofs.SetLemmas.{with_same, with_other}
use Rattle.npp_cover.proofs.ClosureLemmas.{test_of_dominated, head_within}
use Rattle.npp_cover.proofs.NeededLemmas.{below_less}
use Rattle.npp_cover.proofs.FaultLemmas.{dominated_of}

keeps_by : (t : Bool) (s n b : ℕ) → Has s b → Has (cond t (bit_or s (2 ^ n)) s) b
keeps_by true s n b has = elim (cases_eq b n) [
  | inl e ↦ ap (λ (m : ℕ). bit_at (bit_or s (2 ^ n)) m) e ∙ with_same s n
  | inr ne ↦ with_other s n b ne ∙ has
]
keeps_by false s n b has = has

-- a toll stays in the set
pub keeps_tolls : (arcs : List NetArc) (s : ℕ) (a : ArcId) (b : ℕ) → Has s b → Has (with_arc arcs s a) b
keeps_tolls arcs s a b has = keeps_by (arc_at arcs a).toll s (toll_number arcs a) b has

-- the set with the arc that stands for another
pub stands_within : (arcs : List NetArc) (s : ℕ) (a : ArcId) (e : NeededArc) → StandsFor arcs a e → IsWithin (with_arc arcs s (id_of e)) (with_arc arcs s a)
stands_within arcs s a e stands b has = elim stands.tolls [
  | inl same ↦ subst (λ (x : ArcId). Has (with_arc arcs s x) b) same has
  | inr free ↦ keeps_tolls arcs s a b (subst (λ (t : Bool). Has (cond t (bit_or s (2 ^ toll_number arcs (id_of e))) s) b) free has)
]

-- what dominates a pair dominates one with more tolls and no less cost
pub dominated_up : (labels : List Label) (v s c t d : ℕ) → IsDominated labels v s c → IsWithin s t → c ≤ d → IsDominated labels v t d
dominated_up labels v s c t d found within le = (
  found.0,
  record {
    in_range = found.1.in_range;
    there = found.1.there;
    dominates = record { within = λ a has. within a (found.1.dominates.within a has); cheaper = omega (arith, found.1.dominates.cheaper) };
  },
)

-- so with the extensions of one label
pub stands_dominated : (arcs : List NetArc) (labels : List Label) (l : Label) (a : ArcId) (e : NeededArc) → StandsFor arcs a e
    → IsDominated labels (arc_at arcs (id_of e)).head.0 (with_arc arcs l.tolls (id_of e)) (l.cost + (arc_at arcs (id_of e)).cost)
    → IsDominated labels (arc_at arcs a).head.0 (with_arc arcs l.tolls a) (l.cost + (arc_at arcs a).cost)
stands_dominated arcs labels l a e stands found =
    subst (λ (v : ℕ). IsDominated labels v (with_arc arcs l.tolls a) (l.cost + (arc_at arcs a).cost)) stands.head
    (dominated_up labels (arc_at arcs (id_of e)).head.0 (with_arc arcs l.tolls (id_of e)) (l.cost + (arc_at arcs (id_of e)).cost) (with_arc arcs l.tolls a) (l.cost + (arc_at arcs a).cost)
    found (stands_within arcs l.tolls a e stands) (omega (arith, stands.cost)))

-- a label dominates its extension by a loop
pub loop_dominated : (arcs : List NetArc) (labels : List Label) (i : ℕ) (a : ArcId) → i < length labels → (arc_at arcs a).head.0 ≡ (label_at labels i).node.0
    → IsDominated labels (arc_at arcs a).head.0 (with_arc arcs (label_at labels i).tolls a) ((label_at labels i).cost + (arc_at arcs a).cost)
loop_dominated arcs labels i a lt loop = (
  i,
  record {
    in_range = lt;
    there = sym loop;
    dominates = record { within = λ b has. keeps_tolls arcs (label_at labels i).tolls a b has; cheaper = omega arith };
  },
)

find_none : (p : ArcId → Bool) (xs : List ArcId) → All (λ a. p a ≡ false) xs → find p xs ≡ None
find_none p [] all = refl
find_none p (x ∷ xs) all =
    ap (λ (b : Bool). cond b (Some x) (find p xs)) (all 0 x (omega arith)) ∙ find_none p xs (λ i d lt. all (suc i) d (omega arith))

module _ (arcs : List NetArc) (onward : ℕ → Option ℕ) (free : ℕ) (labels : List Label) (i : ℕ) (es : List NeededArc) (lt : i < length labels)
    (needed : AreNeededAt arcs onward free (label_at labels i).node.0 es) where
  abbrev l : Label
  l = label_at labels i

  dominated_open : (a : ArcId) → is_open arcs onward free labels l a ≡ true → IsDominated labels (arc_at arcs a).head.0 (with_arc arcs l.tolls a) (l.cost + (arc_at arcs a).cost) → ⊥
  dominated_open a open_a found =
      let x : NetArc = arc_at arcs a in
      let parts = and_parts (can_win onward free x.head.0 (l.cost + x.cost)) (not (is_dominated labels x.head.0 (with_arc arcs l.tolls a) (l.cost + x.cost))) open_a in
      false≢true (sym (is_no (is_dominated labels x.head.0 (with_arc arcs l.tolls a) (l.cost + x.cost)) parts.1)
      ∙ test_of_dominated labels x.head.0 (with_arc arcs l.tolls a) (l.cost + x.cost) found)

  -- an extension that is not open but can win is dominated
  closed_dominated : (a : ArcId) → is_open arcs onward free labels l a ≡ false → can_win onward free (arc_at arcs a).head.0 (l.cost + (arc_at arcs a).cost) ≡ true
      → IsDominated labels (arc_at arcs a).head.0 (with_arc arcs l.tolls a) (l.cost + (arc_at arcs a).cost)
  closed_dominated a shut wins =
      let x : NetArc = arc_at arcs a in
      dominated_of labels x.head.0 (with_arc arcs l.tolls a) (l.cost + x.cost)
      (not_shut (can_win onward free x.head.0 (l.cost + x.cost)) (is_dominated labels x.head.0 (with_arc arcs l.tolls a) (l.cost + x.cost)) wins shut)
    where
      not_shut : (w d : Bool) → w ≡ true → (w && not d) ≡ false → d ≡ true
      not_shut true true w e = refl
      not_shut true false w e = absurd (false≢true (sym e))
      not_shut false d w e = absurd (false≢true w)

  none_by : All (λ e. is_open arcs onward free labels l (id_of e) ≡ false) es → (a : ArcId) → a.0 < length arcs → (arc_at arcs a).tail.0 ≡ l.node.0
      → is_open arcs onward free labels l a ≡ true → ⊥
  none_by shut a arc tail open_a =
      let x : NetArc = arc_at arcs a in
      let wins = (and_parts (can_win onward free x.head.0 (l.cost + x.cost)) (not (is_dominated labels x.head.0 (with_arc arcs l.tolls a) (l.cost + x.cost))) open_a).0 in
      elim (needed.all a arc tail (below_less free (l.cost + x.cost) x.cost (onward x.head.0) (omega arith) wins)) [
        | inl loop ↦ dominated_open a open_a (loop_dominated arcs labels i a lt loop)
        | inr found ↦
            let e : NeededArc = found.0 in
            let at = found.1 in
            let shut_e : is_open arcs onward free labels l (id_of e) ≡ false =
            subst (λ (y : NeededArc). is_open arcs onward free labels l (id_of y) ≡ false) at.2 (shut at.0 e at.1) in
            let wins_e : can_win onward free (arc_at arcs (id_of e)).head.0 (l.cost + (arc_at arcs (id_of e)).cost) ≡ true =
            ap (λ (v : ℕ). can_win onward free v (l.cost + (arc_at arcs (id_of e)).cost)) found.2.head
            ∙ below_less free (l.cost + x.cost) (l.cost + (arc_at arcs (id_of e)).cost) (onward x.head.0) (omega (arith, found.2.cost)) wins in
            dominated_open a open_a (stands_dominated arcs labels l a e found.2 (closed_dominated (id_of e) shut_e wins_e))
      ]

  -- an extension by which the label is passed is not open by an arc to the same head that costs no less
  pub past_is_shut : (e f : NeededArc) → IsNeeded arcs onward l.node.0 f → IsPassed labels l e → is_past e f ≡ true → is_open arcs onward free labels l (id_of f) ≡ false
  past_is_shut e f needed_f passed past =
      let parts = both (nat_eq e.head f.head) (nat_le e.cost f.cost) past in
      let x : NetArc = arc_at arcs (id_of f) in
      let same : e.head ≡ x.head.0 = equal_of_test e.head f.head parts.0 ∙ sym needed_f.head in
      let le : e.cost ≤ f.cost = le_of_test e.cost f.cost parts.1 in
      false_from_ne_true (is_open arcs onward free labels l (id_of f))
      (λ open_f. dominated_open (id_of f) open_f
      (subst (λ (v : ℕ). IsDominated labels v (with_arc arcs l.tolls (id_of f)) (l.cost + x.cost)) same
      (dominated_up labels e.head l.tolls (l.cost + e.cost) (with_arc arcs l.tolls (id_of f)) (l.cost + x.cost)
      (dominated_of labels e.head l.tolls (l.cost + e.cost) passed) (λ b has. keeps_tolls arcs l.tolls (id_of f) b has) (omega (arith, le, needed_f.cost)))))

  -- so by what is noted
  pub noted_is_shut : (noted : Option NeededArc) (f : NeededArc) → IsNeeded arcs onward l.node.0 f → IfSome noted (IsPassed labels l) → is_past_noted noted f ≡ true
      → is_open arcs onward free labels l (id_of f) ≡ false
  noted_is_shut None f needed_f passed past = cc
  noted_is_shut (Some e) f needed_f passed past = past_is_shut e f needed_f passed past

  -- where no needed arc is open none is
  pub none_open : All (λ e. is_open arcs onward free labels l (id_of e) ≡ false) es → open_arc arcs onward free labels l ≡ None
  none_open shut =
      find_none (is_open arcs onward free labels l) (leaving_arcs arcs l.node.0)
      (λ j d in_list.
      let at : IsEndAt Tail arcs l.node.0 (length arcs) (get_or (leaving_arcs arcs l.node.0) j d) = leaving_node arcs l.node.0 j d in_list in
      false_from_ne_true (is_open arcs onward free labels l (get_or (leaving_arcs arcs l.node.0) j d))
      (none_by shut (get_or (leaving_arcs arcs l.node.0) j d) at.in_range at.node))

-- the needed arcs of a node, as they are read
pub needed_here : (arcs : List NetArc) (onward : ℕ → Option ℕ) (free nodes : ℕ) (needed : NeededValue) (l m : Label) (es : List NeededArc) → AreNeeded arcs onward free nodes needed
    → m ≡ l → l.node.0 < nodes → es ≡ needed_at needed m.node.0 → AreNeededAt arcs onward free l.node.0 es
needed_here arcs onward free nodes needed l m es known same lt is =
    subst (λ (xs : List NeededArc). AreNeededAt arcs onward free l.node.0 xs) (sym (is ∙ ap (λ (x : Label). needed_at needed x.node.0) same)) (known.each l.node.0 lt)

-- each needed arc goes to a node of the network
pub heads_within : (net : Network) (onward : ℕ → Option ℕ) (free v : ℕ) (es : List NeededArc) → IsNetwork net → AreNeededAt net.arcs onward free v es
    → All (λ (e : NeededArc). e.head < net.nodes) es
heads_within net onward free v es limits needed j d lt =
    let at = needed.each j d lt in
    let within : (arc_at net.arcs (id_of (get_or es j d))).head.0 < net.nodes = head_within net (id_of (get_or es j d)) limits at.in_range in
    omega (arith, within, at.head)

-- what holds of all numbers below n, and of n, holds of all below the next
pub up_to_next : (P : ℕ → Type 0) (n : ℕ) → ((j : ℕ) → j < n → P j) → P n → (j : ℕ) → j < n + 1 → P j
up_to_next P n before here j lt = elim (cases_eq j n) [
  | inl e ↦ subst P (sym e) here
  | inr ne ↦ before j (omega (arith, lt, ne))
]
