-- The labels on the walk of a label. None of them is at its node, where no label dominates another: so its walk comes to
-- no node twice, and no arc goes on from it that it uses already.
use Rattle.std.proofs.Common.{◌≡◌, inl, inr, ◌⊎◌, ℕ, zero, suc, ◌+◌, ◌<◌, ◌≤◌, ◌≢◌, Bool, true, false, cond, List, [], ◌∷◌, ◌++◌, length, Option, Some, None, MatchOption, IfSome, refl, sym, ◌∙◌, ap, subst, arith, nat_eq, Contains, take, add-one}
use Rattle.std.proofs.lemmas.Bool.{cases_eq, cases_lt}
use Rattle.std.proofs.lemmas.Nat.Bits.{bit_at-zero, bit_at-lt}
use Rattle.std.specs.Int.{bit_at}
use Rattle.npp_net.specs.declared.types.ArcId.{ArcId}
use Rattle.npp_net.specs.declared.types.NodeId.{NodeId}
use Rattle.npp_net.specs.declared.types.NetArc.{NetArc}
use Rattle.npp_net.specs.Network.{arc_at, no_arc, toll_number, toll_count}
use Rattle.npp_net.specs.Walk.{IsWalk, AvoidsNode, RepeatsNoNode, walk_tolls, is_toll}
use Rattle.npp_net.specs.TollSets.{Has}
use Rattle.npp_cover.specs.declared.label.Label.{Label}
use Rattle.npp_cover.specs.Labels.{label_at, start_label}
use Rattle.npp_cover.specs.Useful.{Dominates}
use Rattle.npp_cover.specs.Closed.{GoesBy, IsWalkLabel}
use Rattle.npp_cover.specs.Paths.{AreLinked, walk_of}
use Rattle.npp_cover.proofs.PathLemmas.{walk_of_more, walk_of_start}
use Rattle.npp_cover.proofs.TreeLemmas.{bits_with, label_walk}
use Rattle.npp_cover.proofs.TestLemmas.{both, equal_of_test}
use Rattle.npp_cover.proofs.SumLemmas.{uses_of, walk_tolls-cons}
use Rattle.std.proofs.lemmas.List.{take-take}
use Rattle.std.proofs.lemmas.List.Sums.{count_by_more_yes, sum_by-take-le}

one_of_more : (x y z : ℕ) → x ≡ 1 → x + y ≡ z → z < 2 → z ≡ 1
one_of_more x y z one e lt = omega arith

-- a label goes on with no fewer tolls and at no less cost
pub goes_up : (arcs : List NetArc) (i : ℕ) (l from : Label) (a : ArcId) → GoesBy arcs i l from a → Dominates from.tolls from.cost l.tolls l.cost
goes_up arcs i l from a goes = record {
  within = λ b has.
      let bits = bits_with arcs from.tolls a b goes.fresh in
      one_of_more (bit_at from.tolls b) (uses_of arcs a b) (bit_at l.tolls b) has
      (bits ∙ ap (λ (x : Label). bit_at x.tolls b) (sym goes.same)) (bit_at-lt l.tolls b);
  cheaper = omega (arith, ap (λ (x : Label). x.cost) goes.same);
}

pub then_up : (s c s' c' s'' c'' : ℕ) → Dominates s c s' c' → Dominates s' c' s'' c'' → Dominates s c s'' c''
then_up s c s' c' s'' c'' one two = record { within = λ b has. two.within b (one.within b has); cheaper = omega (arith, one.cheaper, two.cheaper) }

-- label j is on the way to label i: a lower one that dominates it, though it may be at another node
pub record IsOnTheWay (labels : List Label) (i v j : ℕ) : Type 0 where
  pub lower : j ≤ i
  pub there : (label_at labels j).node.0 ≡ v
  pub up : Dominates (label_at labels j).tolls (label_at labels j).cost (label_at labels i).tolls (label_at labels i).cost

up_self : (s c : ℕ) → Dominates s c s c
up_self s c = record { within = λ b has. has; cheaper = omega arith }

last_or_before : (b a : ArcId) (walk : List ArcId) → Contains (walk ++ a ∷ []) b → (b ≡ a) ⊎ Contains walk b
last_or_before b a [] (zero, lt, e) = inl (sym e)
last_or_before b a [] (suc n, lt, e) = absurd (omega arith)
last_or_before b a (x ∷ walk) (zero, lt, e) = inr (0, omega arith, e)
last_or_before b a (x ∷ walk) (suc n, lt, e) = elim (last_or_before b a walk (n, omega arith, e)) [
  | inl same ↦ inl same
  | inr h ↦ inr (h.0 + 1, omega (arith, h.1), rw add-one h.2)
]

module _ (arcs : List NetArc) (origin : NodeId) (labels : List Label) (each : (i : ℕ) → i < length labels → IsWalkLabel arcs origin labels i) where
  linked_by : (i : ℕ) (l from : Label) (o : Option ArcId) → MatchOption o (l ≡ start_label origin) (GoesBy arcs i l from) → IfSome o (λ _. l.parent < i)
  linked_by i l from None start = tt
  linked_by i l from (Some a) goes = goes.lower

  pub linked : AreLinked labels
  linked i lt = linked_by i (label_at labels i) (label_at labels (label_at labels i).parent) (label_at labels i).last (each i lt)

  -- by cases on how a label goes on
  by_last : (P : ℕ → Type 0) (i : ℕ) → i < length labels → (o : Option ArcId) → (label_at labels i).last ≡ o
      → ((label_at labels i).last ≡ None → label_at labels i ≡ start_label origin → P i)
      → ((a : ArcId) → (label_at labels i).last ≡ Some a → GoesBy arcs i (label_at labels i) (label_at labels (label_at labels i).parent) a → P i) → P i
  by_last P i lt None is start goes =
      start is (subst (λ (o : Option ArcId). MatchOption o (label_at labels i ≡ start_label origin) (GoesBy arcs i (label_at labels i) (label_at labels (label_at labels i).parent))) is (each i lt))
  by_last P i lt (Some a) is start goes =
      goes a is (subst (λ (o : Option ArcId). MatchOption o (label_at labels i ≡ start_label origin) (GoesBy arcs i (label_at labels i) (label_at labels (label_at labels i).parent))) is (each i lt))

  way_within : (n i : ℕ) → i < n → i < length labels → (b : ArcId) → Contains (walk_of labels i) b → (j : ℕ) × IsOnTheWay labels i (arc_at arcs b).head.0 j
  way_within zero i lt in_range b h = absurd (omega arith)
  way_within (suc n) i lt in_range b h =
      by_last (λ m. (j : ℕ) × IsOnTheWay labels m (arc_at arcs b).head.0 j) i in_range (label_at labels i).last refl
      (λ is start. absurd (omega (arith, h.1, ap (λ (xs : List ArcId). length xs) (walk_of_start labels i is))))
      (λ a is goes.
      let more = walk_of_more labels i a linked in_range is in
      elim (last_or_before b a (walk_of labels (label_at labels i).parent) (subst (λ (xs : List ArcId). Contains {X = ArcId} xs b) more.1 h)) [
        | inl e ↦ (
          i,
          record {
            lower = omega arith;
            there = ap (λ (x : Label). x.node.0) goes.same ∙ ap (λ (x : ArcId). (arc_at arcs x).head.0) (sym e);
            up = up_self (label_at labels i).tolls (label_at labels i).cost;
          },
        )
        | inr earlier ↦
            let way = way_within n (label_at labels i).parent (omega (arith, goes.lower)) (omega (arith, goes.lower)) b earlier in (
              way.0,
              record {
                lower = omega (arith, way.1.lower, goes.lower);
                there = way.1.there;
                up = then_up (label_at labels way.0).tolls (label_at labels way.0).cost
                    (label_at labels (label_at labels i).parent).tolls (label_at labels (label_at labels i).parent).cost
                    (label_at labels i).tolls (label_at labels i).cost
                    way.1.up (goes_up arcs i (label_at labels i) (label_at labels (label_at labels i).parent) a goes);
              },
            )
      ])

  -- at the head of each arc of a label's walk there is a label on the way
  pub on_the_way : (i : ℕ) → i < length labels → (b : ArcId) → Contains (walk_of labels i) b → (j : ℕ) × IsOnTheWay labels i (arc_at arcs b).head.0 j
  on_the_way i lt b h = way_within (suc i) i (omega arith) lt b h

-- ---- no arc is used twice

used_or_later : (arcs : List NetArc) (t : ℕ) (x : ArcId) (walk : List ArcId) → 1 ≤ walk_tolls arcs (x ∷ walk) t → (here : Bool) → is_toll arcs t x ≡ here
    → (1 ≤ walk_tolls arcs walk t → (b : ArcId) × Contains {X = ArcId} walk b × (is_toll arcs t b ≡ true))
    → (b : ArcId) × Contains {X = ArcId} (x ∷ walk) b × (is_toll arcs t b ≡ true)
used_or_later arcs t x walk used true is later = (x, (0, omega arith, refl), is)
used_or_later arcs t x walk used false is later =
    let none : uses_of arcs x t ≡ 0 = ap (λ (h : Bool). cond {A = ℕ} h 1 0) is in
    let more = later (omega (arith, walk_tolls-cons arcs x walk t)) in
    (more.0, (more.1.0 + 1, omega (arith, more.1.1), rw add-one more.1.2), more.2)

-- an arc of a walk that uses a toll is the arc of that toll
used_by : (arcs : List NetArc) (t : ℕ) (walk : List ArcId) → 1 ≤ walk_tolls arcs walk t → (b : ArcId) × Contains {X = ArcId} walk b × (is_toll arcs t b ≡ true)
used_by arcs t [] used = absurd (omega arith)
used_by arcs t (x ∷ walk) used = used_or_later arcs t x walk used (is_toll arcs t x) refl (used_by arcs t walk)

walk_range : (arcs : List NetArc) (u v : ℕ) (walk : List ArcId) (b : ArcId) → IsWalk arcs u v walk → Contains {X = ArcId} walk b → b.0 < length arcs
walk_range arcs u v [] b path (n, lt, e) = absurd (omega arith)
walk_range arcs u v (x ∷ walk) b path (zero, lt, e) = subst (λ (y : ArcId). y.0 < length arcs) e path.0
walk_range arcs u v (x ∷ walk) b path (suc n, lt, e) = walk_range arcs (arc_at arcs x).head.0 v walk b path.2 (n, omega arith, e)

number_more : (arcs : List NetArc) (a b : ArcId) → a.0 < b.0 → b.0 < length arcs → (arc_at arcs a).toll ≡ true → toll_number arcs a < toll_number arcs b
number_more arcs a b lt in_range toll =
    let one = count_by_more_yes (λ (x : NetArc). x.toll) arcs a.0 no_arc (omega arith) toll in
    let part : toll_count (take (a.0 + 1) (take b.0 arcs)) ≤ toll_count (take b.0 arcs) = sum_by-take-le (λ (x : NetArc). cond {A = ℕ} x.toll 1 0) (take b.0 arcs) (a.0 + 1) in
    let same : take (a.0 + 1) (take b.0 arcs) ≡ take (a.0 + 1) arcs = take-take (a.0 + 1) b.0 arcs (omega arith) in
    omega (arith, one, part, ap (λ (xs : List NetArc). toll_count xs) same)

same_number : (arcs : List NetArc) (a b : ArcId) → a.0 < length arcs → b.0 < length arcs → (arc_at arcs a).toll ≡ true → (arc_at arcs b).toll ≡ true
    → toll_number arcs a ≡ toll_number arcs b → a.0 ≡ b.0
same_number arcs a b la lb ta tb e = elim (cases_eq a.0 b.0) [
  | inl same ↦ same
  | inr ne ↦ elim (cases_lt a.0 b.0) [
    | inl lt ↦ absurd (omega (arith, number_more arcs a b lt lb ta))
    | inr le ↦ absurd (omega (arith, number_more arcs b a (omega arith) la tb))
  ]
]

-- a label that goes on by a toll arc of its parent is dominated by a label on the way
pub fresh_by : (arcs : List NetArc) (origin : NodeId) (labels : List Label) (each : (i : ℕ) → i < length labels → IsWalkLabel arcs origin labels i) (i : ℕ) (a : ArcId)
    → i < length labels → a.0 < length arcs → (arc_at arcs a).toll ≡ true → Has (label_at labels i).tolls (toll_number arcs a)
    → (j : ℕ) × IsOnTheWay labels i (arc_at arcs a).head.0 j
fresh_by arcs origin labels each i a in_range arc toll has =
    let w = label_walk arcs origin labels each i in_range in
    let used = used_by arcs (toll_number arcs a) (walk_of labels i) (omega (arith, w.tolls (toll_number arcs a), has)) in
    let b : ArcId = used.0 in
    let parts = both (arc_at arcs b).toll (nat_eq (toll_number arcs b) (toll_number arcs a)) used.2 in
    let range = walk_range arcs origin.0 (label_at labels i).node.0 (walk_of labels i) b w.leads used.1 in
    let same : b.0 ≡ a.0 = same_number arcs b a range arc parts.0 toll (equal_of_test (toll_number arcs b) (toll_number arcs a) parts.1) in
    let same_arc : b ≡ a = ap (λ (n : ℕ). (let x : ArcId = record { 0 = n } in x)) same in
    let way = on_the_way arcs origin labels each i in_range b used.1 in
    (way.0, subst (λ (x : ArcId). IsOnTheWay labels i (arc_at arcs x).head.0 way.0) same_arc way.1)

-- ---- no node is come to twice

avoids_push : (arcs : List NetArc) (u : ℕ) (walk : List ArcId) (a : ArcId) → (arc_at arcs a).head.0 ≢ u → AvoidsNode arcs u walk → AvoidsNode arcs u (walk ++ a ∷ [])
avoids_push arcs u [] a ne avoids = (ne, tt)
avoids_push arcs u (b ∷ walk) a ne avoids = (avoids.0, avoids_push arcs u walk a ne avoids.1)

simple_push : (arcs : List NetArc) (u : ℕ) (walk : List ArcId) (a : ArcId) → (arc_at arcs a).head.0 ≢ u
    → ((b : ArcId) → Contains {X = ArcId} walk b → (arc_at arcs a).head.0 ≢ (arc_at arcs b).head.0)
    → RepeatsNoNode arcs u walk → RepeatsNoNode arcs u (walk ++ a ∷ [])
simple_push arcs u [] a start nodes simple = ((start, tt), tt)
simple_push arcs u (b ∷ walk) a start nodes simple = (
  avoids_push arcs u (b ∷ walk) a start simple.0,
  simple_push arcs (arc_at arcs b).head.0 walk a (nodes b (0, omega arith, refl)) (λ x h. nodes x (h.0 + 1, omega (arith, h.1), rw add-one h.2)) simple.1,
)

module _ (arcs : List NetArc) (origin : NodeId) (labels : List Label) (each : (i : ℕ) → i < length labels → IsWalkLabel arcs origin labels i)
    (apart : (i j : ℕ) → i < length labels → j < i → (label_at labels j).node.0 ≡ (label_at labels i).node.0
    → Dominates (label_at labels j).tolls (label_at labels j).cost (label_at labels i).tolls (label_at labels i).cost → ⊥) where
  simple_within : (n i : ℕ) → i < n → i < length labels → RepeatsNoNode arcs origin.0 (walk_of labels i)
  simple_within zero i lt in_range = absurd (omega arith)
  simple_within (suc n) i lt in_range =
      by_last arcs origin labels each (λ m. RepeatsNoNode arcs origin.0 (walk_of labels m)) i in_range (label_at labels i).last refl
      (λ is start. subst (λ (walk : List ArcId). RepeatsNoNode arcs origin.0 walk) (sym (walk_of_start labels i is)) tt)
      (λ a is goes.
      let p : ℕ = (label_at labels i).parent in
      let up = goes_up arcs i (label_at labels i) (label_at labels p) a goes in
      let here : (label_at labels i).node.0 ≡ (arc_at arcs a).head.0 = ap (λ (x : Label). x.node.0) goes.same in
      let p_range : p < length labels = omega (arith, goes.lower) in
      let more = walk_of_more labels i a (linked arcs origin labels each) in_range is in
      subst (λ (walk : List ArcId). RepeatsNoNode arcs origin.0 walk) (sym more.1)
      (simple_push arcs origin.0 (walk_of labels p) a
      (λ e. by_last arcs origin labels each (λ m. m ≡ 0 → ⊥) 0 (omega arith) (label_at labels 0).last refl
      (λ is' start none. apart i 0 in_range (omega (arith, goes.lower)) (ap (λ (x : Label). x.node.0) start ∙ sym (here ∙ e))
      (record {
        within = λ b has. absurd (omega (arith, has, ap (λ (x : Label). bit_at x.tolls b) start, bit_at-zero b));
        cheaper = omega (arith, ap (λ (x : Label). x.cost) start);
      }))
      (λ a' is' goes' none. omega (arith, goes'.lower)) refl)
      (λ b h e.
      let way = on_the_way arcs origin labels each p p_range b h in
      apart i way.0 in_range (omega (arith, way.1.lower, goes.lower)) (way.1.there ∙ (sym e ∙ sym here))
      (then_up (label_at labels way.0).tolls (label_at labels way.0).cost (label_at labels p).tolls (label_at labels p).cost (label_at labels i).tolls (label_at labels i).cost way.1.up up))
      (simple_within n p (omega (arith, goes.lower)) p_range)))

  pub simple_walks : (i : ℕ) → i < length labels → RepeatsNoNode arcs origin.0 (walk_of labels i)
  simple_walks i lt = simple_within (suc i) i (omega arith) lt
