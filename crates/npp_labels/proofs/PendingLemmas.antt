-- A label that waits, as the extension of its parent.
use Rattle.std.proofs.Common.{◌≡◌, true, inl, inr, ◌⊎◌, ℕ, zero, suc, ◌+◌, ◌-◌, ◌<◌, ◌^◌, min, List, ◌∷◌, length, Option, Some, None, MatchOption, refl, sym, ◌∙◌, ap, subst, arith, Contains, add-one}
use Rattle.npp_net.specs.declared.types.ArcId.{ArcId}
use Rattle.npp_net.specs.declared.types.NetArc.{NetArc}
use Rattle.npp_net.specs.Network.{arc_at}
use Rattle.npp_cover.specs.declared.label.Label.{Label}
use Rattle.npp_cover.specs.Labels.{label_at, with_arc, IsCapped}
use Rattle.npp_cover.specs.Closed.{IsDominated}
use Rattle.npp_cover.specs.Fault.{is_dominated}
use Rattle.npp_cover.proofs.FaultLemmas.{dominated_of}
use Rattle.npp_labels.specs.declared.pending.Pending.{Pending}
use Rattle.npp_labels.specs.Search.{IsExtension, IsPending, IsTried, label_of, arc_of}

pub contains_first : (x : Pending) (xs : List Pending) → Contains (x ∷ xs) x
contains_first x xs = (0, omega arith, refl)

pub contains_later : (x y : Pending) (xs : List Pending) → Contains xs y → Contains (x ∷ xs) y
contains_later x y xs h = (h.0 + 1, omega (arith, h.1), rw add-one h.2)

pub contains_cases : (x y : Pending) (xs : List Pending) → Contains (x ∷ xs) y → (y ≡ x) ⊎ Contains xs y
contains_cases x y xs (zero, lt, e) = inl (sym e)
contains_cases x y xs (suc n, lt, e) = inr (n, omega arith, e)

pub pending_of : (arcs : List NetArc) (onward : ℕ → Option ℕ) (free : ℕ) (labels : List Label) (i : ℕ) (a : ArcId) (p : Pending) → i < length labels → a.0 < length arcs
    → (arc_at arcs a).tail.0 ≡ (label_at labels i).node.0 → IsExtension arcs onward free (label_at labels i) i a p → IsPending arcs onward free labels p
pending_of arcs onward free labels i a p in_range arc tail extends =
    let same : arc_of p ≡ a = ap (λ (m : ℕ). (let b : ArcId = record { 0 = m } in b)) extends.arc in
    record {
      parent = omega (arith, extends.parent);
      in_range = omega (arith, extends.arc);
      tail = ap (λ (b : ArcId). (arc_at arcs b).tail.0) same ∙ (tail ∙ ap (λ (m : ℕ). (label_at labels m).node.0) (sym extends.parent));
      extends = subst (λ (m : ℕ). IsExtension arcs onward free (label_at labels m) m (arc_of p) p) (sym extends.parent)
          (subst (λ (b : ArcId). IsExtension arcs onward free (label_at labels i) i b p) (sym same) extends);
    }

exact : (cost capped : ℕ) → cost < 2 ^ 64 - 1 → capped ≡ min cost (2 ^ 64 - 1) → capped ≡ cost
exact cost capped lt e = omega arith

-- the label of one that waits is not capped
pub label_is : (arcs : List NetArc) (onward : ℕ → Option ℕ) (free : ℕ) (labels : List Label) (p : Pending) (l : Label) → free < 2 ^ 64
    → IsPending arcs onward free labels p → IsCapped (label_of arcs labels p) l → l ≡ label_of arcs labels p
label_is arcs onward free labels p l fits is capped =
    let cost : l.cost ≡ (label_of arcs labels p).cost =
    exact (label_of arcs labels p).cost l.cost (omega (arith, is.extends.cost, is.extends.bound.2, is.extends.wins)) capped.cost in
    λ i. record { node = capped.node i; tolls = capped.tolls i; cost = cost i; last = capped.last i; parent = capped.parent i }

-- one that waits is the extension by its arc
pub dominated_as : (arcs : List NetArc) (onward : ℕ → Option ℕ) (free : ℕ) (labels all : List Label) (q : Pending) (i : ℕ) (a : ArcId) → IsPending arcs onward free labels q
    → q.parent ≡ i → q.arc ≡ a.0 → IsDominated all q.node q.set q.cost
    → IsDominated all (arc_at arcs a).head.0 (with_arc arcs (label_at labels i).tolls a) ((label_at labels i).cost + (arc_at arcs a).cost)
dominated_as arcs onward free labels all q i a is parent arc found =
    let same_arc : arc_of q ≡ a = ap (λ (m : ℕ). (let b : ArcId = record { 0 = m } in b)) arc in
    let same_from : label_at labels q.parent ≡ label_at labels i = ap (λ (m : ℕ). label_at labels m) parent in
    subst (λ (x : Label). IsDominated all (arc_at arcs a).head.0 (with_arc arcs x.tolls a) (x.cost + (arc_at arcs a).cost)) same_from
    (subst (λ (b : ArcId). IsDominated all (arc_at arcs b).head.0 (with_arc arcs (label_at labels q.parent).tolls b) ((label_at labels q.parent).cost + (arc_at arcs b).cost)) same_arc
    (subst (λ (v : ℕ). IsDominated all v (with_arc arcs (label_at labels q.parent).tolls (arc_of q)) ((label_at labels q.parent).cost + (arc_at arcs (arc_of q)).cost)) is.extends.node
    (subst (λ (s : ℕ). IsDominated all q.node s ((label_at labels q.parent).cost + (arc_at arcs (arc_of q)).cost)) is.extends.set
    (subst (λ (c : ℕ). IsDominated all q.node q.set c) is.extends.cost found))))

-- where its label is dominated it is
pub dominated_label : (arcs : List NetArc) (onward : ℕ → Option ℕ) (free : ℕ) (labels : List Label) (p : Pending) (l : Label) → IsPending arcs onward free labels p
    → l ≡ label_of arcs labels p → is_dominated labels l.node.0 l.tolls l.cost ≡ true → IsDominated labels p.node p.set p.cost
dominated_label arcs onward free labels p l is same found =
    dominated_of labels p.node p.set p.cost
    (ap (λ (v : ℕ). is_dominated labels v p.set p.cost) (is.extends.node ∙ ap (λ (x : Label). x.node.0) (sym same))
    ∙ (ap (λ (s : ℕ). is_dominated labels l.node.0 s p.cost) (is.extends.set ∙ ap (λ (x : Label). x.tolls) (sym same))
    ∙ (ap (λ (c : ℕ). is_dominated labels l.node.0 l.tolls c) (is.extends.cost ∙ ap (λ (x : Label). x.cost) (sym same)) ∙ found)))

-- an extension whose label is dominated need not wait
pub tried_by : (arcs : List NetArc) (onward : ℕ → Option ℕ) (free : ℕ) (labels : List Label) (i : ℕ) (a : ArcId) (p : Pending) (l : Label) → free < 2 ^ 64 → i < length labels
    → a.0 < length arcs → (arc_at arcs a).tail.0 ≡ (label_at labels i).node.0 → IsExtension arcs onward free (label_at labels i) i a p → IsCapped (label_of arcs labels p) l
    → is_dominated labels l.node.0 l.tolls l.cost ≡ true → IsTried arcs onward free labels i a
tried_by arcs onward free labels i a p l fits lt arc tail extends capped found =
    let is = pending_of arcs onward free labels i a p lt arc tail extends in
    inr (inr (dominated_as arcs onward free labels labels p i a is extends.parent extends.arc
    (dominated_label arcs onward free labels p l is (label_is arcs onward free labels p l fits is capped) found)))

-- where there is no value, what holds then
pub none_left : {X : Type 0} (o : Option X) (P : Type 0) (Q : X → Type 0) → MatchOption o P Q → ((x : X) → o ≡ Some x → ⊥) → P
none_left None P Q h none = h
none_left (Some x) P Q h none = absurd (none x refl)

-- and where there is one
pub some_of : {X : Type 0} (o : Option X) (x : X) (P : Type 0) (Q : X → Type 0) → o ≡ Some x → MatchOption o P Q → Q x
some_of {X = X} o x P Q is h = subst (λ (p : Option X). MatchOption p P Q) is h
