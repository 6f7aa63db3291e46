-- Which fault a draft has does not depend on which right least costs onward are taken: there is but one such cost at each node.
use Rattle.std.proofs.Common.{◌≡◌, ℕ, suc, ◌+◌, ◌<◌, Bool, true, false, cond, List, [], ◌∷◌, ◌++◌, length, Option, Some, None, option_map, refl, ◌∙◌, ap, arith, All, find, not, nat_lt, ◌&&◌}
use Rattle.std.specs.Option.{option_or}
use Rattle.npp_net.specs.declared.types.ArcId.{ArcId}
use Rattle.npp_net.specs.declared.types.NetArc.{NetArc}
use Rattle.npp_net.specs.declared.types.Commodity.{Commodity}
use Rattle.npp_net.specs.declared.types.Span.{Span}
use Rattle.npp_net.specs.Network.{Network, IsNetwork, arc_at}
use Rattle.npp_net.specs.Distance.{IsDistance}
use Rattle.npp_net.specs.Ends.{leaving_arcs}
use Rattle.npp_net.proofs.EndLaws.{leaving_node}
use Rattle.npp_cover.specs.declared.label.Label.{Label}
use Rattle.npp_cover.specs.declared.label.StepDraft.{StepDraft}
use Rattle.npp_cover.specs.declared.label.CoverDraft.{CoverDraft}
use Rattle.npp_cover.specs.declared.fault.CoverFault.{CoverFault}
use Rattle.npp_cover.specs.declared.fault.CoverFault.TheVariants.{TooManyLabels, NotAStep, RepeatedToll, Useless, NotClosed}
use Rattle.npp_cover.specs.Labels.{label_at, with_arc, step_label, first_labels, labels_of}
use Rattle.npp_cover.specs.Fault.{label_count, is_below, can_win, is_step, has_arc, start_fault, step_fault, steps_fault, labels_fault, free_fault, origin_fault, is_dominated, is_open, open_arc, closure_fault, closing_fault, cover_fault}
use Rattle.npp_cover.proofs.TestLemmas.{both, less_of_test}
use Rattle.npp_cover.proofs.ClosureLemmas.{head_within}

-- the least costs from each node on to the destination of a commodity, all tolls at zero
abbrev pub AreOnward : Network → Commodity → (ℕ → Option ℕ) → Type 0
AreOnward net k onward = (v : ℕ) → v < net.nodes → IsDistance net.arcs true v k.destination.0 (onward v)

one_distance : (arcs : List NetArc) (u v : ℕ) (o p : Option ℕ) → IsDistance arcs true u v o → IsDistance arcs true u v p → o ≡ p
one_distance arcs u v None None first second = refl
one_distance arcs u v None (Some cost) first second = absurd (first second.attained.0 second.attained.1)
one_distance arcs u v (Some cost) None first second = absurd (second first.attained.0 first.attained.1)
one_distance arcs u v (Some m) (Some n) first second =
    let same : m ≡ n = omega (
      arith,
      first.least second.attained.0 second.attained.1,
      second.least first.attained.0 first.attained.1,
      first.attained.2,
      second.attained.2,
    ) in
    ap (λ (c : ℕ). Some c) same

same_find : (p q : ArcId → Bool) (xs : List ArcId) → All (λ a. p a ≡ q a) xs → find p xs ≡ find q xs
same_find p q [] same = refl
same_find p q (x ∷ xs) same =
    ap (λ (b : Bool). cond b (Some x) (find p xs)) (same 0 x (omega arith))
    ∙ ap (λ (o : Option ArcId). cond (q x) (Some x) o) (same_find p q xs (λ i d lt. same (suc i) d (omega arith)))

by_test : {X : Type 0} (b c : Bool) (x y z : X) → b ≡ c → (c ≡ true → y ≡ z) → cond (not b) x y ≡ cond (not c) x z
by_test true true x y z e same = same refl
by_test true false x y z e same = cc
by_test false true x y z e same = cc
by_test false false x y z e same = refl

module _ (net : Network) (limits : IsNetwork net) (k : Commodity) (onward other : ℕ → Option ℕ) (first : AreOnward net k onward) (second : AreOnward net k other) (free : ℕ) where
  same_win : (v cost : ℕ) → v < net.nodes → can_win onward free v cost ≡ can_win other free v cost
  same_win v cost lt = ap (λ (o : Option ℕ). is_below free cost o) (one_distance net.arcs v k.destination.0 (onward v) (other v) (first v lt) (second v lt))

  pub same_start : k.origin.0 < net.nodes → start_fault onward free k.origin ≡ start_fault other free k.origin
  same_start lt = ap (λ (b : Bool). cond b None (Some (Useless 0))) (same_win k.origin.0 0 lt)

  pub same_step : (labels : List Label) (s : StepDraft) → step_fault net.arcs onward free labels s ≡ step_fault net.arcs other free labels s
  same_step labels s =
      let l : Label = step_label net.arcs labels s in
      by_test (is_step net.arcs labels s) (is_step net.arcs labels s) (Some (NotAStep (length labels)))
      (cond (has_arc net.arcs (label_at labels s.parent).tolls s.arc) (Some (RepeatedToll (length labels))) (cond (can_win onward free l.node.0 l.cost) None (Some (Useless (length labels)))))
      (cond (has_arc net.arcs (label_at labels s.parent).tolls s.arc) (Some (RepeatedToll (length labels))) (cond (can_win other free l.node.0 l.cost) None (Some (Useless (length labels)))))
      refl
      (λ is.
      let two = both (nat_lt s.parent (length labels) && nat_lt s.arc.0 (length net.arcs)) _ is in
      let one = both (nat_lt s.parent (length labels)) (nat_lt s.arc.0 (length net.arcs)) two.0 in
      ap (λ (b : Bool). cond (has_arc net.arcs (label_at labels s.parent).tolls s.arc) (Some (RepeatedToll (length labels))) (cond b None (Some (Useless (length labels)))))
      (same_win l.node.0 l.cost (head_within net s.arc limits (less_of_test s.arc.0 (length net.arcs) one.1))))

  same_steps : (steps : List StepDraft) (labels : List Label) → steps_fault net.arcs onward free labels steps ≡ steps_fault net.arcs other free labels steps
  same_steps [] labels = refl
  same_steps (s ∷ rest) labels =
      ap (λ (f : Option CoverFault). option_or f (steps_fault net.arcs onward free (labels ++ step_label net.arcs labels s ∷ []) rest)) (same_step labels s)
      ∙ ap (λ (f : Option CoverFault). option_or (step_fault net.arcs other free labels s) f) (same_steps rest (labels ++ step_label net.arcs labels s ∷ []))

  same_first : (started : Bool) → k.origin.0 < net.nodes
      → cond started (start_fault onward free k.origin) None ≡ cond started (start_fault other free k.origin) None
  same_first started lt = ap (λ (f : Option CoverFault). cond started f None) (same_start lt)

  same_labels : (started : Bool) (steps : List StepDraft) → k.origin.0 < net.nodes
      → labels_fault net.arcs onward free k.origin started steps ≡ labels_fault net.arcs other free k.origin started steps
  same_labels started steps lt =
      ap (λ (f : Option CoverFault). option_or f (steps_fault net.arcs onward free (first_labels k.origin started) steps)) (same_first started lt)
      ∙ ap (λ (f : Option CoverFault). option_or (cond started (start_fault other free k.origin) None) f) (same_steps steps (first_labels k.origin started))

  same_open_at : (labels : List Label) (l : Label) (a : ArcId) → a.0 < length net.arcs → is_open net.arcs onward free labels l a ≡ is_open net.arcs other free labels l a
  same_open_at labels l a lt =
      let x : NetArc = arc_at net.arcs a in
      ap (λ (b : Bool). b && not (is_dominated labels x.head.0 (with_arc net.arcs l.tolls a) (l.cost + x.cost))) (same_win x.head.0 (l.cost + x.cost) (head_within net a limits lt))

  same_arc : (labels : List Label) (l : Label) → open_arc net.arcs onward free labels l ≡ open_arc net.arcs other free labels l
  same_arc labels l =
      same_find (is_open net.arcs onward free labels l) (is_open net.arcs other free labels l) (leaving_arcs net.arcs l.node.0)
      (λ i d lt. same_open_at labels l _ (leaving_node net.arcs l.node.0 i d lt).in_range)

  same_closure : (labels : List Label) (n : ℕ) (rest : List Label) → closure_fault net.arcs onward free labels n rest ≡ closure_fault net.arcs other free labels n rest
  same_closure labels n [] = refl
  same_closure labels n (l ∷ rest) =
      ap (λ (o : Option ArcId). option_or (option_map (λ a. NotClosed n a) o) (closure_fault net.arcs onward free labels (n + 1) rest)) (same_arc labels l)
      ∙ ap (λ (f : Option CoverFault). option_or (option_map (λ a. NotClosed n a) (open_arc net.arcs other free labels l)) f) (same_closure labels (n + 1) rest)

pub same_closing : (net : Network) (limits : IsNetwork net) (k : Commodity) (onward other : ℕ → Option ℕ) → AreOnward net k onward → AreOnward net k other
    → (span : Span) (labels : List Label) (walk : List ArcId)
    → closing_fault net.arcs onward k span labels walk ≡ closing_fault net.arcs other k span labels walk
same_closing net limits k onward other first second span labels walk =
    ap (λ (f : Option CoverFault). option_or (free_fault net.arcs k span.free walk) (option_or (origin_fault span labels) f))
    (same_closure net limits k onward other first second span.free labels 0 labels)

-- the fault of the whole draft
pub same_fault : (net : Network) (limits : IsNetwork net) (k : Commodity) → k.origin.0 < net.nodes → (onward other : ℕ → Option ℕ) → AreOnward net k onward → AreOnward net k other
    → (span : Span) (d : CoverDraft) → cover_fault net.arcs onward k span d ≡ cover_fault net.arcs other k span d
same_fault net limits k lt onward other first second span d =
    let labels : List Label = labels_of net.arcs k.origin d.started d.steps.items in
    ap (λ (f : Option CoverFault). cond (nat_lt 65536 (label_count d)) (Some TooManyLabels) f)
    (ap (λ (f : Option CoverFault). option_or f (closing_fault net.arcs onward k span labels d.free.arcs.items))
    (same_labels net limits k onward other first second span.free d.started d.steps.items lt)
    ∙ ap (λ (f : Option CoverFault). option_or (labels_fault net.arcs other span.free k.origin d.started d.steps.items) f)
    (same_closing net limits k onward other first second span labels d.free.arcs.items))
