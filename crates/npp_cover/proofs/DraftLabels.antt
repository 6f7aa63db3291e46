-- The steps of labels, one by one: none has a fault, and they give the labels again.
use Rattle.std.proofs.Common.{◌≡◌, ℕ, ◌<◌, Bool, true, false, cond, List, [], ◌∷◌, ◌++◌, length, Option, Some, None, MatchOption, option_map, refl, sym, ◌∙◌, ap, subst, arith, nat_eq, nat_lt, ◌&&◌, not}
use Rattle.std.proofs.lemmas.Bool.Decides.{nat_tests}
use Rattle.std.proofs.lemmas.List.{length-append, append-nil, append_assoc}
use Rattle.std.proofs.Math.ListN.{get_or-append}
use Rattle.std.proofs.Math.Seq.{get_or-append_seam}
use Rattle.std.specs.Int.{bit_at}
use Rattle.std.specs.List.{cons_option}
use Rattle.std.specs.Option.{option_or}
use Rattle.npp_net.specs.declared.types.ArcId.{ArcId}
use Rattle.npp_net.specs.declared.types.NetArc.{NetArc}
use Rattle.npp_net.specs.declared.types.Commodity.{Commodity}
use Rattle.npp_net.specs.declared.types.Span.{Span}
use Rattle.npp_net.specs.Network.{Network, IsNetwork, arc_at, toll_number}
use Rattle.npp_net.specs.Walk.{IsWalk}
use Rattle.npp_net.specs.Distance.{IsUsableWalk}
use Rattle.npp_cover.specs.declared.label.Label.{Label}
use Rattle.npp_cover.specs.declared.label.StepDraft.{StepDraft}
use Rattle.npp_cover.specs.declared.fault.CoverFault.{CoverFault}
use Rattle.npp_cover.specs.declared.fault.CoverFault.TheVariants.{NotAStep, RepeatedToll, Useless}
use Rattle.npp_cover.specs.Useful.{CanWin}
use Rattle.npp_cover.specs.Labels.{no_label, label_at, start_label, label_after, step_label, labels_after, labels_of}
use Rattle.npp_cover.specs.Fault.{can_win, is_step, has_arc, step_fault, steps_fault, labels_fault, is_free_walk, is_no_label}
use Rattle.npp_cover.specs.Closed.{GoesBy, IsStartOrGoes, AreClosed}
use Rattle.npp_cover.specs.Drafts.{step_of, steps_of, StartsFirst}
use Rattle.npp_cover.proofs.TestLemmas.{test_of_equal, test_of_less}
use Rattle.npp_cover.proofs.ClosureLemmas.{head_within}
use Rattle.npp_cover.proofs.FaultLemmas.{below_by}
use Rattle.npp_cover.proofs.OnwardLaws.{AreOnward}

-- ---- tests that pass

all_three : (a b c : Bool) → a ≡ true → b ≡ true → c ≡ true → (a && b && c) ≡ true
all_three true true true e f g = refl
all_three true true false e f g = cc
all_three true false c e f g = cc
all_three false b c e f g = cc

passes_all : (a b c : Bool) (x y z : CoverFault) → a ≡ true → b ≡ false → c ≡ true → cond (not a) (Some x) (cond b (Some y) (cond c None (Some z))) ≡ None
passes_all true false true x y z e f g = refl
passes_all true false false x y z e f g = cc
passes_all true true c x y z e f g = cc
passes_all false b c x y z e f g = cc

not_has : (t b : Bool) → (t ≡ true → b ≡ true → ⊥) → (t && b) ≡ false
not_has true true none = absurd (none refl refl)
not_has true false none = refl
not_has false b none = refl

-- ---- the labels, one by one

-- a toll-free walk passes the test
pub is_walk_test : (arcs : List NetArc) (u v : ℕ) (walk : List ArcId) → IsWalk arcs u v walk → IsUsableWalk false arcs walk → is_free_walk arcs u v walk ≡ true
is_walk_test arcs u v [] path usable = test_of_equal u v path
is_walk_test arcs u v (a ∷ rest) path usable =
    let one : nat_lt a.0 (length arcs) ≡ true = test_of_less a.0 (length arcs) path.0 in
    let two : nat_eq (arc_at arcs a).tail.0 u ≡ true = test_of_equal (arc_at arcs a).tail.0 u path.1 in
    let three : (arc_at arcs a).toll ≡ false = usable.0 in
    let rest : is_free_walk arcs (arc_at arcs a).head.0 v rest ≡ true = is_walk_test arcs (arc_at arcs a).head.0 v rest path.2 usable.1 in
    rw (one, two, three, rest) refl

module _ (net : Network) (limits : IsNetwork net) (k : Commodity) (span : Span) (onward : ℕ → Option ℕ) (are_onward : AreOnward net k onward)
    (labels : List Label) (closed : AreClosed net.arcs k span labels) (starts : StartsFirst labels) where
  -- what is known of a part of the labels and the rest: the steps of the rest have no fault after the part, and give the labels
  record GoesOn (front rest : List Label) : Type 0 where
    none : steps_fault net.arcs onward span.free front (steps_of rest) ≡ None
    made : labels_after net.arcs front (steps_of rest) ≡ labels

  at_place : (front : List Label) (l : Label) (rest : List Label) → front ++ l ∷ rest ≡ labels → (label_at labels (length front) ≡ l) × (length front < length labels)
  at_place front l rest is = (
    ap (λ (xs : List Label). label_at xs (length front)) (sym is) ∙ get_or-append_seam front l rest no_label,
    omega (arith, ap (λ (xs : List Label). length xs) is, length-append front (l ∷ rest)),
  )

  in_front : (front : List Label) (l : Label) (rest : List Label) (i : ℕ) → front ++ l ∷ rest ≡ labels → i < length front → label_at front i ≡ label_at labels i
  in_front front l rest i is lt = sym (get_or-append front (l ∷ rest) no_label i lt) ∙ ap (λ (xs : List Label). label_at xs i) is

  -- a label that goes on from one before it is that of its step, which has no fault
  step_passes : (front : List Label) (l : Label) (a : ArcId) → (label_at front l.parent ≡ label_at labels l.parent)
      → GoesBy net.arcs (length front) l (label_at labels l.parent) a → can_win onward span.free l.node.0 l.cost ≡ true
      → (let s : StepDraft = record { parent = l.parent; arc = a } in
      (step_fault net.arcs onward span.free front s ≡ None) × (step_label net.arcs front s ≡ l))
  step_passes front l a parent goes wins =
      let s : StepDraft = record { parent = l.parent; arc = a } in
      let from : Label = label_at front l.parent in
      let same : step_label net.arcs front s ≡ l = ap (λ (x : Label). label_after net.arcs x s) parent ∙ sym goes.same in (
        passes_all (is_step net.arcs front s) (has_arc net.arcs from.tolls a) (can_win onward span.free (step_label net.arcs front s).node.0 (step_label net.arcs front s).cost)
            (NotAStep (length front)) (RepeatedToll (length front)) (Useless (length front))
            (all_three (nat_lt l.parent (length front)) (nat_lt a.0 (length net.arcs)) (nat_eq (arc_at net.arcs a).tail.0 from.node.0)
            (test_of_less l.parent (length front) goes.lower) (test_of_less a.0 (length net.arcs) goes.in_range)
            (test_of_equal (arc_at net.arcs a).tail.0 from.node.0 (goes.tail ∙ ap (λ (x : Label). x.node.0) (sym parent))))
            (not_has (arc_at net.arcs a).toll (nat_eq (bit_at from.tolls (toll_number net.arcs a)) 1)
            (λ toll has. goes.fresh toll (ap (λ (x : Label). bit_at x.tolls (toll_number net.arcs a)) (sym parent) ∙ is_one (bit_at from.tolls (toll_number net.arcs a)) has)))
            (ap (λ (x : Label). can_win onward span.free x.node.0 x.cost) same ∙ wins),
        same,
      )
    where
      is_one : (bit : ℕ) → nat_eq bit 1 ≡ true → bit ≡ 1
      is_one bit e = grind (arith, nat_tests)

  -- so is the next label, whichever its last arc is
  one_more : (front : List Label) (l : Label) (rest : List Label) → front ++ l ∷ rest ≡ labels → 0 < length front → (o : Option ArcId) → l.last ≡ o
      → MatchOption o (l ≡ start_label k.origin) (GoesBy net.arcs (length front) l (label_at labels l.parent)) → GoesOn (front ++ l ∷ []) rest → GoesOn front (l ∷ rest)
  one_more front l rest is some None last goes later =
      let at = at_place front l rest is in
      absurd (omega (arith, starts (length front) at.1 (ap (λ (x : Label). x.last) at.0 ∙ last), some))
  one_more front l rest is some (Some a) last goes later =
      let s : StepDraft = record { parent = l.parent; arc = a } in
      let at = at_place front l rest is in
      let steps : steps_of (l ∷ rest) ≡ s ∷ steps_of rest =
      ap (λ (o : Option ArcId). cons_option (option_map (λ b. step_by l.parent b) o) (steps_of rest)) last in
      let node : l.node.0 < net.nodes = subst (λ (x : Label). x.node.0 < net.nodes) (sym goes.same) (head_within net a limits goes.in_range) in
      let wins : can_win onward span.free l.node.0 l.cost ≡ true =
      below_by net.arcs k span.free l.node.0 l.cost (onward l.node.0) (are_onward l.node.0 node)
      (subst (λ (x : Label). CanWin net.arcs k span.free x.node.0 x.cost) at.0 (closed.wins (length front) at.1)) in
      let step = step_passes front l a (in_front front l rest l.parent is goes.lower) goes wins in
      record {
        none = ap (λ (r : List StepDraft). steps_fault net.arcs onward span.free front r) steps
            ∙ (ap (λ (f : Option CoverFault). option_or f (steps_fault net.arcs onward span.free (front ++ step_label net.arcs front s ∷ []) (steps_of rest))) step.0
            ∙ (ap (λ (x : Label). steps_fault net.arcs onward span.free (front ++ x ∷ []) (steps_of rest)) step.1 ∙ later.none));
        made = ap (λ (r : List StepDraft). labels_after net.arcs front r) steps
            ∙ (ap (λ (x : Label). labels_after net.arcs (front ++ x ∷ []) (steps_of rest)) step.1 ∙ later.made);
      }
    where
      step_by : ℕ → ArcId → StepDraft
      step_by parent arc = record { parent = parent; arc = arc }

  goes_on : (rest front : List Label) → front ++ rest ≡ labels → 0 < length front → GoesOn front rest
  goes_on [] front is some = record { none = refl; made = sym (append-nil front) ∙ is }
  goes_on (l ∷ rest) front is some =
      let at = at_place front l rest is in
      one_more front l rest is some l.last refl
      (subst (λ (x : Label). IsStartOrGoes net.arcs k.origin (length front) x (label_at labels x.parent)) at.0 (closed.each (length front) at.1))
      (goes_on rest (front ++ l ∷ []) (append_assoc front (l ∷ []) rest ∙ is) (omega (arith, length-append front (l ∷ []))))

  first_by : (l from : Label) (o : Option ArcId) → MatchOption o (l ≡ start_label k.origin) (GoesBy net.arcs 0 l from) → l ≡ start_label k.origin
  first_by l from None start = start
  first_by l from (Some a) goes = absurd (omega (arith, goes.lower))

  -- what the draft of these labels gives: no fault, and the labels
  pub record GivesLabels (xs : List Label) : Type 0 where
    pub none : labels_fault net.arcs onward span.free k.origin (not (is_no_label xs)) (steps_of xs) ≡ None
    pub made : labels_of net.arcs k.origin (not (is_no_label xs)) (steps_of xs) ≡ labels

  pub gives_labels : k.origin.0 < net.nodes → (xs : List Label) → xs ≡ labels → GivesLabels xs
  gives_labels origin [] is = record { none = refl; made = is }
  gives_labels origin (l ∷ rest) is =
      let some : 0 < length labels = omega (arith, ap (λ (ys : List Label). length ys) is) in
      let at : label_at labels 0 ≡ l = ap (λ (ys : List Label). label_at ys 0) (sym is) in
      let start : l ≡ start_label k.origin =
      first_by l (label_at labels l.parent) l.last
      (subst (λ (x : Label). IsStartOrGoes net.arcs k.origin 0 x (label_at labels x.parent)) at (closed.each 0 some)) in
      let steps : steps_of (l ∷ rest) ≡ steps_of rest = ap (λ (x : Label). cons_option (step_of x) (steps_of rest)) start in
      let wins : can_win onward span.free k.origin.0 0 ≡ true =
      below_by net.arcs k span.free k.origin.0 0 (onward k.origin.0) (are_onward k.origin.0 origin)
      (subst (λ (x : Label). CanWin net.arcs k span.free x.node.0 x.cost) (at ∙ start) (closed.wins 0 some)) in
      let on = goes_on rest (l ∷ []) is (omega arith) in
      record {
        none = ap (λ (b : Bool). option_or (cond b None (Some (Useless 0))) (steps_fault net.arcs onward span.free (start_label k.origin ∷ []) (steps_of (l ∷ rest)))) wins
            ∙ (ap (λ (r : List StepDraft). steps_fault net.arcs onward span.free (start_label k.origin ∷ []) r) steps
            ∙ (ap (λ (x : Label). steps_fault net.arcs onward span.free (x ∷ []) (steps_of rest)) (sym start) ∙ on.none));
        made = ap (λ (r : List StepDraft). labels_after net.arcs (start_label k.origin ∷ []) r) steps
            ∙ (ap (λ (x : Label). labels_after net.arcs (x ∷ []) (steps_of rest)) (sym start) ∙ on.made);
      }
