-- The draft of a cover has no fault, and gives its labels and its paths again.
use Rattle.std.proofs.Common.{◌≡◌, inl, inr, ℕ, suc, ◌+◌, ◌<◌, ◌≤◌, Bool, true, false, cond, List, [], ◌∷◌, ◌++◌, length, Option, Some, None, option_map, refl, sym, ◌∙◌, ap, subst, arith, get_or, find, nat_eq, nat_lt, ◌&&◌, not}
use Rattle.std.proofs.lemmas.Bool.{cases_lt, false≢true}
use Rattle.std.proofs.lemmas.Bool.Decides.{nat_tests}
use Rattle.std.proofs.lemmas.List.{length-append, append_assoc}
use Rattle.std.proofs.Math.Seq.{get_or-append_seam}
use Rattle.std.specs.Option.{option_or}
use Rattle.npp_net.specs.declared.types.ArcId.{ArcId}
use Rattle.npp_net.specs.declared.types.NodeId.{NodeId}
use Rattle.npp_net.specs.declared.types.NetArc.{NetArc}
use Rattle.npp_net.specs.declared.types.Commodity.{Commodity}
use Rattle.npp_net.specs.declared.types.Span.{Span}
use Rattle.npp_net.specs.Network.{Network, IsNetwork, arc_at}
use Rattle.npp_net.specs.Walk.{walk_cost}
use Rattle.npp_net.specs.Ends.{leaving_arcs}
use Rattle.npp_net.proofs.EndLaws.{leaving_node}
use Rattle.npp_cover.specs.declared.label.Label.{Label}
use Rattle.npp_cover.specs.declared.label.StepDraft.{StepDraft}
use Rattle.npp_cover.specs.declared.label.CoverDraft.{CoverDraft}
use Rattle.npp_cover.specs.declared.fault.CoverFault.{CoverFault}
use Rattle.npp_cover.specs.declared.fault.CoverFault.TheVariants.{TooManyLabels, MissingOrigin, NotClosed}
use Rattle.npp_cover.specs.Labels.{no_label, label_at, with_arc, step_label, first_labels, labels_after, labels_of}
use Rattle.npp_cover.specs.Fault.{label_count, can_win, labels_fault, is_free_walk, free_fault, is_no_label, origin_fault, is_dominated, is_open, open_arc, closure_fault, open_fault, closing_fault}
use Rattle.npp_cover.specs.Closed.{IsFreeWalk, AreClosed}
use Rattle.npp_cover.specs.Paths.{PathValue, ArePathsOf}
use Rattle.npp_cover.specs.Replaces.{CoverValue, IsCoverOf}
use Rattle.npp_cover.specs.Drafts.{StartsFirst, IsDraftOf, GivesCover}
use Rattle.npp_cover.proofs.TestLemmas.{test_of_equal}
use Rattle.npp_cover.proofs.ClosureLemmas.{head_within}
use Rattle.npp_cover.proofs.FaultLemmas.{wins_by}
use Rattle.npp_cover.proofs.OnwardLaws.{AreOnward}
use Rattle.npp_cover.proofs.CoverLaws.{last_path}
use Rattle.npp_cover.proofs.DraftLabels.{is_walk_test, GivesLabels, gives_labels}
use Rattle.npp_cover.proofs.ClosureLemmas.{test_of_dominated}

-- ---- the closure

-- an arc by which a label is not open
closed_arc : (b d : Bool) → (b ≡ true → d ≡ true) → (b && not d) ≡ false
closed_arc true true closed = refl
closed_arc true false closed = absurd (false≢true (closed refl))
closed_arc false d closed = refl

none_found : (p : ArcId → Bool) (xs : List ArcId) → ((i : ℕ) (d : ArcId) → i < length xs → p (get_or xs i d) ≡ false) → find p xs ≡ None
none_found p [] none = refl
none_found p (x ∷ xs) none =
    ap (λ (b : Bool). cond b (Some x) (find p xs)) (none 0 x (omega arith)) ∙ none_found p xs (λ i d lt. none (suc i) d (omega arith))

module _ (net : Network) (limits : IsNetwork net) (k : Commodity) (span : Span) (onward : ℕ → Option ℕ) (are_onward : AreOnward net k onward)
    (labels : List Label) (closed : AreClosed net.arcs k span labels) where
  not_open : (i : ℕ) → i < length labels → open_arc net.arcs onward span.free labels (label_at labels i) ≡ None
  not_open i lt =
      let l : Label = label_at labels i in
      none_found (is_open net.arcs onward span.free labels l) (leaving_arcs net.arcs l.node.0)
      (λ j d lt'.
      let a : ArcId = get_or (leaving_arcs net.arcs l.node.0) j d in
      let at = leaving_node net.arcs l.node.0 j d lt' in
      let x : NetArc = arc_at net.arcs a in
      closed_arc (can_win onward span.free x.head.0 (l.cost + x.cost)) (is_dominated labels x.head.0 (with_arc net.arcs l.tolls a) (l.cost + x.cost))
      (λ can. test_of_dominated labels x.head.0 (with_arc net.arcs l.tolls a) (l.cost + x.cost)
      (closed.closed i a lt at.in_range at.node
      (wins_by net.arcs k span.free x.head.0 (l.cost + x.cost) (onward x.head.0) (are_onward x.head.0 (head_within net a limits at.in_range)) can))))

  none_open : (n : ℕ) (front rest : List Label) → front ++ rest ≡ labels → closure_fault net.arcs onward span.free labels n rest ≡ None
  none_open n front [] is = refl
  none_open n front (l ∷ rest) is =
      let at : label_at labels (length front) ≡ l = ap (λ (xs : List Label). label_at xs (length front)) (sym is) ∙ get_or-append_seam front l rest no_label in
      let lt : length front < length labels = omega (arith, ap (λ (xs : List Label). length xs) is, length-append front (l ∷ rest)) in
      ap (λ (o : Option ArcId). option_or (option_map (λ a. NotClosed n a) o) (closure_fault net.arcs onward span.free labels (n + 1) rest))
      (subst (λ (x : Label). open_arc net.arcs onward span.free labels x ≡ None) at (not_open (length front) lt))
      ∙ none_open (n + 1) (front ++ l ∷ []) rest (append_assoc front (l ∷ []) rest ∙ is)

-- ---- the whole draft

length_after : (arcs : List NetArc) (steps : List StepDraft) (labels : List Label) → length (labels_after arcs labels steps) ≡ length labels + length steps
length_after arcs [] labels = omega arith
length_after arcs (s ∷ rest) labels =
    omega (arith, length_after arcs rest (labels ++ step_label arcs labels s ∷ []), length-append labels (step_label arcs labels s ∷ []))

length_first : (origin : NodeId) (started : Bool) → length (first_labels origin started) ≡ cond started 1 0
length_first origin true = refl
length_first origin false = refl

not_over : (limit n : ℕ) (x : CoverFault) (o : Option CoverFault) → n ≤ limit → cond (nat_lt limit n) (Some x) o ≡ o
not_over limit n x o le = let no : nat_lt limit n ≡ false = grind (arith, nat_tests) in ap (λ (b : Bool). cond b (Some x) o) no

no_origin_fault : (span : Span) (labels : List Label) → (span.zero < span.free → 0 < length labels) → origin_fault span labels ≡ None
no_origin_fault span [] some = elim (cases_lt span.zero span.free) [
  | inl lt ↦ absurd (omega (arith, some lt))
  | inr le ↦ let no : nat_lt span.zero span.free ≡ false = grind (arith, nat_tests) in ap (λ (b : Bool). cond (true && b) (Some MissingOrigin) None) no
]
no_origin_fault span (l ∷ labels) some = refl

no_free_fault : (arcs : List NetArc) (k : Commodity) (free : ℕ) (walk : List ArcId) → IsFreeWalk arcs k free walk → free_fault arcs k free walk ≡ None
no_free_fault arcs k free walk is =
    let one : is_free_walk arcs k.origin.0 k.destination.0 walk ≡ true = is_walk_test arcs k.origin.0 k.destination.0 walk is.leads.path is.leads.usable in
    let two : nat_eq (walk_cost arcs walk) free ≡ true = test_of_equal (walk_cost arcs walk) free is.costs in
    rw (one, two) refl

-- closed labels and a toll-free walk of least cost leave no fault
pub no_closing_fault : (net : Network) (limits : IsNetwork net) (k : Commodity) (span : Span) (onward : ℕ → Option ℕ) (are_onward : AreOnward net k onward)
    (labels : List Label) (closed : AreClosed net.arcs k span labels) (walk : List ArcId) → IsFreeWalk net.arcs k span.free walk → closing_fault net.arcs onward k span labels walk ≡ None
no_closing_fault net limits k span onward are_onward labels closed walk is =
    ap (λ (f : Option CoverFault). option_or f (option_or (origin_fault span labels) (open_fault net.arcs onward span.free labels))) (no_free_fault net.arcs k span.free walk is)
    ∙ (ap (λ (f : Option CoverFault). option_or f (open_fault net.arcs onward span.free labels)) (no_origin_fault span labels closed.start)
    ∙ none_open net limits k span onward are_onward labels closed 0 [] labels refl)

module _ (net : Network) (limits : IsNetwork net) (k : Commodity) (origin : k.origin.0 < net.nodes) (span : Span) (onward : ℕ → Option ℕ) (are_onward : AreOnward net k onward)
    (c : CoverValue) (is : IsCoverOf net.arcs k span c) (starts : StartsFirst c.labels) (d : CoverDraft) (drafts : IsDraftOf c d) where
  gives : GivesLabels net limits k span onward are_onward c.labels is.closed starts c.labels
  gives = gives_labels net limits k span onward are_onward c.labels is.closed starts origin c.labels refl

  labels_none : labels_fault net.arcs onward span.free k.origin d.started d.steps.items ≡ None
  labels_none =
      ap (λ (b : Bool). labels_fault net.arcs onward span.free k.origin b d.steps.items) drafts.started
      ∙ (ap (λ (steps : List StepDraft). labels_fault net.arcs onward span.free k.origin (not (is_no_label c.labels)) steps) drafts.steps ∙ gives.none)

  labels_made : labels_of net.arcs k.origin d.started d.steps.items ≡ c.labels
  labels_made =
      ap (λ (b : Bool). labels_of net.arcs k.origin b d.steps.items) drafts.started
      ∙ (ap (λ (steps : List StepDraft). labels_of net.arcs k.origin (not (is_no_label c.labels)) steps) drafts.steps ∙ gives.made)

  walk_is : d.free.arcs.items ≡ is.made.0
  walk_is = drafts.free ∙ ap (λ (p : PathValue). p.arcs) (last_path net.arcs k span c is)

  closing_none : closing_fault net.arcs onward k span c.labels d.free.arcs.items ≡ None
  closing_none =
      ap (λ (walk : List ArcId). closing_fault net.arcs onward k span c.labels walk) walk_is
      ∙ no_closing_fault net limits k span onward are_onward c.labels is.closed is.made.0 is.made.1

  few : label_count d ≤ 65536
  few = omega (
    arith,
    ap (λ (xs : List Label). length xs) labels_made,
    length_after net.arcs d.steps.items (first_labels k.origin d.started),
    length_first k.origin d.started,
    is.closed.few,
  )

  -- a cover whose first label alone is a start is given by its draft
  pub draft_gives : GivesCover net.arcs onward k span d c
  draft_gives = record {
    none = not_over 65536 (label_count d) TooManyLabels _ few
        ∙ (ap (λ (f : Option CoverFault). option_or f (closing_fault net.arcs onward k span (labels_of net.arcs k.origin d.started d.steps.items) d.free.arcs.items)) labels_none
        ∙ (ap (λ (xs : List Label). closing_fault net.arcs onward k span xs d.free.arcs.items) labels_made ∙ closing_none));
    labels = labels_made;
    paths = subst (λ (walk : List ArcId). ArePathsOf c.labels k.destination.0 span.free walk c.paths) (sym walk_is) is.made.2;
  }
