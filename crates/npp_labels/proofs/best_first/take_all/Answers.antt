use Rattle.std.proofs.Common.{◌≡◌, inr, ℕ, ◌<◌, List, [], ◌∷◌, ◌++◌, length, refl, sym, ◌∙◌, ap, subst, arith}
use Rattle.std.proofs.lemmas.List.{get_or_default}
use Rattle.npp_short.specs.Reach.{cost_at}
use Rattle.npp_cover.specs.declared.label.Label.{Label}
use Rattle.npp_cover.specs.Labels.{no_label, label_at, start_label}
use Rattle.npp_cover.proofs.FaultLemmas.{at_end}
use Rattle.npp_labels.specs.declared.pending.Pending.{Pending}
use Rattle.npp_labels.specs.Lists.{Lists}
use Rattle.npp_labels.specs.Search.{AreFound, AreWaiting, Advances, TakesFirst, ways_of}
use Rattle.npp_labels.proofs.PendingLemmas.{contains_first, none_left, some_of}
use Rattle.npp_labels.proofs.Searching.{IsSearching}
use Rattle.npp_labels.proofs.StartLemmas.{searching_start}
use Rattle.npp_labels.proofs.NextLemmas.{searching_next, too_many, node_within, parent_there}
use Rattle.npp_labels.proofs.EndLemmas.{found_all}
use Rattle.npp_labels.proofs.best_first.take_all.Goals as goal

pub loop-family-init : goal.loop-family-init
loop-family-init c =
    let labels : c.in_ok-family-2.family.labels ≡ start_label c.args.pair.origin ∷ [] =
    ap (λ (x : Lists). x.labels) c.in_ok-family-2.ensures
    ∙ (ap (λ (x : Lists). x.labels ++ c.start_label.result ∷ []) c.in_ok-family.ensures ∙ ap (λ (x : Label). x ∷ []) c.start_label.ensures) in (
      ap (λ (x : Lists). x.nodes) c.in_ok-family-2.ensures ∙ (ap (λ (x : Lists). x.nodes) c.in_ok-family.ensures ∙ c.nodes.ensures.count),
      subst (λ (xs : List Label). IsSearching c.args.instance.now c.args.pair c.args.span.free (cost_at c.args.potentials.now) c.args.needed.now xs c.start_from.new.pending) (sym labels)
          (searching_start c.args.instance.now c.requires.network c.args.pair c.requires.pair c.args.span.free (cost_at c.args.potentials.now) c.requires.potentials.each
          c.args.needed.now c.start_from.new.pending c.requires.start
          (subst (λ (ps : List Pending). Advances c.args.instance.now.arcs (cost_at c.args.potentials.now) c.args.span.free c.args.needed.now (start_label c.args.pair.origin ∷ []) 0
          (length (ways_of c.args.needed.now (start_label c.args.pair.origin ∷ []) 0)) ps c.start_from.new.pending) c.new-pending.ensures
          (subst (λ (xs : List Label). Advances c.args.instance.now.arcs (cost_at c.args.potentials.now) c.args.span.free c.args.needed.now xs 0
          (length (ways_of c.args.needed.now xs 0)) c.new-pending.result c.start_from.new.pending) labels c.in_ok-start_from.ensures))),
    )

pub take_label-requires-clause-labels : goal.take_label-requires-clause-labels
take_label-requires-clause-labels c = λ i d lt.
    subst (λ (x : Label). x.node.0 < c.args.instance.now.nodes) (get_or_default c.loop-family.family.labels i no_label d lt) (c.loop-family.invariant.1.good.nodes i lt)

pub returns-then-number-eq-MAX_LABELS : goal.returns-then-number-eq-MAX_LABELS
returns-then-number-eq-MAX_LABELS c =
    let takes : TakesFirst c.args.instance.now.arcs (cost_at c.args.potentials.now) c.args.span.free c.args.needed.now c.loop-family.family.labels c.take_label.new.pending c.in-Some.taken =
    some_of c.in_ok-taken.field-0 c.in-Some.taken (AreWaiting c.args.instance.now.arcs (cost_at c.args.potentials.now) c.args.span.free c.args.needed.now c.loop-family.family.labels (length c.loop-family.family.labels) []) (TakesFirst c.args.instance.now.arcs (cost_at c.args.potentials.now) c.args.span.free c.args.needed.now c.loop-family.family.labels c.take_label.new.pending)
    c.in-Some.is c.in_ok-taken.ensures in
    inr (
      refl,
      too_many c.args.instance.now c.requires.network c.args.pair c.requires.pair c.args.span.free (cost_at c.args.potentials.now) c.requires.potentials.each c.args.needed.now c.requires.needed
          c.loop-family.family.labels c.loop-family.pending c.take_label.new.pending c.in-Some.taken c.loop-family.invariant.1 takes
          (sym c.len-number.ensures ∙ c.if-number-eq-MAX_LABELS.true),
    )

pub with-requires-in-Some : goal.with-requires-in-Some
with-requires-in-Some c =
    let takes : TakesFirst c.args.instance.now.arcs (cost_at c.args.potentials.now) c.args.span.free c.args.needed.now c.loop-family.family.labels c.take_label.new.pending c.in-Some.taken =
    some_of c.in_ok-taken.field-0 c.in-Some.taken (AreWaiting c.args.instance.now.arcs (cost_at c.args.potentials.now) c.args.span.free c.args.needed.now c.loop-family.family.labels (length c.loop-family.family.labels) []) (TakesFirst c.args.instance.now.arcs (cost_at c.args.potentials.now) c.args.span.free c.args.needed.now c.loop-family.family.labels c.take_label.new.pending)
    c.in-Some.is c.in_ok-taken.ensures in
    omega (
      arith,
      c.loop-family.invariant.0,
      node_within c.args.instance.now c.requires.network c.args.pair c.requires.pair c.args.span.free (cost_at c.args.potentials.now) c.requires.potentials.each c.args.needed.now c.requires.needed
          c.loop-family.family.labels c.take_label.new.pending c.in-Some.taken takes,
    )

pub overflow_sub-left : goal.overflow_sub-left
overflow_sub-left c =
    let takes : TakesFirst c.args.instance.now.arcs (cost_at c.args.potentials.now) c.args.span.free c.args.needed.now c.loop-family.family.labels c.take_label.new.pending c.in-Some.taken =
    some_of c.in_ok-taken.field-0 c.in-Some.taken (AreWaiting c.args.instance.now.arcs (cost_at c.args.potentials.now) c.args.span.free c.args.needed.now c.loop-family.family.labels (length c.loop-family.family.labels) []) (TakesFirst c.args.instance.now.arcs (cost_at c.args.potentials.now) c.args.span.free c.args.needed.now c.loop-family.family.labels c.take_label.new.pending)
    c.in-Some.is c.in_ok-taken.ensures in
    omega (arith, (takes.waiting.each c.in-Some.taken.waited (contains_first c.in-Some.taken.waited c.take_label.new.pending)).some)

pub advance-requires-clause-number : goal.advance-requires-clause-number
advance-requires-clause-number c =
    let takes : TakesFirst c.args.instance.now.arcs (cost_at c.args.potentials.now) c.args.span.free c.args.needed.now c.loop-family.family.labels c.take_label.new.pending c.in-Some.taken =
    some_of c.in_ok-taken.field-0 c.in-Some.taken (AreWaiting c.args.instance.now.arcs (cost_at c.args.potentials.now) c.args.span.free c.args.needed.now c.loop-family.family.labels (length c.loop-family.family.labels) []) (TakesFirst c.args.instance.now.arcs (cost_at c.args.potentials.now) c.args.span.free c.args.needed.now c.loop-family.family.labels c.take_label.new.pending)
    c.in-Some.is c.in_ok-taken.ensures in
    (parent_there c.args.instance.now c.requires.network c.args.pair c.requires.pair c.args.span.free (cost_at c.args.potentials.now) c.requires.potentials.each c.args.needed.now c.requires.needed
    c.loop-family.family.labels c.in_ok-family-3.family.labels c.loop-family.pending c.take_label.new.pending c.in-Some.taken c.loop-family.invariant.1 takes (ap (λ (x : Lists). x.labels) c.in_ok-family-3.ensures)).in_range

pub advance-requires-clause-node : goal.advance-requires-clause-node
advance-requires-clause-node c =
    let takes : TakesFirst c.args.instance.now.arcs (cost_at c.args.potentials.now) c.args.span.free c.args.needed.now c.loop-family.family.labels c.take_label.new.pending c.in-Some.taken =
    some_of c.in_ok-taken.field-0 c.in-Some.taken (AreWaiting c.args.instance.now.arcs (cost_at c.args.potentials.now) c.args.span.free c.args.needed.now c.loop-family.family.labels (length c.loop-family.family.labels) []) (TakesFirst c.args.instance.now.arcs (cost_at c.args.potentials.now) c.args.span.free c.args.needed.now c.loop-family.family.labels c.take_label.new.pending)
    c.in-Some.is c.in_ok-taken.ensures in
    (parent_there c.args.instance.now c.requires.network c.args.pair c.requires.pair c.args.span.free (cost_at c.args.potentials.now) c.requires.potentials.each c.args.needed.now c.requires.needed
    c.loop-family.family.labels c.in_ok-family-3.family.labels c.loop-family.pending c.take_label.new.pending c.in-Some.taken c.loop-family.invariant.1 takes (ap (λ (x : Lists). x.labels) c.in_ok-family-3.ensures)).node

pub advance-requires-clause-left : goal.advance-requires-clause-left
advance-requires-clause-left c =
    let takes : TakesFirst c.args.instance.now.arcs (cost_at c.args.potentials.now) c.args.span.free c.args.needed.now c.loop-family.family.labels c.take_label.new.pending c.in-Some.taken =
    some_of c.in_ok-taken.field-0 c.in-Some.taken (AreWaiting c.args.instance.now.arcs (cost_at c.args.potentials.now) c.args.span.free c.args.needed.now c.loop-family.family.labels (length c.loop-family.family.labels) []) (TakesFirst c.args.instance.now.arcs (cost_at c.args.potentials.now) c.args.span.free c.args.needed.now c.loop-family.family.labels c.take_label.new.pending)
    c.in-Some.is c.in_ok-taken.ensures in
    omega (
      arith,
      (parent_there c.args.instance.now c.requires.network c.args.pair c.requires.pair c.args.span.free (cost_at c.args.potentials.now) c.requires.potentials.each c.args.needed.now c.requires.needed
          c.loop-family.family.labels c.in_ok-family-3.family.labels c.loop-family.pending c.take_label.new.pending c.in-Some.taken c.loop-family.invariant.1 takes (ap (λ (x : Lists). x.labels) c.in_ok-family-3.ensures)).left,
    )

pub start_from-requires-in-Some-clause-node : goal.start_from-requires-in-Some-clause-node
start_from-requires-in-Some-clause-node c =
    let takes : TakesFirst c.args.instance.now.arcs (cost_at c.args.potentials.now) c.args.span.free c.args.needed.now c.loop-family.family.labels c.take_label.new.pending c.in-Some.taken =
    some_of c.in_ok-taken.field-0 c.in-Some.taken (AreWaiting c.args.instance.now.arcs (cost_at c.args.potentials.now) c.args.span.free c.args.needed.now c.loop-family.family.labels (length c.loop-family.family.labels) []) (TakesFirst c.args.instance.now.arcs (cost_at c.args.potentials.now) c.args.span.free c.args.needed.now c.loop-family.family.labels c.take_label.new.pending)
    c.in-Some.is c.in_ok-taken.ensures in
    let labels : c.in_ok-family-3.family.labels ≡ c.loop-family.family.labels ++ c.in-Some.taken.label ∷ [] = ap (λ (x : Lists). x.labels) c.in_ok-family-3.ensures in
    let at : label_at c.in_ok-family-3.family.labels c.len-number.result ≡ c.in-Some.taken.label =
    ap (λ (xs : List Label). label_at xs c.len-number.result) labels
    ∙ (ap (λ (n : ℕ). label_at (c.loop-family.family.labels ++ c.in-Some.taken.label ∷ []) n) c.len-number.ensures ∙ at_end c.loop-family.family.labels c.in-Some.taken.label) in
    subst (λ (x : Label). x.node.0 < c.args.instance.now.nodes) (sym at)
    (node_within c.args.instance.now c.requires.network c.args.pair c.requires.pair c.args.span.free (cost_at c.args.potentials.now) c.requires.potentials.each c.args.needed.now c.requires.needed
    c.loop-family.family.labels c.take_label.new.pending c.in-Some.taken takes)

pub loop-family-preserved : goal.loop-family-preserved
loop-family-preserved c =
    let takes : TakesFirst c.args.instance.now.arcs (cost_at c.args.potentials.now) c.args.span.free c.args.needed.now c.loop-family.family.labels c.take_label.new.pending c.in-Some.taken =
    some_of c.in_ok-taken.field-0 c.in-Some.taken (AreWaiting c.args.instance.now.arcs (cost_at c.args.potentials.now) c.args.span.free c.args.needed.now c.loop-family.family.labels (length c.loop-family.family.labels) []) (TakesFirst c.args.instance.now.arcs (cost_at c.args.potentials.now) c.args.span.free c.args.needed.now c.loop-family.family.labels c.take_label.new.pending)
    c.in-Some.is c.in_ok-taken.ensures in (
      ap (λ (x : Lists). x.nodes) c.in_ok-family-3.ensures ∙ c.loop-family.invariant.0,
      searching_next c.args.instance.now c.requires.network c.args.pair c.requires.pair c.args.span.free (cost_at c.args.potentials.now) c.requires.potentials.each c.args.needed.now c.requires.needed
          c.loop-family.family.labels c.in_ok-family-3.family.labels c.loop-family.pending c.take_label.new.pending c.advance.new.pending c.start_from-in-Some.new.pending
          c.in-Some.taken c.len-number.result c.loop-family.invariant.1 takes c.len-number.ensures c.if-number-eq-MAX_LABELS.false
          (ap (λ (x : Lists). x.labels) c.in_ok-family-3.ensures) c.in_ok-advance.ensures c.in_ok-start_from-2.ensures,
    )

pub returns : goal.returns
returns c =
    subst (λ (labels : List Label). AreFound c.args.instance.now.arcs c.args.pair c.args.span labels) (sym c.into_labels.ensures)
    (found_all c.args.instance.now c.requires.network c.args.pair c.requires.pair c.args.span (cost_at c.args.potentials.now) c.requires.potentials.each c.args.needed.now c.requires.needed
    c.loop-family.family.labels c.loop-family.pending c.loop-family.invariant.1
    (none_left c.in_ok-taken.field-0 (AreWaiting c.args.instance.now.arcs (cost_at c.args.potentials.now) c.args.span.free c.args.needed.now c.loop-family.family.labels (length c.loop-family.family.labels) []) (TakesFirst c.args.instance.now.arcs (cost_at c.args.potentials.now) c.args.span.free c.args.needed.now c.loop-family.family.labels c.take_label.new.pending)
    c.in_ok-taken.ensures c.in_default.not-Some))
