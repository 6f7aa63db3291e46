use Rattle.std.proofs.Common.{◌≡◌, [], ◌∷◌, length, sym, ◌∙◌, ap, arith}
use Rattle.std.proofs.lemmas.List.Sorted.{sum_by-IsPermutation}
use Rattle.npp_net.specs.declared.types.NodeId.{NodeId}
use Rattle.npp_short.specs.Reach.{cost_at}
use Rattle.npp_cover.specs.Labels.{no_label}
use Rattle.npp_cover.proofs.ClosureLemmas.{head_within}
use Rattle.npp_labels.specs.declared.pending.Pending.{Pending}
use Rattle.npp_labels.specs.Search.{arc_of}
use Rattle.npp_labels.proofs.PendingLemmas.{label_is, dominated_label, none_left}
use Rattle.npp_labels.proofs.WaitLemmas.{waiting_moved, waiting_next, waiting_end, left_cons, first_waits, rest_later}
use Rattle.npp_labels.proofs.steps.take_label.Goals as goal

pub label_of-label-requires-clause-parent : goal.label_of-label-requires-clause-parent
label_of-label-requires-clause-parent c =
    (first_waits c.args.instance.now.arcs (cost_at c.args.potentials.now) c.args.free c.args.needed.now c.args.family.now.labels (length c.args.family.now.labels) c.loop-next.pending c.pop.new.self c.in-Some.next
    c.in-Some.ensures.0 c.loop-next.invariant).pending.parent

pub label_of-label-requires-clause-arc : goal.label_of-label-requires-clause-arc
label_of-label-requires-clause-arc c =
    (first_waits c.args.instance.now.arcs (cost_at c.args.potentials.now) c.args.free c.args.needed.now c.args.family.now.labels (length c.args.family.now.labels) c.loop-next.pending c.pop.new.self c.in-Some.next
    c.in-Some.ensures.0 c.loop-next.invariant).pending.in_range

pub dominates-requires : goal.dominates-requires
dominates-requires c =
    let is = first_waits c.args.instance.now.arcs (cost_at c.args.potentials.now) c.args.free c.args.needed.now c.args.family.now.labels (length c.args.family.now.labels) c.loop-next.pending c.pop.new.self c.in-Some.next
    c.in-Some.ensures.0 c.loop-next.invariant in
    omega (arith, head_within c.args.instance.now (arc_of c.in-Some.next) c.requires.network is.pending.in_range, ap (λ (n : NodeId). n.0) c.label_of-label.ensures.node, c.requires.nodes)

pub returns-then-not-dominates : goal.returns-then-not-dominates
returns-then-not-dominates c =
    let is = first_waits c.args.instance.now.arcs (cost_at c.args.potentials.now) c.args.free c.args.needed.now c.args.family.now.labels (length c.args.family.now.labels) c.loop-next.pending c.pop.new.self c.in-Some.next
    c.in-Some.ensures.0 c.loop-next.invariant in
    record {
      label = label_is c.args.instance.now.arcs (cost_at c.args.potentials.now) c.args.free c.args.family.now.labels c.in-Some.next c.label_of-label.result c.ranges.free.fits is.pending
          c.label_of-label.ensures;
      undominated = sym c.dominates.ensures ∙ c.if-not-dominates.true;
      waiting = waiting_moved c.args.instance.now.arcs (cost_at c.args.potentials.now) c.args.free c.args.needed.now c.args.family.now.labels (length c.args.family.now.labels) c.loop-next.pending
          (c.in-Some.next ∷ c.pop.new.self) c.in-Some.ensures.0 c.loop-next.invariant;
      first = rest_later c.in-Some.next c.loop-next.pending c.pop.new.self c.in-Some.ensures.0 c.in-Some.ensures.1;
    }

pub overflow_sub-left : goal.overflow_sub-left
overflow_sub-left c =
    let is = first_waits c.args.instance.now.arcs (cost_at c.args.potentials.now) c.args.free c.args.needed.now c.args.family.now.labels (length c.args.family.now.labels) c.loop-next.pending c.pop.new.self c.in-Some.next
    c.in-Some.ensures.0 c.loop-next.invariant in
    omega (arith, is.some)

pub advance-requires-clause-number : goal.advance-requires-clause-number
advance-requires-clause-number c =
    (first_waits c.args.instance.now.arcs (cost_at c.args.potentials.now) c.args.free c.args.needed.now c.args.family.now.labels (length c.args.family.now.labels) c.loop-next.pending c.pop.new.self c.in-Some.next
    c.in-Some.ensures.0 c.loop-next.invariant).pending.parent

pub advance-requires-clause-node : goal.advance-requires-clause-node
advance-requires-clause-node c =
    c.requires.labels c.in-Some.next.parent no_label
    (first_waits c.args.instance.now.arcs (cost_at c.args.potentials.now) c.args.free c.args.needed.now c.args.family.now.labels (length c.args.family.now.labels) c.loop-next.pending c.pop.new.self c.in-Some.next
    c.in-Some.ensures.0 c.loop-next.invariant).pending.parent

pub advance-requires-clause-left : goal.advance-requires-clause-left
advance-requires-clause-left c =
    let is = first_waits c.args.instance.now.arcs (cost_at c.args.potentials.now) c.args.free c.args.needed.now c.args.family.now.labels (length c.args.family.now.labels) c.loop-next.pending c.pop.new.self c.in-Some.next
    c.in-Some.ensures.0 c.loop-next.invariant in
    omega (arith, is.within)

pub loop-next-smaller : goal.loop-next-smaller
loop-next-smaller c =
    let is = first_waits c.args.instance.now.arcs (cost_at c.args.potentials.now) c.args.free c.args.needed.now c.args.family.now.labels (length c.args.family.now.labels) c.loop-next.pending c.pop.new.self c.in-Some.next
    c.in-Some.ensures.0 c.loop-next.invariant in
    omega (
      arith,
      is.some,
      c.in_ok-advance.ensures.lefts,
      left_cons c.in-Some.next c.pop.new.self,
      sum_by-IsPermutation (λ (w : Pending). w.left) c.loop-next.pending (c.in-Some.next ∷ c.pop.new.self) c.in-Some.ensures.0,
    )

pub loop-next-preserved : goal.loop-next-preserved
loop-next-preserved c =
    let is = first_waits c.args.instance.now.arcs (cost_at c.args.potentials.now) c.args.free c.args.needed.now c.args.family.now.labels (length c.args.family.now.labels) c.loop-next.pending c.pop.new.self c.in-Some.next
    c.in-Some.ensures.0 c.loop-next.invariant in
    waiting_next c.args.instance.now.arcs (cost_at c.args.potentials.now) c.args.free c.args.needed.now c.args.family.now.labels (length c.args.family.now.labels) c.in-Some.next c.pop.new.self c.advance.new.pending
    (waiting_moved c.args.instance.now.arcs (cost_at c.args.potentials.now) c.args.free c.args.needed.now c.args.family.now.labels (length c.args.family.now.labels) c.loop-next.pending
    (c.in-Some.next ∷ c.pop.new.self) c.in-Some.ensures.0 c.loop-next.invariant)
    (dominated_label c.args.instance.now.arcs (cost_at c.args.potentials.now) c.args.free c.args.family.now.labels c.in-Some.next c.label_of-label.result is.pending
    (label_is c.args.instance.now.arcs (cost_at c.args.potentials.now) c.args.free c.args.family.now.labels c.in-Some.next c.label_of-label.result c.ranges.free.fits is.pending
    c.label_of-label.ensures)
    (sym c.dominates.ensures ∙ c.if-not-dominates.false))
    c.in_ok-advance.ensures

pub returns : goal.returns
returns c =
    waiting_end c.args.instance.now.arcs (cost_at c.args.potentials.now) c.args.free c.args.needed.now c.args.family.now.labels (length c.args.family.now.labels) c.loop-next.pending
    (none_left c.pop.result (c.loop-next.pending ≡ []) _ c.pop.ensures c.in_default.not-Some) c.loop-next.invariant
