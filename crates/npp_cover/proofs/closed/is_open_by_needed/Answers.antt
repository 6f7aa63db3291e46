use Rattle.std.proofs.Common.{◌≡◌, inl, inr, ◌∙◌, ◌<◌, All, ap, sym, subst, arith, ℕ, false, get_or, Option, IfSome}
use Rattle.std.proofs.lemmas.List.{get_or_default}
use Rattle.npp_short.specs.Reach.{cost_at}
use Rattle.npp_cover.specs.declared.needed.NeededArc.{NeededArc}
use Rattle.npp_cover.specs.Labels.{label_at}
use Rattle.npp_cover.specs.Fault.{is_open}
use Rattle.npp_cover.specs.Needed.{id_of, no_needed, IsPassed}
use Rattle.npp_cover.proofs.StandLemmas.{none_open, needed_here, noted_is_shut, heads_within, up_to_next}
use Rattle.npp_cover.proofs.closed.is_open_by_needed.Goals as goal
use Rattle.npp_cover.proofs.closed.is_open_by_needed.Goals.{then-not-is_past+else-is_open, else-not-is_past}

pub is_open-requires-clause-arc : goal.is_open-requires-clause-arc
is_open-requires-clause-arc c =
    let needed = needed_here c.args.instance.now.arcs (cost_at c.args.potentials.now) c.args.free c.args.instance.now.nodes c.args.needed.now (label_at c.args.labels.now c.args.number)
    c.label_at.result c.at-ways.result.now c.requires.needed c.label_at.ensures c.requires.node c.at-ways.ensures in
    (needed.each c.loop-place.place no_needed c.loop-place-test.true).in_range

pub passed_after-passed-requires-clause-heads : goal.passed_after-passed-requires-clause-heads
passed_after-passed-requires-clause-heads c =
    let needed = needed_here c.args.instance.now.arcs (cost_at c.args.potentials.now) c.args.free c.args.instance.now.nodes c.args.needed.now (label_at c.args.labels.now c.args.number)
    c.label_at.result c.at-ways.result.now c.requires.needed c.label_at.ensures c.requires.node c.at-ways.ensures in
    subst (λ (n : ℕ). All (λ (e : NeededArc). e.head < n) c.at-ways.result.now) (sym c.requires.nodes)
    (heads_within c.args.instance.now (cost_at c.args.potentials.now) c.args.free (label_at c.args.labels.now c.args.number).node.0 c.at-ways.result.now c.requires.network needed)

pub loop-place-preserved : goal.loop-place-preserved
loop-place-preserved c =
    let needed = needed_here c.args.instance.now.arcs (cost_at c.args.potentials.now) c.args.free c.args.instance.now.nodes c.args.needed.now (label_at c.args.labels.now c.args.number)
    c.label_at.result c.at-ways.result.now c.requires.needed c.label_at.ensures c.requires.node c.at-ways.ensures in
    let shut : ℕ → Type 0 = λ j. is_open c.args.instance.now.arcs (cost_at c.args.potentials.now) c.args.free c.args.labels.now (label_at c.args.labels.now c.args.number) (id_of (get_or c.at-ways.result.now j no_needed)) ≡ false in
    elim c.if-not-is_past.branch [
      | then-not-is_past+else-is_open w ↦ (
        λ j lt. up_to_next shut c.loop-place.place c.loop-place.invariant.0 (sym w.if-is_open.ensures) j lt,
        subst (λ (o : Option NeededArc). IfSome o (IsPassed c.args.labels.now (label_at c.args.labels.now c.args.number))) (sym w.passed-is) w.passed_after-passed.ensures,
      )
      | else-not-is_past w ↦ (
        λ j lt. up_to_next shut c.loop-place.place c.loop-place.invariant.0
            (noted_is_shut c.args.instance.now.arcs (cost_at c.args.potentials.now) c.args.free c.args.labels.now c.args.number c.at-ways.result.now c.requires.number needed
            c.loop-place.passed (get_or c.at-ways.result.now c.loop-place.place no_needed) (needed.each c.loop-place.place no_needed c.loop-place-test.true) c.loop-place.invariant.1 (sym w.if-not-is_past.ensures)) j lt,
        subst (λ (o : Option NeededArc). IfSome o (IsPassed c.args.labels.now (label_at c.args.labels.now c.args.number))) (sym w.passed-is) c.loop-place.invariant.1,
      )
    ]

pub returns : goal.returns
returns c =
    let needed = needed_here c.args.instance.now.arcs (cost_at c.args.potentials.now) c.args.free c.args.instance.now.nodes c.args.needed.now (label_at c.args.labels.now c.args.number)
    c.label_at.result c.at-ways.result.now c.requires.needed c.label_at.ensures c.requires.node c.at-ways.ensures in
    none_open c.args.instance.now.arcs (cost_at c.args.potentials.now) c.args.free c.args.labels.now c.args.number c.at-ways.result.now c.requires.number needed
    (λ j d lt.
    ap (λ (e : NeededArc). is_open c.args.instance.now.arcs (cost_at c.args.potentials.now) c.args.free c.args.labels.now (label_at c.args.labels.now c.args.number) (id_of e))
    (get_or_default c.at-ways.result.now j d no_needed lt)
    ∙ c.loop-place.invariant.0 j (omega (arith, c.loop-place-test.false)))
