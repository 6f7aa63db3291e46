use Rattle.std.proofs.Common.{◌≡◌, ◌-◌, ◌+◌, false, List, length, get_or, sym, ◌∙◌, ap, arith, nat_lt}
use Rattle.npp_short.specs.Reach.{cost_at}
use Rattle.npp_cover.specs.declared.label.Label.{Label}
use Rattle.npp_cover.specs.declared.needed.NeededArc.{NeededArc}
use Rattle.npp_cover.specs.Labels.{label_at}
use Rattle.npp_cover.specs.Needed.{id_of, no_needed}
use Rattle.npp_labels.specs.Search.{IsTried, IsUntried, TriesDown, WaitsNext, ways_of}
use Rattle.npp_labels.proofs.WaitLemmas.{stops_here, tries_more, tries_none, waits_next, some_then, none_then, ways_read, way_needed}
use Rattle.npp_labels.proofs.steps.next_untried.Goals as goal

pub loop-rest-init : goal.loop-rest-init
loop-rest-init c = (
  omega arith,
  tries_none c.args.instance.now.arcs (cost_at c.args.potentials.now) c.args.free c.args.needed.now c.args.family.now.labels c.args.number
      (c.requires.needed.each (label_at c.args.family.now.labels c.args.number).node.0 c.requires.node) c.args.left,
)

pub returns-then-not-is_below : goal.returns-then-not-is_below
returns-then-not-is_below c =
    let same : c.at-ways.result.now ≡ ways_of c.args.needed.now c.args.family.now.labels c.args.number =
    ways_read c.args.needed.now c.args.family.now.labels c.args.number c.label-from.result c.at-ways.result.now c.label-from.ensures c.at-ways.ensures in
    let way : NeededArc = get_or c.at-ways.result.now (length c.at-ways.result.now - c.loop-rest.rest) no_needed in
    let none : nat_lt ((label_at c.args.family.now.labels c.args.number).cost + way.onward) c.args.free ≡ false =
    ap (λ (l : Label). nat_lt (l.cost + way.onward) c.args.free) (sym c.label-from.ensures) ∙ (sym c.is_below.ensures ∙ c.if-not-is_below.true) in
    stops_here c.args.instance.now.arcs (cost_at c.args.potentials.now) c.args.free c.args.needed.now c.args.family.now.labels c.args.number
    (c.requires.needed.each (label_at c.args.family.now.labels c.args.number).node.0 c.requires.node) c.args.left c.loop-rest.rest way (omega (arith, c.loop-rest-test.true))
    c.loop-rest.invariant.0 c.requires.left (ap (λ (es : List NeededArc). get_or es (length es - c.loop-rest.rest) no_needed) same) none c.loop-rest.invariant.1

pub untried-next-requires-clause-arc : goal.untried-next-requires-clause-arc
untried-next-requires-clause-arc c =
    let same : c.at-ways.result.now ≡ ways_of c.args.needed.now c.args.family.now.labels c.args.number =
    ways_read c.args.needed.now c.args.family.now.labels c.args.number c.label-from.result c.at-ways.result.now c.label-from.ensures c.at-ways.ensures in
    (way_needed c.args.instance.now.arcs (cost_at c.args.potentials.now) c.args.free c.args.needed.now c.args.family.now.labels c.args.number
    (c.requires.needed.each (label_at c.args.family.now.labels c.args.number).node.0 c.requires.node) c.at-ways.result.now c.loop-rest.rest same (omega (arith, c.loop-rest-test.true))
    (omega (arith, c.loop-rest.invariant.0, c.requires.left))).in_range

pub untried-next-requires-clause-tail : goal.untried-next-requires-clause-tail
untried-next-requires-clause-tail c =
    let same : c.at-ways.result.now ≡ ways_of c.args.needed.now c.args.family.now.labels c.args.number =
    ways_read c.args.needed.now c.args.family.now.labels c.args.number c.label-from.result c.at-ways.result.now c.label-from.ensures c.at-ways.ensures in
    (way_needed c.args.instance.now.arcs (cost_at c.args.potentials.now) c.args.free c.args.needed.now c.args.family.now.labels c.args.number
    (c.requires.needed.each (label_at c.args.family.now.labels c.args.number).node.0 c.requires.node) c.at-ways.result.now c.loop-rest.rest same (omega (arith, c.loop-rest-test.true))
    (omega (arith, c.loop-rest.invariant.0, c.requires.left))).tail

pub returns-then-is_some : goal.returns-then-is_some
returns-then-is_some c =
    let same : c.at-ways.result.now ≡ ways_of c.args.needed.now c.args.family.now.labels c.args.number =
    ways_read c.args.needed.now c.args.family.now.labels c.args.number c.label-from.result c.at-ways.result.now c.label-from.ensures c.at-ways.ensures in
    let way : NeededArc = get_or c.at-ways.result.now (length c.at-ways.result.now - c.loop-rest.rest) no_needed in
    some_then c.untried-next.result
    (IsTried c.args.instance.now.arcs (cost_at c.args.potentials.now) c.args.free c.args.family.now.labels c.args.number (id_of way))
    (TriesDown c.args.instance.now.arcs (cost_at c.args.potentials.now) c.args.free c.args.needed.now c.args.family.now.labels c.args.number c.args.left 0)
    (IsUntried c.args.instance.now.arcs (cost_at c.args.potentials.now) c.args.free c.args.family.now.labels c.args.number (id_of way) c.loop-rest.rest)
    (WaitsNext c.args.instance.now.arcs (cost_at c.args.potentials.now) c.args.free c.args.needed.now c.args.family.now.labels c.args.number c.args.left)
    (sym c.is_some.ensures ∙ c.if-is_some.true) c.untried-next.ensures
    (λ p un.
    waits_next c.args.instance.now.arcs (cost_at c.args.potentials.now) c.args.free c.args.needed.now c.args.family.now.labels c.args.number
    (c.requires.needed.each (label_at c.args.family.now.labels c.args.number).node.0 c.requires.node) c.args.left c.loop-rest.rest way p c.requires.number (omega (arith, c.loop-rest-test.true))
    c.loop-rest.invariant.0 c.requires.left (ap (λ (es : List NeededArc). get_or es (length es - c.loop-rest.rest) no_needed) same) un c.loop-rest.invariant.1)

pub loop-rest-preserved : goal.loop-rest-preserved
loop-rest-preserved c =
    let same : c.at-ways.result.now ≡ ways_of c.args.needed.now c.args.family.now.labels c.args.number =
    ways_read c.args.needed.now c.args.family.now.labels c.args.number c.label-from.result c.at-ways.result.now c.label-from.ensures c.at-ways.ensures in
    let way : NeededArc = get_or c.at-ways.result.now (length c.at-ways.result.now - c.loop-rest.rest) no_needed in
    let tried : IsTried c.args.instance.now.arcs (cost_at c.args.potentials.now) c.args.free c.args.family.now.labels c.args.number (id_of way) =
    none_then c.untried-next.result (IsTried c.args.instance.now.arcs (cost_at c.args.potentials.now) c.args.free c.args.family.now.labels c.args.number (id_of way))
    (IsUntried c.args.instance.now.arcs (cost_at c.args.potentials.now) c.args.free c.args.family.now.labels c.args.number (id_of way) c.loop-rest.rest)
    (sym c.is_some.ensures ∙ c.if-is_some.false) c.untried-next.ensures in (
      omega (arith, c.loop-rest.invariant.0),
      tries_more c.args.instance.now.arcs (cost_at c.args.potentials.now) c.args.free c.args.needed.now c.args.family.now.labels c.args.number
          (c.requires.needed.each (label_at c.args.family.now.labels c.args.number).node.0 c.requires.node) c.args.left c.loop-rest.rest way (omega (arith, c.loop-rest-test.true))
          (omega (arith, c.loop-rest.invariant.0, c.requires.left)) (ap (λ (es : List NeededArc). get_or es (length es - c.loop-rest.rest) no_needed) same) tried c.loop-rest.invariant.1,
    )
