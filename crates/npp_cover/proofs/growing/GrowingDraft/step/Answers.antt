use Rattle.std.proofs.Common.{◌≡◌, ℕ, ◌<◌, ◌∙◌, List, true, None, ap, sym, subst, arith}
use Rattle.npp_net.specs.Distance.{IsDistance}
use Rattle.npp_short.specs.Reach.{cost_at}
use Rattle.npp_cover.specs.declared.label.Label.{Label}
use Rattle.npp_cover.specs.Useful.{commodity_at}
use Rattle.npp_cover.specs.Labels.{step_label}
use Rattle.npp_cover.specs.Fault.{step_fault}
use Rattle.npp_cover.specs.Growing.{Growing, IsGrowing}
use Rattle.npp_cover.proofs.GrowingLemmas.{grows}
use Rattle.npp_cover.proofs.growing.GrowingDraft.step.Goals as goal

pub returns-clause-draft : goal.returns-clause-draft
returns-clause-draft c =
    let g : Growing = record { commodity = c.self.inside.k; span = c.self.inside.span; labels = c.self.inside.labels.items } in
    let none : step_fault c.args.instance.now.arcs (cost_at c.args.potentials.now) c.self.inside.span.free c.self.inside.labels.items c.args.step ≡ None =
    subst (λ (xs : List Label). step_fault c.args.instance.now.arcs (cost_at c.args.potentials.now) c.self.inside.span.free xs c.args.step ≡ None)
    c.deref.ensures.value c.in_ok-label.ensures.fault in
    let made : c.in_ok-label.label ≡ step_label c.args.instance.now.arcs c.self.inside.labels.items c.args.step =
    c.in_ok-label.ensures.label ∙ ap (λ (xs : List Label). step_label c.args.instance.now.arcs xs c.args.step) c.deref.ensures.value in
    grows c.args.instance.now c.judge_step.ensures.network g (cost_at c.args.potentials.now)
    (subst (λ (x : Growing). (v : ℕ) → v < c.args.instance.now.nodes
    → IsDistance c.args.instance.now.arcs true v (commodity_at c.args.instance.now x.commodity).destination.0 (cost_at c.args.potentials.now v))
    (sym c.self.view_is) c.requires.potentials.each)
    c.args.step c.in_ok-label.label c.push.new.self.items
    (subst (λ (x : Growing). IsGrowing c.args.instance.now x) (sym c.self.view_is) c.requires.draft)
    (omega (arith, c.len.ensures, c.if-len-ge-MAX_LABELS.false)) none made c.in_ok-push.ensures.items
