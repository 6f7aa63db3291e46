use Rattle.std.proofs.Common.{◌≡◌, ℕ, ◌<◌, ◌∙◌, List, true, false, Bool, cond, Some, None, ap, sym, subst, nat_eq, nat_lt, ◌&&◌, All}
use Rattle.std.proofs.lemmas.List.{get_or_default}
use Rattle.npp_net.specs.declared.types.ArcId.{ArcId}
use Rattle.npp_net.specs.declared.types.Commodity.{Commodity}
use Rattle.npp_net.specs.Walk.{walk_cost}
use Rattle.npp_net.specs.Distance.{IsDistance}
use Rattle.npp_short.specs.Reach.{cost_at}
use Rattle.npp_cover.specs.declared.label.Label.{Label}
use Rattle.npp_cover.specs.declared.fault.CoverFault.TheVariants.{MissingOrigin}
use Rattle.npp_cover.specs.Useful.{commodity_at}
use Rattle.npp_cover.specs.Labels.{no_label}
use Rattle.npp_cover.specs.Fault.{is_free_walk, open_fault, is_no_label}
use Rattle.npp_cover.specs.Closed.{IsFreeWalk}
use Rattle.npp_cover.specs.Growing.{Growing, IsGrowing}
use Rattle.npp_cover.proofs.FaultLemmas.{closed_of}
use Rattle.npp_cover.proofs.FreeLemmas.{is_free}
use Rattle.npp_cover.proofs.growing.GrowingDraft.close.Goals as goal

pub judge_closure-requires-clause-nodes : goal.judge_closure-requires-clause-nodes
judge_closure-requires-clause-nodes c =
    let is : IsGrowing c.args.instance.now (record { commodity = c.self.inside.k; span = c.self.inside.span; labels = c.self.inside.labels.items }) =
    subst (λ (x : Growing). IsGrowing c.args.instance.now x) (sym c.self.view_is) c.requires.draft in
    subst (λ (xs : List Label). All (λ l. l.node.0 < c.args.instance.now.nodes) xs) (sym c.deref-3.ensures.value)
    (λ i d lt. subst (λ (l : Label). l.node.0 < c.args.instance.now.nodes) (get_or_default c.self.inside.labels.items i no_label d lt) (is.labels.nodes i lt))

pub of_labels-requires-clause-closed : goal.of_labels-requires-clause-closed
of_labels-requires-clause-closed c =
    let is : IsGrowing c.args.instance.now (record { commodity = c.self.inside.k; span = c.self.inside.span; labels = c.self.inside.labels.items }) =
    subst (λ (x : Growing). IsGrowing c.args.instance.now x) (sym c.self.view_is) c.requires.draft in
    let missing : (is_no_label c.self.inside.labels.items && nat_lt c.self.inside.span.zero c.self.inside.span.free) ≡ false =
    ap (λ (xs : List Label). is_no_label xs && nat_lt c.self.inside.span.zero c.self.inside.span.free) (sym c.deref-2.ensures.value) ∙ (sym c.lacks_start.ensures ∙ c.if-lacks_start.false) in
    closed_of c.args.instance.now c.commodity_at-commodity.ensures.network (commodity_at c.args.instance.now c.self.inside.k) c.self.inside.span (cost_at c.args.potentials.now)
    (subst (λ (x : Growing). (v : ℕ) → v < c.args.instance.now.nodes
    → IsDistance c.args.instance.now.arcs true v (commodity_at c.args.instance.now x.commodity).destination.0 (cost_at c.args.potentials.now v))
    (sym c.self.view_is) c.requires.potentials.each)
    c.self.inside.labels.items is.labels is.few
    (ap (λ (b : Bool). cond b (Some MissingOrigin) None) missing)
    (subst (λ (xs : List Label). open_fault c.args.instance.now.arcs (cost_at c.args.potentials.now) c.self.inside.span.free xs ≡ None)
    c.deref-3.ensures.value c.in_ok-judge_closure.ensures)

pub of_labels-requires-clause-free : goal.of_labels-requires-clause-free
of_labels-requires-clause-free c =
    let k : Commodity = c.commodity_at-commodity.result in
    let passes : (is_free_walk c.args.instance.now.arcs k.origin.0 k.destination.0 c.deref.result.now && nat_eq (walk_cost c.args.instance.now.arcs c.deref.result.now) c.self.inside.span.free) ≡ true =
    sym c.is_free_walk.ensures ∙ c.if-not-is_free_walk.false in
    subst (λ (x : Commodity). IsFreeWalk c.args.instance.now.arcs x c.self.inside.span.free c.args.free.arcs.items) c.commodity_at-commodity.ensures.same
    (subst (λ (xs : List ArcId). IsFreeWalk c.args.instance.now.arcs k c.self.inside.span.free xs) c.deref.ensures.value
    (is_free c.args.instance.now.arcs k c.self.inside.span.free c.deref.result.now passes))
