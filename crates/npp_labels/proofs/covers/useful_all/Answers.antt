use Rattle.std.proofs.Common.{◌+◌, ◌++◌, ◌∷◌, [], List, length, ap, sym, ◌∙◌, subst, arith}
use Rattle.npp_cover.specs.Replaces.{CoverValue}
use Rattle.npp_net.specs.declared.types.Span.{Span}
use Rattle.npp_net.specs.Network.{no_commodity}
use Rattle.npp_labels.proofs.CoverLemmas.{HasCovers, span_at, covers_past, covers_kept, covers_all}
use Rattle.npp_labels.proofs.LimitLemmas.{none_passed}
use Rattle.npp_labels.proofs.covers.useful_all.Goals as goal

abbrev no_span : Span
no_span = record { free = 0; zero = 0 }

pub bounds-spans-k : goal.bounds-spans-k
bounds-spans-k c =
    let net = c.args.instance.now in
    (span_at net.arcs net.commodities c.args.spans.now c.loop-k.k no_commodity no_span c.requires (omega (arith, ap length c.commodities.ensures.list))).within

pub useful_plan-requires-clause-span : goal.useful_plan-requires-clause-span
useful_plan-requires-clause-span c =
    let net = c.args.instance.now in
    (span_at net.arcs net.commodities c.args.spans.now c.loop-k.k no_commodity no_span c.requires (omega (arith, ap length c.commodities.ensures.list))).here

pub returns-then-paths-gt-MAX_PATHS-clause-refused : goal.returns-then-paths-gt-MAX_PATHS-clause-refused
returns-then-paths-gt-MAX_PATHS-clause-refused c =
    let net = c.args.instance.now in
    covers_past net.arcs net.commodities c.loop-k.k c.loop-k.covers.items c.loop-k.paths no_commodity c.in_ok-plan.plan c.path_count.result
    (omega (arith, ap length c.commodities.ensures.list)) c.path_count.ensures c.in_ok-plan.ensures c.loop-k.invariant c.if-paths-gt-MAX_PATHS.true

pub loop-k-preserved : goal.loop-k-preserved
loop-k-preserved c =
    let net = c.args.instance.now in
    subst (λ (xs : List CoverValue). HasCovers c.args.instance.now.arcs c.args.instance.now.commodities (c.loop-k.k + 1) xs (c.loop-k.paths + c.path_count.result))
    (sym (c.in_ok-push.ensures.items ∙ ap (λ (x : CoverValue). c.loop-k.covers.items ++ x ∷ []) c.in_ok-into_cover.ensures))
    (covers_kept net.arcs net.commodities c.loop-k.k c.loop-k.covers.items c.loop-k.paths no_commodity c.in_ok-plan.plan c.path_count.result
    (omega (arith, ap length c.commodities.ensures.list)) c.path_count.ensures c.in_ok-plan.ensures c.loop-k.invariant c.if-paths-gt-MAX_PATHS.false)

pub returns-clause-kept : goal.returns-clause-kept
returns-clause-kept c =
    let net = c.args.instance.now in
    let all = covers_all net.arcs net.commodities c.loop-k.k c.loop-k.covers.items c.loop-k.paths (omega (arith, ap length c.commodities.ensures.list)) c.loop-k.invariant in
    none_passed net.arcs net.commodities c.loop-k.covers.items all (omega (arith, c.loop-k.invariant.total, c.loop-k.invariant.limit))
