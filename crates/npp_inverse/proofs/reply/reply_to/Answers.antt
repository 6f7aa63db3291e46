use Rattle.std.proofs.Common.{◌≡◌, ◌<◌, length, map, Some, ap, subst, arith}
use Rattle.std.proofs.lemmas.List.{map-append}
use Rattle.npp_frac.specs.Fits.{limit_of}
use Rattle.npp_inverse.proofs.ReplyLaws.{stop_below, nothing_yet, one_more, stops_here, whole_reply}
use Rattle.npp_inverse.proofs.reply.reply_to.Goals as goal

pub loop-k-init : goal.loop-k-init
loop-k-init g c =
    nothing_yet (limit_of g.N.Exact.WIDTH) c.args.table.now (map g.N.Exact.rational c.args.tolls.now) _ _ _ c.new-paths.ensures.items (ap (map g.N.Exact.rational) c.new-paid.ensures.items) c.of_whole-revenue.ensures

pub next_reply-requires-clause-revenue : goal.next_reply-requires-clause-revenue
next_reply-requires-clause-revenue g c = c.loop-k.invariant.earns

pub returns-in-Err-clause-overflow : goal.returns-in-Err-clause-overflow
returns-in-Err-clause-overflow g c k e =
    let same : c.loop-k.k ≡ k = cc in
    let inside : c.loop-k.k < length c.args.table.now.covers = omega (arith, c.commodities-k-end.ensures.count, c.loop-k-test.true) in
    subst (λ i. ◌≡◌ (stop_below (limit_of g.N.Exact.WIDTH) c.args.table.now (map g.N.Exact.rational c.args.tolls.now) (length c.args.table.now.covers)) (Some i)) same
    (stops_here (limit_of g.N.Exact.WIDTH) c.args.table.now (map g.N.Exact.rational c.args.tolls.now) _ c.loop-k.k inside c.loop-k.invariant.fits c.in-Err.ensures.fits)

pub loop-k-preserved : goal.loop-k-preserved
loop-k-preserved g c =
    let next = one_more (limit_of g.N.Exact.WIDTH) c.args.table.now (map g.N.Exact.rational c.args.tolls.now) c.loop-k.k c.in-Ok.step.0.path c.loop-k.paths.items (g.N.Exact.rational c.in-Ok.step.0.toll) (map g.N.Exact.rational c.loop-k.paid.items) _ (g.N.Exact.rational c.in-Ok.step.1) c.loop-k.invariant
    c.in-Ok.ensures.fits c.in-Ok.ensures.path c.in-Ok.ensures.toll c.in-Ok.ensures.revenue in
    rw (c.in_ok-push.ensures.items, c.in_ok-push-2.ensures.items, map-append) next

pub returns-clause-fits : goal.returns-clause-fits
returns-clause-fits g c = (whole_reply (limit_of g.N.Exact.WIDTH) c.args.table.now (map g.N.Exact.rational c.args.tolls.now) c.loop-k.k _ _ _ c.loop-k.invariant (omega (arith, c.commodities-k-end.ensures.count))).0

pub returns-clause-reply : goal.returns-clause-reply
returns-clause-reply g c =
    rw (c.of.ensures, c.of-2.ensures)
    (whole_reply (limit_of g.N.Exact.WIDTH) c.args.table.now (map g.N.Exact.rational c.args.tolls.now) c.loop-k.k _ _ _ c.loop-k.invariant (omega (arith, c.commodities-k-end.ensures.count))).1
