use Rattle.std.proofs.Common.{length, map, sym, ◌∙◌, arith}
use Rattle.npp_frac.specs.Fits.{limit_of}
use Rattle.npp_net.specs.TollSets.{tolls_of}
use Rattle.npp_lp.specs.ReadingLaws.{at-map}
use Rattle.npp_inverse.proofs.TollLaws.{all_left, next_within, next_left, next_stops, none_left, refused_as}
use Rattle.npp_inverse.proofs.offer.toll_sum.Goals as goal

pub loop-toll-init : goal.loop-toll-init
loop-toll-init g c =
    all_left (limit_of g.N.Exact.WIDTH) (length c.args.tolls.now) (map g.N.Exact.rational c.args.tolls.now) (tolls_of c.args.set) _ _ c.requires c.of_whole-sum.ensures
    (c.into_iter-toll-iterator.ensures.into_iter_gives ∙ c.tolls-toll-items.ensures)

pub offset_bounds-tolls-toll : goal.offset_bounds-tolls-toll
offset_bounds-tolls-toll g c =
    let within = next_within (limit_of g.N.Exact.WIDTH) (length c.args.tolls.now) (map g.N.Exact.rational c.args.tolls.now) (tolls_of c.args.set) _ _ c.loop-toll.invariant c.in-Some.toll.0 _ c.in-Some.ensures.steps in
    omega (arith, within)

pub returns-in_err-sum-clause-fits : goal.returns-in_err-sum-clause-fits
returns-in_err-sum-clause-fits g c =
    let m = limit_of g.N.Exact.WIDTH in
    let n = length c.args.tolls.now in
    let T = map g.N.Exact.rational c.args.tolls.now in
    let within = next_within m n T (tolls_of c.args.set) _ _ c.loop-toll.invariant c.in-Some.toll.0 _ c.in-Some.ensures.steps in
    refused_as c.from_residual.result _ c.from_residual.ensures.0
    (next_stops m n T (tolls_of c.args.set) _ _ c.loop-toll.invariant c.in-Some.toll.0 _ c.in-Some.ensures.steps _
    (sym (at-map g.N.Exact.rational c.args.tolls.now c.in-Some.toll.0 c.index-tolls-toll.result within c.index-tolls-toll.is)) c.in_err-sum.ensures.fits)

pub loop-toll-preserved : goal.loop-toll-preserved
loop-toll-preserved g c =
    let within = next_within (limit_of g.N.Exact.WIDTH) (length c.args.tolls.now) (map g.N.Exact.rational c.args.tolls.now) (tolls_of c.args.set) _ _ c.loop-toll.invariant c.in-Some.toll.0 _ c.in-Some.ensures.steps in
    next_left (limit_of g.N.Exact.WIDTH) (length c.args.tolls.now) (map g.N.Exact.rational c.args.tolls.now) (tolls_of c.args.set) _ _ c.loop-toll.invariant c.in-Some.toll.0 _ c.in-Some.ensures.steps _ _
    (sym (at-map g.N.Exact.rational c.args.tolls.now c.in-Some.toll.0 c.index-tolls-toll.result within c.index-tolls-toll.is)) c.in_ok-sum.ensures.fits c.in_ok-sum.ensures.exact

pub returns-clause-fits : goal.returns-clause-fits
returns-clause-fits g c = (none_left (limit_of g.N.Exact.WIDTH) (length c.args.tolls.now) (map g.N.Exact.rational c.args.tolls.now) (tolls_of c.args.set) _ _ c.loop-toll.invariant c.in-None.ensures.steps.0).0

pub returns-clause-exact : goal.returns-clause-exact
returns-clause-exact g c = (none_left (limit_of g.N.Exact.WIDTH) (length c.args.tolls.now) (map g.N.Exact.rational c.args.tolls.now) (tolls_of c.args.set) _ _ c.loop-toll.invariant c.in-None.ensures.steps.0).1
