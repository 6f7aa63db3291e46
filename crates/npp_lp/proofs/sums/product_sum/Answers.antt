use Rattle.std.proofs.Common.{◌<◌, length, map, arith}
use Rattle.npp_frac.specs.Fits.{limit_of}
use Rattle.npp_lp.specs.Programs.{at}
use Rattle.npp_lp.specs.Meaning.{overflow_of}
use Rattle.npp_lp.proofs.Adding.{checked_sum_begins, checked_sum_goes_on, checked_sum_ends, handed_on}
use Rattle.npp_lp.specs.ReadingLaws.{at-map}
use Rattle.npp_lp.proofs.sums.product_sum.Goals as goal

pub loop-place-init : goal.loop-place-init
loop-place-init g c = checked_sum_begins (limit_of g.N.Exact.WIDTH) _ _ (g.N.Exact.rational c.of_whole-sum.result) c.of_whole-sum.ensures

pub loop-place-preserved : goal.loop-place-preserved
loop-place-preserved g c =
    let v = g.N.Exact.rational in
    let within : c.loop-place.place < length c.args.b.now = omega arith in
    checked_sum_goes_on (limit_of g.N.Exact.WIDTH) (at (map v c.args.a.now)) (at (map v c.args.b.now)) c.loop-place.place (v c.loop-place.sum) (v c.in_ok-sum.sum) _ _
    (at-map v c.args.a.now c.loop-place.place c.index-a-place.result c.loop-place-test.true c.index-a-place.is)
    (at-map v c.args.b.now c.loop-place.place c.index-b-place.result within c.index-b-place.is)
    c.loop-place.invariant c.in_ok-sum.ensures

pub returns-in_err-sum : goal.returns-in_err-sum
returns-in_err-sum g c =
    let v = g.N.Exact.rational in
    let within : c.loop-place.place < length c.args.b.now = omega arith in
    handed_on v (overflow_of v) c.from_residual.result _ _ c.from_residual.ensures.1
    (checked_sum_ends (limit_of g.N.Exact.WIDTH) (at (map v c.args.a.now)) (at (map v c.args.b.now)) (length c.args.a.now) c.loop-place.place (v c.loop-place.sum) _ _ _ c.loop-place-test.true
    (at-map v c.args.a.now c.loop-place.place c.index-a-place.result c.loop-place-test.true c.index-a-place.is)
    (at-map v c.args.b.now c.loop-place.place c.index-b-place.result within c.index-b-place.is)
    c.loop-place.invariant c.in_err-sum.ensures)
