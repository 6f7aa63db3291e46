use Rattle.std.proofs.Common.{◌≡◌, ◌<◌, ◌≤◌, ◌+◌, ap, sym, ◌∙◌, arith, map, length, subst}
use Rattle.std.proofs.lemmas.List.{length-map}
use Rattle.npp_frac.specs.Fits.{limit_of}
use Rattle.npp_check.specs.Rules.{sum_of}
use Rattle.npp_check.proofs.CountedLemmas.{at_map}
use Rattle.npp_check.proofs.PathPriceLemmas.{SumsFrom, refused_as, sums_begin, sums_skip, sums_more, sums_stop, sums_end}
use Rattle.npp_check.proofs.prices.toll_of_set.Goals as goal
use Rattle.npp_check.proofs.prices.toll_of_set.Goals.{then-has+in_ok-sum, else-has}

pub loop-toll-init : goal.loop-toll-init
loop-toll-init g c =
    subst (SumsFrom (limit_of g.N.Exact.WIDTH) (map g.N.Exact.rational c.args.tolls.now) c.args.set 0) (sym c.of_whole-sum.ensures) (sums_begin (limit_of g.N.Exact.WIDTH) (map g.N.Exact.rational c.args.tolls.now) c.args.set)

pub returns-in_err-sum : goal.returns-in_err-sum
returns-in_err-sum g c =
    let size : length (map g.N.Exact.rational c.args.tolls.now) ≡ length c.args.tolls.now = length-map c.args.tolls.now g.N.Exact.rational in
    let lt : c.loop-toll.toll < length (map g.N.Exact.rational c.args.tolls.now) = omega (arith, size, c.loop-toll-test.true) in
    let number = at_map g.N.Exact.rational c.args.tolls.now c.loop-toll.toll c.index-tolls-toll.result c.loop-toll-test.true c.index-tolls-toll.is in
    refused_as g.N.Exact.rational c.from_residual.result c.in_err-sum.field-0.0 _ c.from_residual.ensures.1
    (sums_stop (limit_of g.N.Exact.WIDTH) (map g.N.Exact.rational c.args.tolls.now) c.args.set c.loop-toll.toll (g.N.Exact.rational c.loop-toll.sum) c.in_err-sum.field-0.0 lt (c.has.ensures.0 c.if-has.true)
    (c.in_err-sum.ensures ∙ ap (sum_of (limit_of g.N.Exact.WIDTH) (g.N.Exact.rational c.loop-toll.sum)) number) c.loop-toll.invariant)

pub loop-toll-preserved : goal.loop-toll-preserved
loop-toll-preserved g c =
    let size : length (map g.N.Exact.rational c.args.tolls.now) ≡ length c.args.tolls.now = length-map c.args.tolls.now g.N.Exact.rational in
    let lt : c.loop-toll.toll < length (map g.N.Exact.rational c.args.tolls.now) = omega (arith, size, c.loop-toll-test.true) in
    let number = at_map g.N.Exact.rational c.args.tolls.now c.loop-toll.toll c.index-tolls-toll.result c.loop-toll-test.true c.index-tolls-toll.is in
    elim c.if-has.branch [
      | then-has+in_ok-sum w ↦ subst (λ (x : g.row.N.Denot). SumsFrom (limit_of g.N.Exact.WIDTH) (map g.N.Exact.rational c.args.tolls.now) c.args.set (c.loop-toll.toll + 1) (g.N.Exact.rational x)) (sym w.sum-is)
          (sums_more (limit_of g.N.Exact.WIDTH) (map g.N.Exact.rational c.args.tolls.now) c.args.set c.loop-toll.toll (g.N.Exact.rational c.loop-toll.sum) (g.N.Exact.rational w.in_ok-sum.sum) lt (c.has.ensures.0 w.if-has.true)
          (w.in_ok-sum.ensures ∙ ap (sum_of (limit_of g.N.Exact.WIDTH) (g.N.Exact.rational c.loop-toll.sum)) number) c.loop-toll.invariant)
      | else-has w ↦ subst (λ (x : g.row.N.Denot). SumsFrom (limit_of g.N.Exact.WIDTH) (map g.N.Exact.rational c.args.tolls.now) c.args.set (c.loop-toll.toll + 1) (g.N.Exact.rational x)) (sym w.sum-is)
          (sums_skip (limit_of g.N.Exact.WIDTH) (map g.N.Exact.rational c.args.tolls.now) c.args.set c.loop-toll.toll (g.N.Exact.rational c.loop-toll.sum) c.has.result lt c.has.ensures.1 w.if-has.false c.loop-toll.invariant)
    ]

pub returns : goal.returns
returns g c =
    let size : length (map g.N.Exact.rational c.args.tolls.now) ≡ length c.args.tolls.now = length-map c.args.tolls.now g.N.Exact.rational in
    let le : length (map g.N.Exact.rational c.args.tolls.now) ≤ c.loop-toll.toll = omega (arith, size, c.loop-toll-test.false) in
    sym (sums_end (limit_of g.N.Exact.WIDTH) (map g.N.Exact.rational c.args.tolls.now) c.args.set c.loop-toll.toll (g.N.Exact.rational c.loop-toll.sum) le c.loop-toll.invariant)
