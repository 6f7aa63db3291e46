use Rattle.std.proofs.Common.{◌≡◌, ℕ, ap, sym, ◌∙◌, arith, map, length, ◌<◌}
use Rattle.npp_frac.specs.Fits.{limit_of}
use Rattle.npp_lp.specs.Programs.{at}
use Rattle.npp_net.specs.Network.{toll_count}
use Rattle.npp_net.specs.Walk.{walk_tolls}
use Rattle.npp_check.specs.Rules.{counted_sum}
use Rattle.npp_check.proofs.CountedLemmas.{starts_at, step_refused, step_taken, at_map}
use Rattle.npp_check.proofs.paths.toll_of_walk.Goals as goal

pub loop-toll-init : goal.loop-toll-init
loop-toll-init g c = starts_at g.N.Exact.rational (limit_of g.N.Exact.WIDTH) (λ a. walk_tolls c.args.instance.now.arcs c.args.arcs.now a) (at (map g.N.Exact.rational c.args.tolls.now)) c.of_whole-sum.result c.of_whole-sum.ensures

pub returns-in_err-sum : goal.returns-in_err-sum
returns-in_err-sum g c =
    let below : c.loop-toll.toll < toll_count c.args.instance.now.arcs = omega arith in
    let there : c.loop-toll.toll < length c.args.tolls.now = omega arith in
    let times : c.from.result ≡ walk_tolls c.args.instance.now.arcs c.args.arcs.now c.loop-toll.toll = omega arith in
    step_refused g.N.Exact.rational (limit_of g.N.Exact.WIDTH) (toll_count c.args.instance.now.arcs) (λ a. walk_tolls c.args.instance.now.arcs c.args.arcs.now a)
    (at (map g.N.Exact.rational c.args.tolls.now)) c.loop-toll.toll c.loop-toll.sum c.index-tolls-toll.result c.from.result below c.loop-toll.invariant times
    (at_map g.N.Exact.rational c.args.tolls.now c.loop-toll.toll c.index-tolls-toll.result there c.index-tolls-toll.is)
    c.from_residual.result c.in_err-sum.field-0.0 c.from_residual.ensures.1 c.in_err-sum.ensures

pub loop-toll-preserved : goal.loop-toll-preserved
loop-toll-preserved g c =
    let below : c.loop-toll.toll < toll_count c.args.instance.now.arcs = omega arith in
    let there : c.loop-toll.toll < length c.args.tolls.now = omega arith in
    let times : c.from.result ≡ walk_tolls c.args.instance.now.arcs c.args.arcs.now c.loop-toll.toll = omega arith in
    step_taken g.N.Exact.rational (limit_of g.N.Exact.WIDTH) (toll_count c.args.instance.now.arcs) (λ a. walk_tolls c.args.instance.now.arcs c.args.arcs.now a)
    (at (map g.N.Exact.rational c.args.tolls.now)) c.loop-toll.toll c.loop-toll.sum c.index-tolls-toll.result c.from.result below c.loop-toll.invariant times
    (at_map g.N.Exact.rational c.args.tolls.now c.loop-toll.toll c.index-tolls-toll.result there c.index-tolls-toll.is)
    c.in_ok-sum.sum c.in_ok-sum.ensures

pub returns : goal.returns
returns g c =
    let whole : c.loop-toll.toll ≡ toll_count c.args.instance.now.arcs = omega arith in
    sym (ap (λ (n : ℕ). counted_sum (limit_of g.N.Exact.WIDTH) n (λ a. walk_tolls c.args.instance.now.arcs c.args.arcs.now a) (at (map g.N.Exact.rational c.args.tolls.now))) (sym whole) ∙ c.loop-toll.invariant)
