use Rattle.std.proofs.Common.{sym, ◌∙◌, map, true, false, refl}
use Rattle.npp_frac.specs.Fits.{limit_of}
use Rattle.npp_check.proofs.PathPriceLemmas.{paths_stop, paths_step, paths_end, unit_refused}
use Rattle.npp_check.proofs.prices.none_cheaper.Goals as goal

pub loop-path-init : goal.loop-path-init
loop-path-init g c = refl

pub returns-in_err-useful_price : goal.returns-in_err-useful_price
returns-in_err-useful_price g c =
    unit_refused c.from_residual.result c.in_err-useful_price.field-0.0 _ c.from_residual.ensures.1
    (paths_stop (limit_of g.N.Exact.WIDTH) (map g.N.Exact.rational c.args.tolls.now) (g.N.Exact.rational c.args.printed) c.args.paths.now c.loop-path.path-index c.path-item.result c.in_err-useful_price.field-0.0
    c.loop-path-test.true c.path-item.is c.in_err-useful_price.ensures c.loop-path.invariant)

pub returns-then-is_below : goal.returns-then-is_below
returns-then-is_below g c =
    sym (paths_step (limit_of g.N.Exact.WIDTH) (map g.N.Exact.rational c.args.tolls.now) (g.N.Exact.rational c.args.printed) c.args.paths.now c.loop-path.path-index c.path-item.result (g.N.Exact.rational c.in_ok-useful_price.field-0) true
    c.loop-path-test.true c.path-item.is c.in_ok-useful_price.ensures (sym c.if-is_below.true ∙ c.is_below.ensures) c.loop-path.invariant)

pub loop-path-preserved : goal.loop-path-preserved
loop-path-preserved g c =
    paths_step (limit_of g.N.Exact.WIDTH) (map g.N.Exact.rational c.args.tolls.now) (g.N.Exact.rational c.args.printed) c.args.paths.now c.loop-path.path-index c.path-item.result (g.N.Exact.rational c.in_ok-useful_price.field-0) false
    c.loop-path-test.true c.path-item.is c.in_ok-useful_price.ensures (sym c.if-is_below.false ∙ c.is_below.ensures) c.loop-path.invariant

pub returns : goal.returns
returns g c =
    paths_end (limit_of g.N.Exact.WIDTH) (map g.N.Exact.rational c.args.tolls.now) (g.N.Exact.rational c.args.printed) c.args.paths.now c.loop-path.path-index c.loop-path-test.false c.loop-path.invariant
