use Rattle.std.proofs.Common.{◌<◌, ◌^◌, nat_abs, map, ap, ◌∙◌, arith}
use Rattle.std.proofs.lemmas.Int.{ints}
use Rattle.npp_frac.specs.Rational.{whole}
use Rattle.npp_frac.specs.Fits.{limit_of}
use Rattle.npp_frac.specs.FitsLaws.{limit_at_least}
use Rattle.npp_rows.proofs.EntryLaws.{small_read, whole_read}
use Rattle.npp_inverse.proofs.TollLaws.{refused_as}
use Rattle.npp_inverse.proofs.AskLaws.{tolls_inside, cost_small, tolls_stop, price_fits, offered}
use Rattle.npp_inverse.proofs.offer.offer_of.Goals as goal

pub toll_sum-requires : goal.toll_sum-requires
toll_sum-requires g c =
    let inside = tolls_inside c.args.table.now (map g.N.Exact.rational c.args.tolls.now) c.args.k c.args.path c.useful_path-useful.result.now c.useful_path-useful.ensures.limits c.requires.useful c.useful_path-useful.ensures.value in
    rw c.requires.size inside

pub returns-in_err-toll-clause-fits : goal.returns-in_err-toll-clause-fits
returns-in_err-toll-clause-fits g c =
    refused_as c.from_residual.result _ c.from_residual.ensures.0
    (tolls_stop c.args.table.now (map g.N.Exact.rational c.args.tolls.now) c.args.k c.args.path c.useful_path-useful.result.now c.useful_path-useful.ensures.limits c.requires.useful c.useful_path-useful.ensures.value
    (limit_of g.N.Exact.WIDTH) c.in_err-toll.ensures.fits)

pub overflow_cast-useful : goal.overflow_cast-useful
overflow_cast-useful g c =
    let small = cost_small c.args.table.now (map g.N.Exact.rational c.args.tolls.now) c.args.k c.args.path c.useful_path-useful.result.now c.useful_path-useful.ensures.limits c.requires.useful c.useful_path-useful.ensures.value in
    omega (arith, small)

pub of_whole-requires : goal.of_whole-requires
of_whole-requires g c =
    let small = cost_small c.args.table.now (map g.N.Exact.rational c.args.tolls.now) c.args.k c.args.path c.useful_path-useful.result.now c.useful_path-useful.ensures.limits c.requires.useful c.useful_path-useful.ensures.value in
    let size : nat_abs c.from.result < 2 ^ 31 = omega (arith, ints, small, c.from.ensures) in
    rw (small_read c.from.result size) (omega (arith, size, limit_at_least g.N.Exact.WIDTH g.met.N.Exact.width))

pub returns-in_err-price-clause-fits : goal.returns-in_err-price-clause-fits
returns-in_err-price-clause-fits g c =
    let small = cost_small c.args.table.now (map g.N.Exact.rational c.args.tolls.now) c.args.k c.args.path c.useful_path-useful.result.now c.useful_path-useful.ensures.limits c.requires.useful c.useful_path-useful.ensures.value in
    let size : nat_abs c.from.result < 2 ^ 31 = omega (arith, ints, small, c.from.ensures) in
    refused_as c.from_residual-in_err-price.result _ c.from_residual-in_err-price.ensures.0
    (price_fits c.args.table.now (map g.N.Exact.rational c.args.tolls.now) c.args.k c.args.path c.useful_path-useful.result.now c.useful_path-useful.ensures.limits c.requires.useful c.useful_path-useful.ensures.value
    (limit_of g.N.Exact.WIDTH) (g.N.Exact.rational c.of_whole.result) (g.N.Exact.rational c.in_ok-toll.toll) c.in_ok-toll.ensures.fits
    (c.of_whole.ensures ∙ whole_read c.from.result size ∙ ap whole c.from.ensures) c.in_ok-toll.ensures.exact _ c.in_err-price.ensures.fits)

pub returns-clause-fits : goal.returns-clause-fits
returns-clause-fits g c =
    let small = cost_small c.args.table.now (map g.N.Exact.rational c.args.tolls.now) c.args.k c.args.path c.useful_path-useful.result.now c.useful_path-useful.ensures.limits c.requires.useful c.useful_path-useful.ensures.value in
    let size : nat_abs c.from.result < 2 ^ 31 = omega (arith, ints, small, c.from.ensures) in
    price_fits c.args.table.now (map g.N.Exact.rational c.args.tolls.now) c.args.k c.args.path c.useful_path-useful.result.now c.useful_path-useful.ensures.limits c.requires.useful c.useful_path-useful.ensures.value
    (limit_of g.N.Exact.WIDTH) (g.N.Exact.rational c.of_whole.result) (g.N.Exact.rational c.in_ok-toll.toll) c.in_ok-toll.ensures.fits
    (c.of_whole.ensures ∙ whole_read c.from.result size ∙ ap whole c.from.ensures) c.in_ok-toll.ensures.exact _ c.in_ok-price.ensures.fits

pub returns-clause-offer : goal.returns-clause-offer
returns-clause-offer g c =
    let small = cost_small c.args.table.now (map g.N.Exact.rational c.args.tolls.now) c.args.k c.args.path c.useful_path-useful.result.now c.useful_path-useful.ensures.limits c.requires.useful c.useful_path-useful.ensures.value in
    let size : nat_abs c.from.result < 2 ^ 31 = omega (arith, ints, small, c.from.ensures) in
    offered c.args.table.now (map g.N.Exact.rational c.args.tolls.now) c.args.k c.args.path c.useful_path-useful.result.now c.useful_path-useful.ensures.limits c.requires.useful c.useful_path-useful.ensures.value
    (limit_of g.N.Exact.WIDTH) (g.N.Exact.rational c.of_whole.result) (g.N.Exact.rational c.in_ok-toll.toll) c.in_ok-toll.ensures.fits
    (c.of_whole.ensures ∙ whole_read c.from.result size ∙ ap whole c.from.ensures) c.in_ok-toll.ensures.exact (g.N.Exact.rational c.in_ok-price.price) c.in_ok-price.ensures.exact
