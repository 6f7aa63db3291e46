use Rattle.std.proofs.Common.{◌≡◌, ◌<◌, ◌+◌, map, refl, sym, subst, arith}
use Rattle.npp_frac.specs.Fits.{limit_of}
use Rattle.npp_rows.specs.PathModel.{path_count}
use Rattle.npp_inverse.specs.declared.offer.Offer.{Offer}
use Rattle.npp_inverse.proofs.TollLaws.{refused_as}
use Rattle.npp_inverse.proofs.TakenLaws.{IsTaken, first_taken, next_taken, still_taken, path_stops, all_fit, path_taken, toll_taken}
use Rattle.npp_inverse.proofs.offer.taken_offer.Goals.{then-is_better, else-is_better}
use Rattle.npp_inverse.proofs.offer.taken_offer.Goals as goal

pub returns-in_err-taken-clause-fits : goal.returns-in_err-taken-clause-fits
returns-in_err-taken-clause-fits g c =
    refused_as c.from_residual.result _ c.from_residual.ensures.0
    (path_stops (limit_of g.N.Exact.WIDTH) c.args.table.now (map g.N.Exact.rational c.args.tolls.now) c.args.k 0 (c.requires.useful.some c.args.k c.requires.k) c.in_err-taken.ensures.fits)

pub loop-path-init : goal.loop-path-init
loop-path-init g c =
    first_taken (limit_of g.N.Exact.WIDTH) c.args.table.now (map g.N.Exact.rational c.args.tolls.now) c.args.k _ 1 _ _ c.in_ok-taken.ensures.path refl c.in_ok-taken.ensures.fits c.in_ok-taken.ensures.offer

pub returns-in_err-next-clause-fits : goal.returns-in_err-next-clause-fits
returns-in_err-next-clause-fits g c =
    let inside : c.loop-path.path < path_count c.args.table.now c.args.k = omega (arith, c.path_count-path-end.ensures, c.loop-path-test.true) in
    refused_as c.from_residual-in_err-next.result _ c.from_residual-in_err-next.ensures.0
    (path_stops (limit_of g.N.Exact.WIDTH) c.args.table.now (map g.N.Exact.rational c.args.tolls.now) c.args.k c.loop-path.path inside c.in_err-next.ensures.fits)

pub loop-path-preserved : goal.loop-path-preserved
loop-path-preserved g c =
    let m = limit_of g.N.Exact.WIDTH in
    let t = c.args.table.now in
    let T = map g.N.Exact.rational c.args.tolls.now in
    let P = λ (o : Offer g.row.N.Denot). IsTaken m t T c.args.k (c.loop-path.path + 1) o.path (g.N.Exact.rational o.toll) (g.N.Exact.rational o.price) in
    let n = c.in_ok-next.next in
    let o = c.loop-path.taken in
    elim c.if-is_better.branch [
      | then-is_better w ↦ subst P (sym w.taken-is) (next_taken m t T c.args.k c.loop-path.path o.path n.path _ _ (g.N.Exact.rational n.toll) (g.N.Exact.rational n.price) c.loop-path.invariant c.in_ok-next.ensures.path c.in_ok-next.ensures.fits c.in_ok-next.ensures.offer w.if-is_better.ensures)
      | else-is_better w ↦ subst P (sym w.taken-is) (still_taken m t T c.args.k c.loop-path.path o.path n.path _ _ (g.N.Exact.rational n.toll) (g.N.Exact.rational n.price) c.loop-path.invariant c.in_ok-next.ensures.path c.in_ok-next.ensures.fits c.in_ok-next.ensures.offer w.if-is_better.ensures)
    ]

pub returns-clause-fits : goal.returns-clause-fits
returns-clause-fits g c =
    let all : c.loop-path.path ≡ path_count c.args.table.now c.args.k = omega (arith, c.path_count-path-end.ensures, c.loop-path-test.false, c.loop-path.auto.path-end, c.requires.useful.some c.args.k c.requires.k) in
    all_fit (limit_of g.N.Exact.WIDTH) c.args.table.now (map g.N.Exact.rational c.args.tolls.now) c.args.k c.loop-path.path _ _ _ c.loop-path.invariant all

pub returns-clause-path : goal.returns-clause-path
returns-clause-path g c =
    let all : c.loop-path.path ≡ path_count c.args.table.now c.args.k = omega (arith, c.path_count-path-end.ensures, c.loop-path-test.false, c.loop-path.auto.path-end, c.requires.useful.some c.args.k c.requires.k) in
    path_taken (limit_of g.N.Exact.WIDTH) c.args.table.now (map g.N.Exact.rational c.args.tolls.now) c.args.k c.loop-path.path _ _ _ c.loop-path.invariant all

pub returns-clause-toll : goal.returns-clause-toll
returns-clause-toll g c =
    let all : c.loop-path.path ≡ path_count c.args.table.now c.args.k = omega (arith, c.path_count-path-end.ensures, c.loop-path-test.false, c.loop-path.auto.path-end, c.requires.useful.some c.args.k c.requires.k) in
    toll_taken (limit_of g.N.Exact.WIDTH) c.args.table.now (map g.N.Exact.rational c.args.tolls.now) c.args.k c.loop-path.path _ _ _ c.loop-path.invariant all
