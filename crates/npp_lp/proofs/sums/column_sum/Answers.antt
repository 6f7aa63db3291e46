use Rattle.std.proofs.Common.{◌≡◌, ◌<◌, length, map, ap, sym, arith}
use Rattle.npp_frac.specs.Fits.{limit_of}
use Rattle.npp_lp.specs.Programs.{at, row_of}
use Rattle.npp_lp.specs.Duals.{coefficient}
use Rattle.npp_lp.specs.Meaning.{overflow_of, terms_of, linear_program}
use Rattle.npp_lp.proofs.Adding.{checked_sum_begins, checked_sum_goes_on, checked_sum_ends, handed_on}
use Rattle.npp_lp.specs.ReadingLaws.{at-map, terms_of_row, length-rows_of, row_terms, rise_of_terms}
use Rattle.npp_lp.proofs.sums.column_sum.Goals as goal

pub loop-row-init : goal.loop-row-init
loop-row-init g c = checked_sum_begins (limit_of g.N.Exact.WIDTH) _ _ (g.N.Exact.rational c.of_whole-sum.result) c.of_whole-sum.ensures

pub add_entry-requires : goal.add_entry-requires
add_entry-requires g c =
    let v = g.N.Exact.rational in
    let within : c.loop-row.row < length c.args.program.now.rows = omega arith in
    let terms = row_terms v c.args.program.now c.loop-row.row c.row.result.now c.requires.program within c.row.ensures in
    rise_of_terms v c.row.result.now terms.rising

pub loop-row-preserved : goal.loop-row-preserved
loop-row-preserved g c =
    let v = g.N.Exact.rational in
    let p = linear_program v c.args.program.now in
    let terms : (row_of p c.loop-row.row).terms ≡ terms_of v c.row.result.now = terms_of_row v c.args.program.now c.loop-row.row c.row.result.now c.row.ensures in
    checked_sum_goes_on (limit_of g.N.Exact.WIDTH) (λ i. coefficient (row_of p i).terms c.args.column) (at (map v c.args.y.now)) c.loop-row.row (v c.loop-row.sum) (v c.in_ok-sum.sum) _ _
    (ap (λ t. coefficient t c.args.column) terms)
    (at-map v c.args.y.now c.loop-row.row c.index-y-row.result c.loop-row-test.true c.index-y-row.is)
    c.loop-row.invariant c.in_ok-sum.ensures

pub returns-in_err-sum : goal.returns-in_err-sum
returns-in_err-sum g c =
    let v = g.N.Exact.rational in
    let p = linear_program v c.args.program.now in
    let terms : (row_of p c.loop-row.row).terms ≡ terms_of v c.row.result.now = terms_of_row v c.args.program.now c.loop-row.row c.row.result.now c.row.ensures in
    let below : c.loop-row.row < length p.rows = omega (arith, length-rows_of v c.args.program.now) in
    handed_on v (overflow_of v) c.from_residual.result _ _ c.from_residual.ensures.1
    (checked_sum_ends (limit_of g.N.Exact.WIDTH) (λ i. coefficient (row_of p i).terms c.args.column) (at (map v c.args.y.now)) (length p.rows) c.loop-row.row (v c.loop-row.sum) _ _ _ below
    (ap (λ t. coefficient t c.args.column) terms)
    (at-map v c.args.y.now c.loop-row.row c.index-y-row.result c.loop-row-test.true c.index-y-row.is)
    c.loop-row.invariant c.in_err-sum.ensures)

pub returns : goal.returns
returns g c =
    let v = g.N.Exact.rational in
    let p = linear_program v c.args.program.now in
    let all : length p.rows ≡ c.loop-row.row = omega (arith, length-rows_of v c.args.program.now) in
    rw all (sym c.loop-row.invariant)
