use Rattle.std.proofs.Common.{◌<◌, length, get_or, map, ap, ◌∙◌}
use Rattle.npp_frac.specs.Fits.{limit_of}
use Rattle.npp_lp.specs.Programs.{at}
use Rattle.npp_lp.specs.Checked.{no_term}
use Rattle.npp_lp.specs.Meaning.{overflow_of, terms_of}
use Rattle.npp_lp.proofs.Adding.{checked_sum_begins, checked_sum_goes_on, checked_sum_ends, handed_on}
use Rattle.npp_lp.specs.ReadingLaws.{at-map, term_at, length-terms_of, in_range_at}
use Rattle.npp_lp.proofs.sums.row_sum.Goals as goal

pub loop-entry-init : goal.loop-entry-init
loop-entry-init g c = checked_sum_begins (limit_of g.N.Exact.WIDTH) _ _ (g.N.Exact.rational c.of_whole-sum.result) c.of_whole-sum.ensures

pub loop-entry-preserved : goal.loop-entry-preserved
loop-entry-preserved g c =
    let v = g.N.Exact.rational in
    let k = c.loop-entry.entry-index in
    let term = term_at v c.args.row.now k c.entry-item.result c.loop-entry-test.true c.entry-item.is in
    let within = in_range_at (length c.args.x.now) c.args.row.now k c.entry-item.result c.requires c.loop-entry-test.true c.entry-item.is in
    checked_sum_goes_on (limit_of g.N.Exact.WIDTH) (λ k. (get_or (terms_of v c.args.row.now) k no_term).value) (λ k. at (map v c.args.x.now) (get_or (terms_of v c.args.row.now) k no_term).column) k (v c.loop-entry.sum) (v c.in_ok-sum.sum) _ _
    (ap (λ t. t.value) term)
    (ap (λ t. at (map v c.args.x.now) t.column) term ∙ at-map v c.args.x.now c.entry-item.result.column c.index-x-entry.result within c.index-x-entry.is)
    c.loop-entry.invariant c.in_ok-sum.ensures

pub returns-in_err-sum : goal.returns-in_err-sum
returns-in_err-sum g c =
    let v = g.N.Exact.rational in
    let k = c.loop-entry.entry-index in
    let term = term_at v c.args.row.now k c.entry-item.result c.loop-entry-test.true c.entry-item.is in
    let within = in_range_at (length c.args.x.now) c.args.row.now k c.entry-item.result c.requires c.loop-entry-test.true c.entry-item.is in
    let below : k < length (terms_of v c.args.row.now) = rw (length-terms_of v c.args.row.now) c.loop-entry-test.true in
    handed_on v (overflow_of v) c.from_residual.result _ _ c.from_residual.ensures.1
    (checked_sum_ends (limit_of g.N.Exact.WIDTH) (λ k. (get_or (terms_of v c.args.row.now) k no_term).value) (λ k. at (map v c.args.x.now) (get_or (terms_of v c.args.row.now) k no_term).column) (length (terms_of v c.args.row.now)) k (v c.loop-entry.sum) _ _ _ below
    (ap (λ t. t.value) term)
    (ap (λ t. at (map v c.args.x.now) t.column) term ∙ at-map v c.args.x.now c.entry-item.result.column c.index-x-entry.result within c.index-x-entry.is)
    c.loop-entry.invariant c.in_err-sum.ensures)
