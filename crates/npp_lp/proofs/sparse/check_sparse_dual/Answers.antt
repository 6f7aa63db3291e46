use Rattle.std.proofs.Common.{◌≡◌, length, map, ap, sym, ◌∙◌}
use Rattle.std.proofs.lemmas.List.{length-map}
use Rattle.npp_frac.specs.Fits.{limit_of}
use Rattle.npp_lp.specs.DualVerdict.{dual_verdict}
use Rattle.npp_lp.specs.Meaning.{linear_program, sum_result}
use Rattle.npp_lp.specs.ReadingLaws.{length-rows_of}
use Rattle.npp_lp.specs.Sparse.{dense, multipliers_meant}
use Rattle.npp_lp.specs.SparseLaws.{rows_meant}
use Rattle.npp_lp.specs.RunningSums.{sums_meant, dual_of_sums}
use Rattle.npp_lp.specs.RunningSumsLaws.{dual_of_sums_is}
use Rattle.npp_lp.proofs.sparse.check_sparse_dual.Goals as goal

pub judge_dual-requires : goal.judge_dual-requires
judge_dual-requires g c =
    let v = g.N.Exact.rational in
    let size : length c.sum_rows.new.sums.columns ≡ c.args.program.now.columns = sym (length-map c.sum_rows.new.sums.columns (sum_result v)) ∙ c.sum_rows.ensures.sums.size in
    ap length c.goal.ensures ∙ c.sum_rows.ensures.form.goal ∙ sym size

pub returns-clause-verdict : goal.returns-clause-verdict
returns-clause-verdict g c =
    let v = g.N.Exact.rational in
    let p = linear_program v c.args.program.now in
    let ys = multipliers_meant v c.args.multipliers.now in
    c.judge_dual.ensures ∙ ap (λ b. dual_of_sums (sums_meant v c.sum_rows.new.sums) (map v b)) c.goal.ensures ∙ dual_of_sums_is g.N.Exact.WIDTH g.met.N.Exact.width p ys (sums_meant v c.sum_rows.new.sums) (rows_meant v (length p.rows) c.args.multipliers.now (rw (length-rows_of v c.args.program.now) c.requires.rows)) c.sum_rows.ensures.sums
    ∙ ap (λ n. dual_verdict (limit_of g.N.Exact.WIDTH) p (dense n ys)) (length-rows_of v c.args.program.now)
