use Rattle.std.proofs.Common.{length, ap, ◌∙◌}
use Rattle.npp_frac.specs.Fits.{limit_of}
use Rattle.npp_lp.specs.FarkasVerdict.{farkas_verdict}
use Rattle.npp_lp.specs.Meaning.{linear_program}
use Rattle.npp_lp.specs.ReadingLaws.{length-rows_of}
use Rattle.npp_lp.specs.Sparse.{dense, multipliers_meant}
use Rattle.npp_lp.specs.SparseLaws.{rows_meant}
use Rattle.npp_lp.specs.RunningSums.{sums_meant}
use Rattle.npp_lp.specs.RunningSumsLaws.{farkas_of_sums_is}
use Rattle.npp_lp.proofs.sparse.check_sparse_farkas.Goals as goal

pub returns-clause-verdict : goal.returns-clause-verdict
returns-clause-verdict g c =
    let v = g.N.Exact.rational in
    let p = linear_program v c.args.program.now in
    let ys = multipliers_meant v c.args.multipliers.now in
    c.judge_farkas.ensures ∙ farkas_of_sums_is g.N.Exact.WIDTH g.met.N.Exact.width p ys (sums_meant v c.sum_rows.new.sums) (rows_meant v (length p.rows) c.args.multipliers.now (rw (length-rows_of v c.args.program.now) c.requires.rows)) c.sum_rows.ensures.sums
    ∙ ap (λ n. farkas_verdict (limit_of g.N.Exact.WIDTH) p (dense n ys)) (length-rows_of v c.args.program.now)
