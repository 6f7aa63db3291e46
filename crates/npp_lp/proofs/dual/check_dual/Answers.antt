use Rattle.std.proofs.Common.{◌≡◌, map, true, false, Some, None, Ok, Err, sym, ◌∙◌, ap, arith}
use Rattle.npp_frac.specs.Rational.{is_less}
use Rattle.npp_frac.specs.Fits.{limit_of}
use Rattle.npp_lp.specs.declared.faults.DualFault.TheVariants.{NegativeRow, Column, Overflow}
use Rattle.npp_lp.specs.Programs.{at}
use Rattle.npp_lp.specs.Checked.{checked_column, checked_right}
use Rattle.npp_lp.specs.Verdict.{first_negative}
use Rattle.npp_lp.specs.VerdictLaws.{first_below_more}
use Rattle.npp_lp.specs.DualVerdict.{column_fault, value_verdict, dual_verdict}
use Rattle.npp_lp.specs.AnswerLaws.{dual_verdict_sound}
use Rattle.npp_lp.specs.DualLaws.{weak_duality}
use Rattle.npp_lp.specs.Meaning.{linear_program, overflow_of, dual_fault}
use Rattle.npp_lp.proofs.Adding.{handed_on}
use Rattle.npp_lp.specs.ReadingLaws.{read_right}
use Rattle.npp_lp.proofs.Verdicts.{judged_negative, judged_fault, judged_rest, sum_fault_overflow, sum_fault_judged, cond_some, cond_no, right_sum, length_of_multipliers, less_than_read}
use Rattle.npp_lp.proofs.dual.check_dual.Goals as goal

pub returns-in-Some-clause-verdict : goal.returns-in-Some-clause-verdict
unfolding dual_verdict
returns-in-Some-clause-verdict g c =
    let v = g.N.Exact.rational in
    let m = limit_of g.N.Exact.WIDTH in
    let p = linear_program v c.args.program.now in
    let y = map v c.args.y.now in
    sym (judged_negative NegativeRow (first_negative y) p.columns (column_fault m p y) (value_verdict (checked_right m p y)) c.in-Some.row c.in-Some.ensures)

pub returns-in_err-sum-clause-verdict : goal.returns-in_err-sum-clause-verdict
unfolding dual_verdict
returns-in_err-sum-clause-verdict g c =
    let v = g.N.Exact.rational in
    let m = limit_of g.N.Exact.WIDTH in
    let p = linear_program v c.args.program.now in
    let y = map v c.args.y.now in
    let j = c.loop-column.column in
    let o = c.in_err-sum.field-0.0 in
    let stops : column_fault m p y j ≡ Some (Overflow (overflow_of v o)) = sum_fault_overflow Overflow _ (checked_column m p y j) (overflow_of v o) c.in_err-sum.ensures in
    handed_on v (dual_fault v) c.from_residual.result (Overflow o) (dual_verdict m p y) c.from_residual.ensures.1
    (judged_fault NegativeRow (first_negative y) p.columns (column_fault m p y) (value_verdict (checked_right m p y)) j _ c.in_default.ensures (omega arith) c.loop-column.invariant stops)

pub returns-then-is_below-clause-verdict : goal.returns-then-is_below-clause-verdict
unfolding dual_verdict
returns-then-is_below-clause-verdict g c =
    let v = g.N.Exact.rational in
    let m = limit_of g.N.Exact.WIDTH in
    let p = linear_program v c.args.program.now in
    let y = map v c.args.y.now in
    let j = c.loop-column.column in
    let goal_is : at p.goal j ≡ v c.index-goal-column.result = read_right v c.goal.result.now c.args.program.now.goal j c.index-goal-column.result c.goal.ensures (rw c.goal.ensures (omega (arith, c.columns-columns.ensures.form.goal, c.columns-columns.ensures.columns))) c.index-goal-column.is in
    let below : is_less (v c.in_ok-sum.sum) (at p.goal j) ≡ true = less_than_read (v c.in_ok-sum.sum) (at p.goal j) (v c.index-goal-column.result) c.is_below.result true goal_is c.is_below.ensures c.if-is_below.true in
    let short : column_fault m p y j ≡ Some (Column j) = sum_fault_judged Overflow _ (checked_column m p y j) (v c.in_ok-sum.sum) c.in_ok-sum.ensures ∙ cond_some _ (Column j) below in
    sym (judged_fault NegativeRow (first_negative y) p.columns (column_fault m p y) (value_verdict (checked_right m p y)) j _ c.in_default.ensures (omega arith) c.loop-column.invariant short)

pub loop-column-preserved : goal.loop-column-preserved
loop-column-preserved g c =
    let v = g.N.Exact.rational in
    let m = limit_of g.N.Exact.WIDTH in
    let p = linear_program v c.args.program.now in
    let y = map v c.args.y.now in
    let j = c.loop-column.column in
    let goal_is : at p.goal j ≡ v c.index-goal-column.result = read_right v c.goal.result.now c.args.program.now.goal j c.index-goal-column.result c.goal.ensures (rw c.goal.ensures (omega (arith, c.columns-columns.ensures.form.goal, c.columns-columns.ensures.columns))) c.index-goal-column.is in
    let enough : is_less (v c.in_ok-sum.sum) (at p.goal j) ≡ false = less_than_read (v c.in_ok-sum.sum) (at p.goal j) (v c.index-goal-column.result) c.is_below.result false goal_is c.is_below.ensures c.if-is_below.false in
    let fine : column_fault m p y j ≡ None = sum_fault_judged Overflow _ (checked_column m p y j) (v c.in_ok-sum.sum) c.in_ok-sum.ensures ∙ cond_no _ (Column j) enough in
    first_below_more (column_fault m p y) j c.loop-column.invariant fine

pub returns-in_err-value-clause-verdict : goal.returns-in_err-value-clause-verdict
unfolding dual_verdict
returns-in_err-value-clause-verdict g c =
    let v = g.N.Exact.rational in
    let m = limit_of g.N.Exact.WIDTH in
    let p = linear_program v c.args.program.now in
    let y = map v c.args.y.now in
    let o = c.in_err-value.field-0.0 in
    let stops : checked_right m p y ≡ Err (overflow_of v o) = right_sum v m c.args.program.now c.right.result.now (at y) (Err (overflow_of v o)) c.right.ensures c.in_err-value.ensures in
    handed_on v (dual_fault v) c.from_residual-in_err-value.result (Overflow o) (dual_verdict m p y) c.from_residual-in_err-value.ensures.1
    (judged_rest NegativeRow (first_negative y) p.columns (column_fault m p y) (value_verdict (checked_right m p y)) c.loop-column.column c.in_default.ensures (omega arith) c.loop-column.invariant ∙ ap value_verdict stops)

pub returns-clause-verdict : goal.returns-clause-verdict
unfolding dual_verdict
returns-clause-verdict g c =
    let v = g.N.Exact.rational in
    let m = limit_of g.N.Exact.WIDTH in
    let p = linear_program v c.args.program.now in
    let y = map v c.args.y.now in
    let total : checked_right m p y ≡ Ok (v c.in_ok-value.value) = right_sum v m c.args.program.now c.right.result.now (at y) (Ok (v c.in_ok-value.value)) c.right.ensures c.in_ok-value.ensures in
    sym (judged_rest NegativeRow (first_negative y) p.columns (column_fault m p y) (value_verdict (checked_right m p y)) c.loop-column.column c.in_default.ensures (omega arith) c.loop-column.invariant ∙ ap value_verdict total)

pub returns-clause-answer : goal.returns-clause-answer
returns-clause-answer g c =
    let v = g.N.Exact.rational in
    let m = limit_of g.N.Exact.WIDTH in
    let p = linear_program v c.args.program.now in
    dual_verdict_sound m p (map v c.args.y.now) (v c.in_ok-value.value) (length_of_multipliers v c.args.program.now c.args.y.now c.requires) (sym (returns-clause-verdict g c))

pub returns-clause-bound : goal.returns-clause-bound
returns-clause-bound g c =
    let v = g.N.Exact.rational in
    weak_duality (linear_program v c.args.program.now) (map v c.args.y.now) (v c.in_ok-value.value) c.columns-columns.ensures.form.rows (returns-clause-answer g c)
