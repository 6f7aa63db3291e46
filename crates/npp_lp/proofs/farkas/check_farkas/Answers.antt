use Rattle.std.proofs.Common.{◌≡◌, map, true, false, Some, Ok, Err, refl, sym, ◌∙◌, ap, arith}
use Rattle.npp_frac.specs.Rational.{Rational, zero_ℚ, is_less}
use Rattle.npp_frac.specs.Fits.{limit_of}
use Rattle.npp_lp.specs.declared.faults.FarkasFault.TheVariants.{NegativeRow, Column, NotBelowZero, Overflow}
use Rattle.npp_lp.specs.Programs.{at}
use Rattle.npp_lp.specs.Verdict.{first_negative}
use Rattle.npp_lp.specs.Checked.{checked_column, checked_right}
use Rattle.npp_lp.specs.FarkasVerdict.{column_fault, value_verdict, farkas_verdict}
use Rattle.npp_lp.specs.AnswerLaws.{farkas_verdict_sound}
use Rattle.npp_lp.specs.DualLaws.{no_point_of_farkas}
use Rattle.npp_lp.specs.Meaning.{linear_program, overflow_of, farkas_fault}
use Rattle.npp_lp.proofs.Adding.{handed_on}
use Rattle.npp_lp.proofs.Verdicts.{judged_negative, judged_fault, judged_rest, sum_fault_overflow, sum_fault_judged, cond_some, right_sum, length_of_multipliers}
use Rattle.npp_lp.proofs.farkas.check_farkas.Goals as goal

judged_below : (q : Rational) → is_less q zero_ℚ ≡ true → value_verdict (Ok q) ≡ Ok tt
judged_below q e = rw e refl

judged_not_below : (q : Rational) → is_less q zero_ℚ ≡ false → value_verdict (Ok q) ≡ Err NotBelowZero
judged_not_below q e = rw e refl

pub returns-in-Some-clause-verdict : goal.returns-in-Some-clause-verdict
unfolding farkas_verdict
returns-in-Some-clause-verdict g c =
    let v = g.N.Exact.rational in
    let m = limit_of g.N.Exact.WIDTH in
    let p = linear_program v c.args.program.now in
    let y = map v c.args.y.now in
    sym (judged_negative NegativeRow (first_negative y) p.columns (column_fault m p y) (value_verdict (checked_right m p y)) c.in-Some.row c.in-Some.ensures)

pub returns-in_err-sum-clause-verdict : goal.returns-in_err-sum-clause-verdict
unfolding farkas_verdict
returns-in_err-sum-clause-verdict g c =
    let v = g.N.Exact.rational in
    let m = limit_of g.N.Exact.WIDTH in
    let p = linear_program v c.args.program.now in
    let y = map v c.args.y.now in
    let j = c.loop-column.column in
    let o = c.in_err-sum.field-0.0 in
    let stops : column_fault m p y j ≡ Some (Overflow (overflow_of v o)) = sum_fault_overflow Overflow _ (checked_column m p y j) (overflow_of v o) c.in_err-sum.ensures in
    handed_on (λ u. u) (farkas_fault v) c.from_residual.result (Overflow o) (farkas_verdict m p y) c.from_residual.ensures.1
    (judged_fault NegativeRow (first_negative y) p.columns (column_fault m p y) (value_verdict (checked_right m p y)) j _ c.in_default.ensures (omega arith) c.loop-column.invariant stops)

pub returns-then-is_negative-clause-verdict : goal.returns-then-is_negative-clause-verdict
unfolding farkas_verdict
returns-then-is_negative-clause-verdict g c =
    let v = g.N.Exact.rational in
    let m = limit_of g.N.Exact.WIDTH in
    let p = linear_program v c.args.program.now in
    let y = map v c.args.y.now in
    let j = c.loop-column.column in
    let short : column_fault m p y j ≡ Some (Column j) = sum_fault_judged Overflow _ (checked_column m p y j) (v c.in_ok-sum.sum) c.in_ok-sum.ensures ∙ cond_some _ (Column j) (sym c.is_negative.ensures ∙ c.if-is_negative.true) in
    sym (judged_fault NegativeRow (first_negative y) p.columns (column_fault m p y) (value_verdict (checked_right m p y)) j _ c.in_default.ensures (omega arith) c.loop-column.invariant short)

pub returns-in_err-value-clause-verdict : goal.returns-in_err-value-clause-verdict
unfolding farkas_verdict
returns-in_err-value-clause-verdict g c =
    let v = g.N.Exact.rational in
    let m = limit_of g.N.Exact.WIDTH in
    let p = linear_program v c.args.program.now in
    let y = map v c.args.y.now in
    let o = c.in_err-value.field-0.0 in
    let stops : checked_right m p y ≡ Err (overflow_of v o) = right_sum v m c.args.program.now c.right.result.now (at y) (Err (overflow_of v o)) c.right.ensures c.in_err-value.ensures in
    handed_on (λ u. u) (farkas_fault v) c.from_residual-in_err-value.result (Overflow o) (farkas_verdict m p y) c.from_residual-in_err-value.ensures.1
    (judged_rest NegativeRow (first_negative y) p.columns (column_fault m p y) (value_verdict (checked_right m p y)) c.loop-column.column c.in_default.ensures (omega arith) c.loop-column.invariant ∙ ap value_verdict stops)

pub returns-then-is_negative-2-clause-verdict : goal.returns-then-is_negative-2-clause-verdict
unfolding farkas_verdict
returns-then-is_negative-2-clause-verdict g c =
    let v = g.N.Exact.rational in
    let m = limit_of g.N.Exact.WIDTH in
    let p = linear_program v c.args.program.now in
    let y = map v c.args.y.now in
    let total : checked_right m p y ≡ Ok (v c.in_ok-value.value) = right_sum v m c.args.program.now c.right.result.now (at y) (Ok (v c.in_ok-value.value)) c.right.ensures c.in_ok-value.ensures in
    let below : value_verdict (Ok (v c.in_ok-value.value)) ≡ Ok tt = judged_below (v c.in_ok-value.value) (sym c.is_negative-2.ensures ∙ c.if-is_negative-2.true) in
    sym (judged_rest NegativeRow (first_negative y) p.columns (column_fault m p y) (value_verdict (checked_right m p y)) c.loop-column.column c.in_default.ensures (omega arith) c.loop-column.invariant ∙ ap value_verdict total ∙ below)

pub returns-else-is_negative-2-clause-verdict : goal.returns-else-is_negative-2-clause-verdict
unfolding farkas_verdict
returns-else-is_negative-2-clause-verdict g c =
    let v = g.N.Exact.rational in
    let m = limit_of g.N.Exact.WIDTH in
    let p = linear_program v c.args.program.now in
    let y = map v c.args.y.now in
    let total : checked_right m p y ≡ Ok (v c.in_ok-value.value) = right_sum v m c.args.program.now c.right.result.now (at y) (Ok (v c.in_ok-value.value)) c.right.ensures c.in_ok-value.ensures in
    let not_below : value_verdict (Ok (v c.in_ok-value.value)) ≡ Err NotBelowZero = judged_not_below (v c.in_ok-value.value) (sym c.is_negative-2.ensures ∙ c.if-is_negative-2.false) in
    sym (judged_rest NegativeRow (first_negative y) p.columns (column_fault m p y) (value_verdict (checked_right m p y)) c.loop-column.column c.in_default.ensures (omega arith) c.loop-column.invariant ∙ ap value_verdict total ∙ not_below)

pub returns-then-is_negative-2-clause-answer : goal.returns-then-is_negative-2-clause-answer
returns-then-is_negative-2-clause-answer g c =
    let v = g.N.Exact.rational in
    let m = limit_of g.N.Exact.WIDTH in
    let p = linear_program v c.args.program.now in
    farkas_verdict_sound m p (map v c.args.y.now) (length_of_multipliers v c.args.program.now c.args.y.now c.requires) (sym (returns-then-is_negative-2-clause-verdict g c))

pub returns-then-is_negative-2-clause-infeasible : goal.returns-then-is_negative-2-clause-infeasible
returns-then-is_negative-2-clause-infeasible g c =
    let v = g.N.Exact.rational in
    no_point_of_farkas (linear_program v c.args.program.now) (map v c.args.y.now) c.columns-columns.ensures.form.rows (returns-then-is_negative-2-clause-answer g c)
