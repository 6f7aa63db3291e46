use Rattle.std.proofs.Common.{◌≡◌, ◌<◌, length, map, true, false, Some, None, sym, ◌∙◌, arith}
use Rattle.std.proofs.lemmas.List.{length-map}
use Rattle.npp_frac.specs.Rational.{is_less}
use Rattle.npp_lp.specs.declared.faults.DualFault.TheVariants.{NegativeRow, Column, Overflow}
use Rattle.npp_lp.specs.Programs.{at}
use Rattle.npp_lp.specs.VerdictLaws.{first_below_more}
use Rattle.npp_lp.specs.DualVerdict.{sum_fault_at, value_verdict}
use Rattle.npp_lp.specs.Meaning.{overflow_of, dual_fault, sum_result}
use Rattle.npp_lp.specs.ReadingLaws.{at-map}
use Rattle.npp_lp.specs.RunningSums.{sums_meant, column_of, dual_of_sums}
use Rattle.npp_lp.proofs.Adding.{handed_on}
use Rattle.npp_lp.proofs.Verdicts.{judged_fault, sum_fault_overflow, sum_fault_judged, cond_some, cond_no, less_than_read}
use Rattle.npp_lp.proofs.running.RunningSums.judge_dual.Goals as goal

pub returns-in_err-sum : goal.returns-in_err-sum
returns-in_err-sum g c =
    let v = g.N.Exact.rational in
    let s = sums_meant v c.args.self.now in
    let f = sum_fault_at (column_of s) (map v c.args.goal.now) in
    let j = c.loop-column.column in
    let o = c.in_err-sum.field-0.0 in
    let within : j < length s.columns = omega (arith, length-map c.args.self.now.columns (sum_result v)) in
    let stops : f j ≡ Some (Overflow (overflow_of v o)) = sum_fault_overflow Overflow _ (column_of s j) (overflow_of v o) c.in_err-sum.ensures in
    handed_on v (dual_fault v) c.from_residual.result (Overflow o) (dual_of_sums s (map v c.args.goal.now)) c.from_residual.ensures.1
    (judged_fault NegativeRow s.negative (length s.columns) f (value_verdict s.right) j _ c.in_default.ensures within c.loop-column.invariant stops)

pub returns-then-is_below : goal.returns-then-is_below
returns-then-is_below g c =
    let v = g.N.Exact.rational in
    let s = sums_meant v c.args.self.now in
    let goals = map v c.args.goal.now in
    let f = sum_fault_at (column_of s) goals in
    let j = c.loop-column.column in
    let within : j < length s.columns = omega (arith, length-map c.args.self.now.columns (sum_result v)) in
    let goal_is : at goals j ≡ v c.index-goal-column.result = at-map v c.args.goal.now j c.index-goal-column.result (omega arith) c.index-goal-column.is in
    let below : is_less (v c.in_ok-sum.sum) (at goals j) ≡ true = less_than_read (v c.in_ok-sum.sum) (at goals j) (v c.index-goal-column.result) c.is_below.result true goal_is c.is_below.ensures c.if-is_below.true in
    let short : f j ≡ Some (Column j) = sum_fault_judged Overflow _ (column_of s j) (v c.in_ok-sum.sum) c.in_ok-sum.ensures ∙ cond_some _ (Column j) below in
    sym (judged_fault NegativeRow s.negative (length s.columns) f (value_verdict s.right) j _ c.in_default.ensures within c.loop-column.invariant short)

pub loop-column-preserved : goal.loop-column-preserved
loop-column-preserved g c =
    let v = g.N.Exact.rational in
    let s = sums_meant v c.args.self.now in
    let goals = map v c.args.goal.now in
    let f = sum_fault_at (column_of s) goals in
    let j = c.loop-column.column in
    let goal_is : at goals j ≡ v c.index-goal-column.result = at-map v c.args.goal.now j c.index-goal-column.result (omega arith) c.index-goal-column.is in
    let enough : is_less (v c.in_ok-sum.sum) (at goals j) ≡ false = less_than_read (v c.in_ok-sum.sum) (at goals j) (v c.index-goal-column.result) c.is_below.result false goal_is c.is_below.ensures c.if-is_below.false in
    let fine : f j ≡ None = sum_fault_judged Overflow _ (column_of s j) (v c.in_ok-sum.sum) c.in_ok-sum.ensures ∙ cond_no _ (Column j) enough in
    first_below_more f j c.loop-column.invariant fine
