use Rattle.std.proofs.Common.{◌≡◌, ◌<◌, length, Some, sym, ◌∙◌, arith}
use Rattle.std.proofs.lemmas.List.{length-map}
use Rattle.npp_lp.specs.declared.faults.FarkasFault.TheVariants.{NegativeRow, Column, Overflow}
use Rattle.npp_lp.specs.FarkasVerdict.{sum_fault_at, value_verdict}
use Rattle.npp_lp.specs.Meaning.{overflow_of, farkas_fault, sum_result}
use Rattle.npp_lp.specs.RunningSums.{sums_meant, column_of, farkas_of_sums}
use Rattle.npp_lp.proofs.Adding.{handed_on}
use Rattle.npp_lp.proofs.Verdicts.{judged_fault, sum_fault_overflow, sum_fault_judged, cond_some}
use Rattle.npp_lp.proofs.running.RunningSums.judge_farkas.Goals as goal

pub returns-in_err-sum : goal.returns-in_err-sum
returns-in_err-sum g c =
    let v = g.N.Exact.rational in
    let s = sums_meant v c.args.self.now in
    let j = c.loop-column.column in
    let o = c.in_err-sum.field-0.0 in
    let within : j < length s.columns = omega (arith, length-map c.args.self.now.columns (sum_result v)) in
    let stops : sum_fault_at (column_of s) j ≡ Some (Overflow (overflow_of v o)) = sum_fault_overflow Overflow _ (column_of s j) (overflow_of v o) c.in_err-sum.ensures in
    handed_on (λ u. u) (farkas_fault v) c.from_residual.result (Overflow o) (farkas_of_sums s) c.from_residual.ensures.1
    (judged_fault NegativeRow s.negative (length s.columns) (sum_fault_at (column_of s)) (value_verdict s.right) j _ c.in_default.ensures within c.loop-column.invariant stops)

pub returns-then-is_negative : goal.returns-then-is_negative
returns-then-is_negative g c =
    let v = g.N.Exact.rational in
    let s = sums_meant v c.args.self.now in
    let j = c.loop-column.column in
    let within : j < length s.columns = omega (arith, length-map c.args.self.now.columns (sum_result v)) in
    let short : sum_fault_at (column_of s) j ≡ Some (Column j) = sum_fault_judged Overflow _ (column_of s j) (v c.in_ok-sum.sum) c.in_ok-sum.ensures ∙ cond_some _ (Column j) (sym c.is_negative.ensures ∙ c.if-is_negative.true) in
    sym (judged_fault NegativeRow s.negative (length s.columns) (sum_fault_at (column_of s)) (value_verdict s.right) j _ c.in_default.ensures within c.loop-column.invariant short)
