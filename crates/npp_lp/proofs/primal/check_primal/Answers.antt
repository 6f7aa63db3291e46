use Rattle.std.proofs.Common.{◌≡◌, ◌<◌, length, map, true, false, Some, None, Ok, Err, sym, ◌∙◌, ap, arith}
use Rattle.std.proofs.lemmas.List.{length-map}
use Rattle.npp_frac.specs.Rational.{is_less}
use Rattle.npp_frac.specs.Fits.{limit_of}
use Rattle.npp_lp.specs.declared.faults.PrimalFault.TheVariants.{NegativeColumn, Row, Overflow}
use Rattle.npp_lp.specs.Programs.{at, row_of}
use Rattle.npp_lp.specs.ProgramOver.{rights_of}
use Rattle.npp_lp.specs.Checked.{checked_terms, checked_goal}
use Rattle.npp_lp.specs.Verdict.{first_negative}
use Rattle.npp_lp.specs.VerdictLaws.{first_below_more}
use Rattle.npp_lp.specs.PrimalVerdict.{row_fault, value_verdict, primal_verdict}
use Rattle.npp_lp.specs.AnswerLaws.{primal_verdict_point, primal_verdict_goal}
use Rattle.npp_lp.specs.Meaning.{linear_program, terms_of, overflow_of, primal_fault}
use Rattle.npp_lp.proofs.Adding.{handed_on}
use Rattle.npp_lp.specs.ReadingLaws.{length-rows_of, length-rights_of, terms_of_row, right_of_row, row_terms, in_range_of_terms, read_right}
use Rattle.npp_lp.proofs.Verdicts.{judged_negative, judged_fault, judged_rest, sum_fault_overflow, sum_fault_judged, cond_some, cond_no, goal_sum, row_sum, read_less_than}
use Rattle.npp_lp.proofs.primal.check_primal.Goals as goal

pub returns-in-Some-clause-verdict : goal.returns-in-Some-clause-verdict
unfolding primal_verdict
returns-in-Some-clause-verdict g c =
    let v = g.N.Exact.rational in
    let m = limit_of g.N.Exact.WIDTH in
    let p = linear_program v c.args.program.now in
    let x = map v c.args.x.now in
    sym (judged_negative NegativeColumn (first_negative x) (length p.rows) (row_fault m p x) (value_verdict (checked_goal m p x)) c.in-Some.column c.in-Some.ensures)

pub row_sum-requires : goal.row_sum-requires
row_sum-requires g c =
    let v = g.N.Exact.rational in
    let terms = row_terms v c.args.program.now c.loop-row.row c.row.result.now c.row_count-rows.ensures.form (omega arith) c.row.ensures in
    rw c.requires (in_range_of_terms v c.args.program.now.columns c.row.result.now terms.in_range)

pub returns-in_err-sum-clause-verdict : goal.returns-in_err-sum-clause-verdict
unfolding primal_verdict
returns-in_err-sum-clause-verdict g c =
    let v = g.N.Exact.rational in
    let m = limit_of g.N.Exact.WIDTH in
    let p = linear_program v c.args.program.now in
    let x = map v c.args.x.now in
    let i = c.loop-row.row in
    let terms : (row_of p i).terms ≡ terms_of v c.row.result.now = terms_of_row v c.args.program.now i c.row.result.now c.row.ensures in
    let o = c.in_err-sum.field-0.0 in
    let stops : row_fault m p x i ≡ Some (Overflow (overflow_of v o)) = sum_fault_overflow Overflow _ (checked_terms m (row_of p i).terms x) (overflow_of v o) (row_sum m x (row_of p i).terms (terms_of v c.row.result.now) (Err (overflow_of v o)) terms c.in_err-sum.ensures) in
    let below : i < length p.rows = omega (arith, length-rows_of v c.args.program.now) in
    handed_on v (primal_fault v) c.from_residual.result (Overflow o) (primal_verdict m p x) c.from_residual.ensures.1
    (judged_fault NegativeColumn (first_negative x) (length p.rows) (row_fault m p x) (value_verdict (checked_goal m p x)) i _ c.in_default.ensures below c.loop-row.invariant stops)

pub returns-then-is_below-clause-verdict : goal.returns-then-is_below-clause-verdict
unfolding primal_verdict
returns-then-is_below-clause-verdict g c =
    let v = g.N.Exact.rational in
    let m = limit_of g.N.Exact.WIDTH in
    let p = linear_program v c.args.program.now in
    let x = map v c.args.x.now in
    let i = c.loop-row.row in
    let terms : (row_of p i).terms ≡ terms_of v c.row.result.now = terms_of_row v c.args.program.now i c.row.result.now c.row.ensures in
    let right_is : (row_of p i).right ≡ v c.index-right-row.result =
    right_of_row v c.args.program.now i ∙ read_right v c.right.result.now (rights_of c.args.program.now) i c.index-right-row.result c.right.ensures (rw c.right.ensures (omega (arith, length-rights_of v c.args.program.now))) c.index-right-row.is in
    let above : is_less (row_of p i).right (v c.in_ok-sum.sum) ≡ true = read_less_than (row_of p i).right (v c.index-right-row.result) (v c.in_ok-sum.sum) c.is_below.result true right_is c.is_below.ensures c.if-is_below.true in
    let broken : row_fault m p x i ≡ Some (Row i) = sum_fault_judged Overflow _ (checked_terms m (row_of p i).terms x) (v c.in_ok-sum.sum) (row_sum m x (row_of p i).terms (terms_of v c.row.result.now) (Ok (v c.in_ok-sum.sum)) terms c.in_ok-sum.ensures) ∙ cond_some _ (Row i) above in
    let below : i < length p.rows = omega (arith, length-rows_of v c.args.program.now) in
    sym (judged_fault NegativeColumn (first_negative x) (length p.rows) (row_fault m p x) (value_verdict (checked_goal m p x)) i _ c.in_default.ensures below c.loop-row.invariant broken)

pub loop-row-preserved : goal.loop-row-preserved
loop-row-preserved g c =
    let v = g.N.Exact.rational in
    let m = limit_of g.N.Exact.WIDTH in
    let p = linear_program v c.args.program.now in
    let x = map v c.args.x.now in
    let i = c.loop-row.row in
    let terms : (row_of p i).terms ≡ terms_of v c.row.result.now = terms_of_row v c.args.program.now i c.row.result.now c.row.ensures in
    let right_is : (row_of p i).right ≡ v c.index-right-row.result =
    right_of_row v c.args.program.now i ∙ read_right v c.right.result.now (rights_of c.args.program.now) i c.index-right-row.result c.right.ensures (rw c.right.ensures (omega (arith, length-rights_of v c.args.program.now))) c.index-right-row.is in
    let kept : is_less (row_of p i).right (v c.in_ok-sum.sum) ≡ false = read_less_than (row_of p i).right (v c.index-right-row.result) (v c.in_ok-sum.sum) c.is_below.result false right_is c.is_below.ensures c.if-is_below.false in
    let fine : row_fault m p x i ≡ None = sum_fault_judged Overflow _ (checked_terms m (row_of p i).terms x) (v c.in_ok-sum.sum) (row_sum m x (row_of p i).terms (terms_of v c.row.result.now) (Ok (v c.in_ok-sum.sum)) terms c.in_ok-sum.ensures) ∙ cond_no _ (Row i) kept in
    first_below_more (row_fault m p x) i c.loop-row.invariant fine

pub returns-in_err-goal-clause-verdict : goal.returns-in_err-goal-clause-verdict
unfolding primal_verdict
returns-in_err-goal-clause-verdict g c =
    let v = g.N.Exact.rational in
    let m = limit_of g.N.Exact.WIDTH in
    let p = linear_program v c.args.program.now in
    let x = map v c.args.x.now in
    let all : length p.rows ≡ c.loop-row.row = omega (arith, length-rows_of v c.args.program.now) in
    let o = c.in_err-goal.field-0.0 in
    let stops : checked_goal m p x ≡ Err (overflow_of v o) = goal_sum v m c.args.program.now c.goal.result.now (at x) (Err (overflow_of v o)) c.row_count-rows.ensures.form c.goal.ensures c.in_err-goal.ensures in
    handed_on v (primal_fault v) c.from_residual-in_err-goal.result (Overflow o) (primal_verdict m p x) c.from_residual-in_err-goal.ensures.1
    (judged_rest NegativeColumn (first_negative x) (length p.rows) (row_fault m p x) (value_verdict (checked_goal m p x)) c.loop-row.row c.in_default.ensures all c.loop-row.invariant ∙ ap value_verdict stops)

pub returns-clause-verdict : goal.returns-clause-verdict
unfolding primal_verdict
returns-clause-verdict g c =
    let v = g.N.Exact.rational in
    let m = limit_of g.N.Exact.WIDTH in
    let p = linear_program v c.args.program.now in
    let x = map v c.args.x.now in
    let all : length p.rows ≡ c.loop-row.row = omega (arith, length-rows_of v c.args.program.now) in
    let total : checked_goal m p x ≡ Ok (v c.in_ok-goal.goal) = goal_sum v m c.args.program.now c.goal.result.now (at x) (Ok (v c.in_ok-goal.goal)) c.row_count-rows.ensures.form c.goal.ensures c.in_ok-goal.ensures in
    sym (judged_rest NegativeColumn (first_negative x) (length p.rows) (row_fault m p x) (value_verdict (checked_goal m p x)) c.loop-row.row c.in_default.ensures all c.loop-row.invariant ∙ ap value_verdict total)

pub returns-clause-point : goal.returns-clause-point
returns-clause-point g c =
    let v = g.N.Exact.rational in
    primal_verdict_point (limit_of g.N.Exact.WIDTH) (linear_program v c.args.program.now) (map v c.args.x.now) (v c.in_ok-goal.goal) (length-map c.args.x.now v ∙ c.requires) (sym (returns-clause-verdict g c))

pub returns-clause-goal : goal.returns-clause-goal
returns-clause-goal g c =
    let v = g.N.Exact.rational in
    primal_verdict_goal (limit_of g.N.Exact.WIDTH) (linear_program v c.args.program.now) (map v c.args.x.now) (v c.in_ok-goal.goal) (sym (returns-clause-verdict g c))
