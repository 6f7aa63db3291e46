use Rattle.std.proofs.Common.{◌≡◌, ℕ, List, length, get_or, sym, ap, subst, ◌∙◌}
use Rattle.std.proofs.lemmas.List.{get_or_default}
use Rattle.npp_lp.specs.Meaning.{sum_result}
use Rattle.npp_lp.specs.Verdict.{first_below}
use Rattle.npp_lp.specs.RunningSums.{column_of}
use Rattle.npp_rows.specs.Meaning.{cut_fault_value}
use Rattle.npp_rows.specs.Relax.{relaxation_columns}
use Rattle.npp_rows.specs.Derivations.{column_at}
use Rattle.npp_rows.specs.Rounding.{toll_fault, toll_fault_at, HoldSums}
use Rattle.npp_rows.proofs.FaultLaws.{found_handed}
use Rattle.npp_rows.proofs.TouchedLaws.{tolls_left, left_next, left_found, left_none}
use Rattle.npp_rows.proofs.index.RelaxationIndex.tolls_cancel.Goals as goal

pub loop-i-init : goal.loop-i-init
loop-i-init g c =
    let names = relaxation_columns c.args.self.now.paths c.args.self.now.parts in
    let all = c.args.sums.now.all in
    let columns = c.columns-columns.result.now in
    tolls_left names (length names) all columns (subst (λ (n : ℕ). HoldSums n all columns) c.requires.size c.columns-columns.ensures.hold)

pub judge_toll-requires : goal.judge_toll-requires
judge_toll-requires g c =
    let all = c.args.sums.now.all in
    let columns = c.columns-columns.result.now in
    let hold = subst (λ (n : ℕ). HoldSums n all columns) c.requires.size c.columns-columns.ensures.hold in
    hold.inside c.loop-i.i 0 c.loop-i-test.true

pub loop-i-preserved : goal.loop-i-preserved
loop-i-preserved g c =
    let names = relaxation_columns c.args.self.now.paths c.args.self.now.parts in
    let all = c.args.sums.now.all in
    let columns = c.columns-columns.result.now in
    let j : ℕ = get_or columns c.loop-i.i 0 in
    let sum : sum_result g.N.Exact.rational c.sum_at.result ≡ column_of all j = c.sum_at.ensures ∙ ap (λ (xs : List ℕ). column_of all (get_or xs c.loop-i.i 0)) (sym c.columns-columns.ensures.columns) in
    left_next (toll_fault_at names all) (length names) columns c.loop-i.i j c.loop-i-test.true (get_or_default columns c.loop-i.i 0 j c.loop-i-test.true)
    (ap (toll_fault (column_at names j)) (sym sum) ∙ c.in_ok-judge_toll.ensures) c.loop-i.invariant

pub returns-in_err-judge_toll : goal.returns-in_err-judge_toll
returns-in_err-judge_toll g c =
    let names = relaxation_columns c.args.self.now.paths c.args.self.now.parts in
    let all = c.args.sums.now.all in
    let columns = c.columns-columns.result.now in
    let j : ℕ = get_or columns c.loop-i.i 0 in
    let hold = subst (λ (n : ℕ). HoldSums n all columns) c.requires.size c.columns-columns.ensures.hold in
    let sum : sum_result g.N.Exact.rational c.sum_at.result ≡ column_of all j = c.sum_at.ensures ∙ ap (λ (xs : List ℕ). column_of all (get_or xs c.loop-i.i 0)) (sym c.columns-columns.ensures.columns) in
    found_handed g.N.Exact.rational c.from_residual.result c.in_err-judge_toll.field-0.0 _ (first_below (length names) (toll_fault_at names all)) c.from_residual.ensures.1
    (left_found (toll_fault_at names all) (length names) columns c.loop-i.i j (cut_fault_value g.N.Exact.rational c.in_err-judge_toll.field-0.0) hold.rising c.loop-i-test.true (get_or_default columns c.loop-i.i 0 j c.loop-i-test.true)
    (hold.inside c.loop-i.i 0 c.loop-i-test.true) c.loop-i.invariant (ap (toll_fault (column_at names j)) (sym sum) ∙ c.in_err-judge_toll.ensures))

pub returns : goal.returns
returns g c =
    let names = relaxation_columns c.args.self.now.paths c.args.self.now.parts in
    left_none (toll_fault_at names c.args.sums.now.all) (length names) c.columns-columns.result.now c.loop-i.i c.loop-i-test.false c.loop-i.invariant
