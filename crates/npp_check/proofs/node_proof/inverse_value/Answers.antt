use Rattle.std.proofs.Common.{◌≡◌, ◌∙◌, List, length, map, sym, ap, subst, arith}
use Rattle.std.specs.Prelude.{Some}
use Rattle.std.proofs.lemmas.List.{length-map}
use Rattle.std.proofs.lemmas.List.FromFn.{length-range_with_len}
use Rattle.npp_frac.specs.Rational.{Rational}
use Rattle.npp_frac.specs.Fits.{limit_of}
use Rattle.npp_rows.specs.declared.names.ColumnName.TheVariants.{Toll}
use Rattle.npp_rows.specs.declared.names.Multiplier.{Multiplier}
use Rattle.npp_rows.specs.Inverse.{inverse, revenue_goal}
use Rattle.npp_rows.specs.Meaning.{multiplier_value}
use Rattle.npp_rows.specs.Named.{NamedProgram}
use Rattle.npp_rows.specs.Parts.{chosen}
use Rattle.npp_rows.specs.PathModel.{tolls}
use Rattle.npp_rows.specs.Taken.{AreTaken}
use Rattle.npp_rows.proofs.RowPlaces.{choice_rows_rise}
use Rattle.npp_tree.specs.Bounds.{bound_value}
use Rattle.npp_check.specs.NodeLines.{proof_by}
use Rattle.npp_check.specs.Standing.{AreOfRows}
use Rattle.npp_check.proofs.NodeProofLemmas.{judged_so}
use Rattle.npp_check.proofs.node_proof.inverse_value.Goals as goal

pub sums_of_choice-requires-clause-rows : goal.sums_of_choice-requires-clause-rows
sums_of_choice-requires-clause-rows g c =
    subst (λ (ms : List (Multiplier g.row.N.Denot)). AreOfRows (inverse c.args.table.now c.args.choice.now) (map (multiplier_value g.N.Exact.rational) ms)) (sym c.deref.ensures.value) c.requires.rows

pub judge-requires : goal.judge-requires
judge-requires g c =
    let v = g.N.Exact.rational in
    let m = c.args.table.now in
    let goal_size : length (map v c.deref-2.result.now) ≡ length (map (revenue_goal m c.args.choice.now) (map Toll (tolls m))) = ap length (ap (map v) c.deref-2.ensures.value ∙ c.in_ok-goal.ensures) in
    omega (arith, goal_size, length-map c.deref-2.result.now v, length-map (map Toll (tolls m)) (revenue_goal m c.args.choice.now), length-map (tolls m) Toll, length-range_with_len 0 (length m.caps), c.in_ok-sums.ensures.columns)

pub returns-in_err-bound : goal.returns-in_err-bound
returns-in_err-bound g c =
    let v = g.N.Exact.rational in
    let p : NamedProgram = inverse c.args.table.now c.args.choice.now in
    let ys : List (Multiplier Rational) = map (multiplier_value v) c.args.block.now.multipliers.items in
    let taken = subst (λ (ms : List (Multiplier g.row.N.Denot)). AreTaken v (limit_of g.N.Exact.WIDTH) p (map (multiplier_value v) ms) c.in_ok-sums.sums) c.deref.ensures.value c.in_ok-sums.ensures.taken in
    judged_so bound_value c.from_residual-in_err-bound.result c.in_err-bound.field-0.0 (proof_by (limit_of g.N.Exact.WIDTH) p c.args.block.now.answer ys) c.from_residual-in_err-bound.ensures.1
    (c.in_err-bound.ensures p ys (choice_rows_rise c.args.table.now (λ k. Some (chosen c.args.choice.now k))) (ap (map v) c.deref-2.ensures.value ∙ c.in_ok-goal.ensures) taken)

pub returns : goal.returns
returns g c =
    let v = g.N.Exact.rational in
    let p : NamedProgram = inverse c.args.table.now c.args.choice.now in
    let ys : List (Multiplier Rational) = map (multiplier_value v) c.args.block.now.multipliers.items in
    let taken = subst (λ (ms : List (Multiplier g.row.N.Denot)). AreTaken v (limit_of g.N.Exact.WIDTH) p (map (multiplier_value v) ms) c.in_ok-sums.sums) c.deref.ensures.value c.in_ok-sums.ensures.taken in
    sym (c.in_ok-bound.ensures p ys (choice_rows_rise c.args.table.now (λ k. Some (chosen c.args.choice.now k))) (ap (map v) c.deref-2.ensures.value ∙ c.in_ok-goal.ensures) taken)
