use Rattle.std.proofs.Common.{◌≡◌, ◌∙◌, List, All, length, map, sym, ap, subst, arith}
use Rattle.std.proofs.lemmas.List.{length-map}
use Rattle.npp_frac.specs.Rational.{Rational}
use Rattle.npp_frac.specs.Fits.{limit_of}
use Rattle.npp_rows.specs.declared.names.Multiplier.{Multiplier}
use Rattle.npp_rows.specs.Cuts.{IsCut}
use Rattle.npp_rows.specs.Family.{Family}
use Rattle.npp_rows.specs.Meaning.{cut_value, multiplier_value}
use Rattle.npp_rows.specs.Named.{NamedProgram}
use Rattle.npp_rows.specs.Relax.{relaxation, relaxation_columns, paid_goal}
use Rattle.npp_rows.specs.Taken.{AreTaken}
use Rattle.npp_rows.proofs.RowPlaces.{relaxation_rows_rise}
use Rattle.npp_tree.specs.Bounds.{bound_value}
use Rattle.npp_check.specs.Judges.{Judges}
use Rattle.npp_check.specs.NodeLines.{proof_by}
use Rattle.npp_check.specs.Standing.{AreOfRows}
use Rattle.npp_check.proofs.NodeProofLemmas.{judged_so}
use Rattle.npp_check.proofs.node_proof.family_value.Goals as goal

pub sums_of_relaxation-requires-clause-cuts : goal.sums_of_relaxation-requires-clause-cuts
sums_of_relaxation-requires-clause-cuts g c =
    subst (λ (f : Family). All (λ x. IsCut f.paths (cut_value g.N.Exact.rational x)) c.args.cuts.now) (sym c.in_ok-index.ensures) c.requires.cuts

pub sums_of_relaxation-requires-clause-rows : goal.sums_of_relaxation-requires-clause-rows
sums_of_relaxation-requires-clause-rows g c =
    let v = g.N.Exact.rational in
    subst (λ (f : Family). AreOfRows (relaxation f.paths f.parts (map (cut_value v) c.args.cuts.now)) (map (multiplier_value v) c.deref.result.now)) (sym c.in_ok-index.ensures)
    (subst (λ (ms : List (Multiplier g.row.N.Denot)). AreOfRows (relaxation c.args.table.now c.args.allowed.now.parts (map (cut_value v) c.args.cuts.now)) (map (multiplier_value v) ms)) (sym c.deref.ensures.value) c.requires.rows)

pub judge-requires : goal.judge-requires
judge-requires g c =
    let v = g.N.Exact.rational in
    let f = c.in_ok-index.index in
    let goal_size : length (map v c.deref-2.result.now) ≡ length (map (paid_goal f.paths) (relaxation_columns f.paths f.parts)) = ap length (ap (map v) c.deref-2.ensures.value ∙ c.in_ok-goal.ensures) in
    omega (arith, goal_size, length-map c.deref-2.result.now v, length-map (relaxation_columns f.paths f.parts) (paid_goal f.paths), c.in_ok-sums.ensures.columns)

pub returns-in_err-bound : goal.returns-in_err-bound
returns-in_err-bound g c =
    let v = g.N.Exact.rational in
    let f = c.in_ok-index.index in
    let cuts = map (cut_value v) c.args.cuts.now in
    let p : NamedProgram = relaxation f.paths f.parts (map (cut_value v) c.args.cuts.now) in
    let ys : List (Multiplier Rational) = map (multiplier_value v) c.args.block.now.multipliers.items in
    let taken = subst (λ (ms : List (Multiplier g.row.N.Denot)). AreTaken v (limit_of g.N.Exact.WIDTH) p (map (multiplier_value v) ms) c.in_ok-sums.sums) c.deref.ensures.value c.in_ok-sums.ensures.taken in
    subst (λ (f : Family). Judges bound_value c.from_residual-in_err-bound.result (proof_by (limit_of g.N.Exact.WIDTH) (relaxation f.paths f.parts (map (cut_value v) c.args.cuts.now)) c.args.block.now.answer ys)) c.in_ok-index.ensures
    (judged_so bound_value c.from_residual-in_err-bound.result c.in_err-bound.field-0.0 (proof_by (limit_of g.N.Exact.WIDTH) p c.args.block.now.answer ys) c.from_residual-in_err-bound.ensures.1
    (c.in_err-bound.ensures p ys (relaxation_rows_rise f.paths f.parts (length cuts)) (ap (map v) c.deref-2.ensures.value ∙ c.in_ok-goal.ensures) taken))

pub returns : goal.returns
returns g c =
    let v = g.N.Exact.rational in
    let f = c.in_ok-index.index in
    let cuts = map (cut_value v) c.args.cuts.now in
    let p : NamedProgram = relaxation f.paths f.parts (map (cut_value v) c.args.cuts.now) in
    let ys : List (Multiplier Rational) = map (multiplier_value v) c.args.block.now.multipliers.items in
    let taken = subst (λ (ms : List (Multiplier g.row.N.Denot)). AreTaken v (limit_of g.N.Exact.WIDTH) p (map (multiplier_value v) ms) c.in_ok-sums.sums) c.deref.ensures.value c.in_ok-sums.ensures.taken in
    let same : p ≡ relaxation c.args.table.now c.args.allowed.now.parts (map (cut_value v) c.args.cuts.now) = ap (λ (f : Family). relaxation f.paths f.parts (map (cut_value v) c.args.cuts.now)) c.in_ok-index.ensures in
    ap (λ (q : NamedProgram). proof_by (limit_of g.N.Exact.WIDTH) q c.args.block.now.answer ys) (sym same)
    ∙ sym (c.in_ok-bound.ensures p ys (relaxation_rows_rise f.paths f.parts (length cuts)) (ap (map v) c.deref-2.ensures.value ∙ c.in_ok-goal.ensures) taken)
