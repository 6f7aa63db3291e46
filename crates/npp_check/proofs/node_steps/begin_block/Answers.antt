use Rattle.std.proofs.Common.{◌≡◌, ◌∙◌, Ok, Err, map, ap, sym, subst, arith}
use Rattle.npp_frac.specs.Fits.{limit_of}
use Rattle.npp_rows.specs.Meaning.{cut_value, multiplier_value}
use Rattle.npp_tree.specs.Bounds.{bound_value, lesser}
use Rattle.npp_check.specs.declared.descent.Descent.{Descent}
use Rattle.npp_check.specs.Descents.{first_program, first_before}
use Rattle.npp_check.specs.Judges.{Judges}
use Rattle.npp_check.specs.NodeLines.{proof_by}
use Rattle.npp_check.specs.Standing.{AreOfRows}
use Rattle.npp_check.specs.StageValue.{known_value, sum_value}
use Rattle.npp_check.proofs.NodeStepLemmas.{block_goes_on, block_stops, block_done}
use Rattle.npp_check.proofs.TreeStandLemmas.{tree_opened}
use Rattle.npp_check.proofs.node_steps.begin_block.Goals as goal

pub returns-then-block-gt0 : goal.returns-then-block-gt0
returns-then-block-gt0 g c =
    let v = g.N.Exact.rational in
    let d = c.args.descent.value in
    block_goes_on (limit_of g.N.Exact.WIDTH) c.args.measured.now (known_value v d.known) d.places.later (sum_value d.sum) d.places.first c.args.block.answer c.args.block.left (map (multiplier_value v) c.args.block.multipliers.items)
    (record { some = c.if-block-gt0.true; kind = c.requires.kind; tree = c.requires.tree; multipliers = c.requires.rows })

pub node_value-requires-clause-rows : goal.node_value-requires-clause-rows
node_value-requires-clause-rows g c =
    let v = g.N.Exact.rational in
    subst (λ (x : Descent g.row.N.Denot). AreOfRows (first_program v c.args.measured.now.net x) (map (multiplier_value v) c.args.block.multipliers.items)) (sym c.deref.ensures) c.requires.rows

pub returns-in_err-value : goal.returns-in_err-value
returns-in_err-value g c =
    let v = g.N.Exact.rational in
    let d = c.args.descent.value in
    block_stops (limit_of g.N.Exact.WIDTH) c.args.measured.now (known_value v d.known) d.places.later (sum_value d.sum) d.places.first c.args.block.answer v bound_value c.args.block.left (map (multiplier_value v) c.args.block.multipliers.items)
    c.from_residual.result c.in_err-value.field-0.0 (omega (arith, c.if-block-gt0.false)) c.from_residual.ensures.1
    (subst (λ (x : Descent g.row.N.Denot). Judges bound_value (Err c.in_err-value.field-0.0) (proof_by (limit_of g.N.Exact.WIDTH) (first_program v c.args.measured.now.net x) c.args.block.answer (map (multiplier_value v) c.args.block.multipliers.items))) c.deref.ensures c.in_err-value.ensures)

pub returns : goal.returns
returns g c =
    let v = g.N.Exact.rational in
    let d = c.args.descent.value in
    block_done (limit_of g.N.Exact.WIDTH) c.args.measured.now (known_value v d.known) d.places.later (sum_value d.sum) d.places.first c.args.block.answer c.args.block.left (map (multiplier_value v) c.args.block.multipliers.items)
    (bound_value c.in_ok-value.value) (bound_value c.lesser-bound.result) (omega (arith, c.if-block-gt0.false))
    (subst (λ (x : Descent g.row.N.Denot). proof_by (limit_of g.N.Exact.WIDTH) (first_program v c.args.measured.now.net x) c.args.block.answer (map (multiplier_value v) c.args.block.multipliers.items) ≡ Ok (bound_value c.in_ok-value.value)) c.deref.ensures c.in_ok-value.ensures)
    (c.lesser-bound.ensures ∙ ap (λ b. lesser b (bound_value c.in_ok-value.value)) (c.bound_before.ensures ∙ ap (first_before c.args.measured.now.net) c.deref-2.ensures))
    (tree_opened c.args.measured.now.net d.known.covers.items (map (cut_value v) d.known.cuts.items) d.places.first d.places.later (bound_value c.lesser-bound.result) c.requires.tree)
