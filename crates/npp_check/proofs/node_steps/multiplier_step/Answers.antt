use Rattle.std.proofs.Common.{◌≡◌, ◌∙◌, ◌-◌, suc, [], ◌∷◌, map, sym, ap, arith}
use Rattle.std.proofs.lemmas.List.{map-append}
use Rattle.npp_frac.specs.Fits.{limit_of}
use Rattle.npp_rows.specs.Meaning.{multiplier_value}
use Rattle.npp_tree.specs.Items.{item_of}
use Rattle.npp_rows.specs.Parts.{is_full}
use Rattle.npp_check.specs.declared.descent.Descent.{Descent}
use Rattle.npp_check.specs.Descents.{first_program}
use Rattle.npp_check.specs.Multipliers.{multiplier_line}
use Rattle.npp_check.specs.Stages.{from_multipliers}
use Rattle.npp_check.specs.StageValue.{known_value, sum_value, multipliers_value, step_value}
use Rattle.npp_check.proofs.CutStepLemmas.{step_leads}
use Rattle.npp_check.proofs.NodeStepLemmas.{multiplier_reads, multiplier_breaks}
use Rattle.npp_check.proofs.RowLemmas.{rows_push}
use Rattle.npp_check.proofs.StepLemmas.{refused_so}
use Rattle.npp_check.proofs.node_steps.multiplier_step.Goals as goal

pub multiplier_line-requires-clause-full : goal.multiplier_line-requires-clause-full
multiplier_line-requires-clause-full g c =
    c.is_of_choice-full.ensures ∙ c.requires.stage.kind ∙ sym (ap (λ (x : Descent g.row.N.Denot). is_full x.places.first.parts) c.deref.ensures)

pub returns-in_err-multiplier : goal.returns-in_err-multiplier
returns-in_err-multiplier g c =
    let v = g.N.Exact.rational in
    let d = c.args.descent.value in
    let b = c.args.block in
    let p = first_program v c.args.measured.now.net d in
    let some : b.left ≡ suc (b.left - 1) = omega (arith, c.requires.stage.some) in
    refused_so v (limit_of g.N.Exact.WIDTH) c.args.measured.now (multipliers_value v d b) (item_of v c.args.item.now) c.in_err-multiplier.field-0.0 c.from_residual.result c.from_residual.ensures.1
    (multiplier_breaks (limit_of g.N.Exact.WIDTH) c.args.measured.now (known_value v d.known) d.places.later (sum_value d.sum) d.places.first b.answer b.left (b.left - 1) (map (multiplier_value v) b.multipliers.items) (item_of v c.args.item.now)
    c.in_err-multiplier.field-0.0 some (sym (c.in_err-multiplier.ensures ∙ (λ i. multiplier_line (first_program v c.args.measured.now.net (c.deref.ensures i)) (map (multiplier_value v) (c.deref-2.ensures.value i)) (item_of v c.args.item.now)))))

pub begin_block-requires-clause-rows : goal.begin_block-requires-clause-rows
begin_block-requires-clause-rows g c =
    let v = g.N.Exact.rational in
    let b = c.args.block in
    let p = first_program v c.args.measured.now.net c.args.descent.value in
    let m = c.in_ok-multiplier.multiplier in
    rows_push p (map (multiplier_value v) b.multipliers.items) (map (multiplier_value v) c.push.new.self.items) (item_of v c.args.item.now) (multiplier_value v m) c.requires.stage.multipliers
    (sym (c.in_ok-multiplier.ensures ∙ (λ i. multiplier_line (first_program v c.args.measured.now.net (c.deref.ensures i)) (map (multiplier_value v) (c.deref-2.ensures.value i)) (item_of v c.args.item.now))))
    (ap (map (multiplier_value v)) c.in_ok-push.ensures.items ∙ map-append (multiplier_value v) b.multipliers.items (m ∷ []))

pub returns : goal.returns
returns g c =
    let v = g.N.Exact.rational in
    let d = c.args.descent.value in
    let b = c.args.block in
    let p = first_program v c.args.measured.now.net d in
    let limit = limit_of g.N.Exact.WIDTH in
    let m = c.in_ok-multiplier.multiplier in
    let some : b.left ≡ suc (b.left - 1) = omega (arith, c.requires.stage.some) in
    step_leads limit c.args.measured.now (multipliers_value v d b) (item_of v c.args.item.now)
    (from_multipliers limit c.args.measured.now (known_value v d.known) d.places.later (sum_value d.sum) d.places.first b.answer (b.left - 1) (map (multiplier_value v) c.push.new.self.items))
    (step_value v c.args.measured.now.net c.begin_block.result)
    (multiplier_reads limit c.args.measured.now (known_value v d.known) d.places.later (sum_value d.sum) d.places.first b.answer b.left (b.left - 1) (map (multiplier_value v) b.multipliers.items) (map (multiplier_value v) c.push.new.self.items)
    (item_of v c.args.item.now) (multiplier_value v m) some
    (sym (c.in_ok-multiplier.ensures ∙ (λ i. multiplier_line (first_program v c.args.measured.now.net (c.deref.ensures i)) (map (multiplier_value v) (c.deref-2.ensures.value i)) (item_of v c.args.item.now))))
    (ap (map (multiplier_value v)) c.in_ok-push.ensures.items ∙ map-append (multiplier_value v) b.multipliers.items (m ∷ [])))
    c.begin_block.ensures
