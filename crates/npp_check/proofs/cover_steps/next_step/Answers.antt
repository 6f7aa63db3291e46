use Rattle.std.proofs.Common.{◌∙◌, ◌+◌, ◌-◌, map, length, Ok, Err, ap, sym, subst, arith}
use Rattle.npp_frac.specs.Fits.{limit_of}
use Rattle.npp_short.specs.Reach.{cost_at}
use Rattle.npp_tree.specs.declared.item.Item.TheVariants as item
use Rattle.npp_tree.specs.Outcome.{path_line_value}
use Rattle.npp_check.specs.declared.known.OpenCover.{OpenCover}
use Rattle.npp_check.specs.declared.stop.Stop.{Stop}
use Rattle.npp_check.specs.Stages.{AtLabels}
use Rattle.npp_check.specs.StageValue.{head_value, labels_value}
use Rattle.npp_check.specs.Steps.{Steps, IsStageOf}
use Rattle.npp_check.proofs.LabelStepLemmas.{draft_good, table_good, next_takes, next_stops}
use Rattle.npp_check.proofs.cover_steps.next_step.Goals as goal

pub step-requires-clause-draft : goal.step-requires-clause-draft
step-requires-clause-draft g c =
    let v = g.N.Exact.rational in
    let d : OpenCover = c.deref_mut-open.result.now in
    draft_good c.args.measured.now (map v c.args.printed.value.tolls.items) (map (path_line_value v) c.args.printed.value.paths.items) (length c.args.measured.now.net.commodities - (length d.covers.items + 1)) d.covers.items d.left d.draft (subst (λ (o : OpenCover). IsStageOf c.args.measured.now (labels_value v c.args.measured.now.net c.args.printed.value o)) (sym c.deref_mut-open.ensures.value) c.requires.stage) c.instance-instance.result.now c.instance-instance.ensures.instance c.len.result (c.len.ensures ∙ d.covers.ok.0)

pub step-requires-clause-potentials : goal.step-requires-clause-potentials
step-requires-clause-potentials g c =
    let v = g.N.Exact.rational in
    let d : OpenCover = c.deref_mut-open.result.now in
    table_good c.args.measured.now (map v c.args.printed.value.tolls.items) (map (path_line_value v) c.args.printed.value.paths.items) (length c.args.measured.now.net.commodities - (length d.covers.items + 1)) d.covers.items d.left d.draft (subst (λ (o : OpenCover). IsStageOf c.args.measured.now (labels_value v c.args.measured.now.net c.args.printed.value o)) (sym c.deref_mut-open.ensures.value) c.requires.stage) c.instance-instance.result.now c.instance-instance.ensures.instance c.len.result (c.len.ensures ∙ d.covers.ok.0) c.potentials-potentials.result.now c.potentials-potentials.ensures.distances

pub returns-in-Ok : goal.returns-in-Ok
returns-in-Ok g c =
    let v = g.N.Exact.rational in
    let d : OpenCover = c.deref_mut-open.result.now in
    subst (λ (o : OpenCover). Steps (limit_of g.N.Exact.WIDTH) c.args.measured.now (labels_value v c.args.measured.now.net c.args.printed.value o) (item.Step c.args.step.parent c.args.step.arc) (Ok (AtLabels (head_value v c.args.printed.value.head) (map v c.args.printed.value.tolls.items) (map (path_line_value v) c.args.printed.value.paths.items) (length c.args.measured.now.net.commodities - (length d.covers.items + 1)) d.covers.items (d.left - 1) c.step.new.self))) c.deref_mut-open.ensures.value
    (next_takes (limit_of g.N.Exact.WIDTH) c.args.measured.now (head_value v c.args.printed.value.head) (map v c.args.printed.value.tolls.items) (map (path_line_value v) c.args.printed.value.paths.items) (length c.args.measured.now.net.commodities - (length d.covers.items + 1)) d.covers.items d.left d.draft (subst (λ (o : OpenCover). IsStageOf c.args.measured.now (labels_value v c.args.measured.now.net c.args.printed.value o)) (sym c.deref_mut-open.ensures.value) c.requires.stage) c.instance-instance.result.now c.instance-instance.ensures.instance c.len.result (c.len.ensures ∙ d.covers.ok.0) (cost_at c.potentials-potentials.result.now) c.potentials-potentials.ensures.costs c.args.step (d.left - 1) (omega (arith, c.requires.some, ap (λ (o : OpenCover). o.left) c.deref_mut-open.ensures.value)) (omega (arith, d.counted, c.requires.later, ap (λ (o : OpenCover). o.taken) c.deref_mut-open.ensures.value))
    c.step.new.self c.in-Ok.ensures.fault c.in-Ok.ensures.labels c.in-Ok.ensures.draft)

pub returns-in-Err : goal.returns-in-Err
returns-in-Err g c =
    let v = g.N.Exact.rational in
    let d : OpenCover = c.deref_mut-open.result.now in
    subst (λ (o : OpenCover). Steps (limit_of g.N.Exact.WIDTH) c.args.measured.now (labels_value v c.args.measured.now.net c.args.printed.value o) (item.Step c.args.step.parent c.args.step.arc) (Err c.stop_of_fault.result)) c.deref_mut-open.ensures.value
    (subst (λ (s : Stop). Steps (limit_of g.N.Exact.WIDTH) c.args.measured.now (AtLabels (head_value v c.args.printed.value.head) (map v c.args.printed.value.tolls.items) (map (path_line_value v) c.args.printed.value.paths.items) (length c.args.measured.now.net.commodities - (length d.covers.items + 1)) d.covers.items d.left d.draft) (item.Step c.args.step.parent c.args.step.arc) (Err s)) (sym c.stop_of_fault.ensures)
    (next_stops (limit_of g.N.Exact.WIDTH) c.args.measured.now (head_value v c.args.printed.value.head) (map v c.args.printed.value.tolls.items) (map (path_line_value v) c.args.printed.value.paths.items) (length c.args.measured.now.net.commodities - (length d.covers.items + 1)) d.covers.items d.left d.draft (subst (λ (o : OpenCover). IsStageOf c.args.measured.now (labels_value v c.args.measured.now.net c.args.printed.value o)) (sym c.deref_mut-open.ensures.value) c.requires.stage) c.instance-instance.result.now c.instance-instance.ensures.instance c.len.result (c.len.ensures ∙ d.covers.ok.0) (cost_at c.potentials-potentials.result.now) c.potentials-potentials.ensures.costs c.args.step (d.left - 1) (omega (arith, c.requires.some, ap (λ (o : OpenCover). o.left) c.deref_mut-open.ensures.value)) (omega (arith, d.counted, c.requires.later, ap (λ (o : OpenCover). o.taken) c.deref_mut-open.ensures.value)) c.in-Err.fault c.in-Err.ensures.fault))
