use Rattle.std.proofs.Common.{◌∙◌, [], sym}
use Rattle.npp_frac.specs.Fits.{limit_of}
use Rattle.npp_tree.specs.Bounds.{bound_value}
use Rattle.npp_tree.specs.Items.{item_of}
use Rattle.npp_check.specs.EndLine.{end_line}
use Rattle.npp_check.specs.Stages.{AtNodes}
use Rattle.npp_check.specs.StageValue.{head_value, known_value, sum_value}
use Rattle.npp_check.proofs.NodeStepLemmas.{end_goes, end_breaks}
use Rattle.npp_check.proofs.StepLemmas.{refused_so}
use Rattle.npp_check.proofs.branch_steps.end_step.Goals as goal

pub returns-in_err-end_line : goal.returns-in_err-end_line
returns-in_err-end_line g c =
    let v = g.N.Exact.rational in
    let d = c.args.descent.value in
    let judged = c.in_err-end_line.ensures ∙ (λ i. end_line (head_value v (c.deref.ensures i).known.head) (c.deref-2.ensures i).sum.opened (bound_value (c.deref-2.ensures i).sum.bound) (item_of v c.args.item.now)) in
    refused_so v (limit_of g.N.Exact.WIDTH) c.args.measured.now (AtNodes (known_value v d.known) [] (sum_value d.sum)) (item_of v c.args.item.now) c.in_err-end_line.field-0.0 c.from_residual.result c.from_residual.ensures.1
    (end_breaks (limit_of g.N.Exact.WIDTH) c.args.measured.now (known_value v d.known) (sum_value d.sum) (item_of v c.args.item.now) c.in_err-end_line.field-0.0 (sym judged))

pub returns : goal.returns
returns g c =
    let v = g.N.Exact.rational in
    let d = c.args.descent.value in
    let judged = c.in_ok-end_line.ensures ∙ (λ i. end_line (head_value v (c.deref.ensures i).known.head) (c.deref-2.ensures i).sum.opened (bound_value (c.deref-2.ensures i).sum.bound) (item_of v c.args.item.now)) in
    (end_goes (limit_of g.N.Exact.WIDTH) c.args.measured.now (known_value v d.known) (sum_value d.sum) (item_of v c.args.item.now) c.in_ok-end_line.field-0 (sym judged), tt)
