use Rattle.std.proofs.Common.{◌∙◌, ◌-◌, ap}
use Rattle.npp_net.specs.Network.{Network, toll_count}
use Rattle.npp_check.specs.HeadLines.{limit_line}
use Rattle.npp_frac.specs.Fits.{limit_of}
use Rattle.npp_tree.specs.Items.{item_of}
use Rattle.npp_check.specs.StageValue.{head_value, stage_value}
use Rattle.npp_check.specs.Stages.{AtLimits}
use Rattle.npp_check.proofs.StepLemmas.{refused_so, limit_goes, limit_breaks, ceilings}
use Rattle.npp_check.proofs.head_steps.limit_step.Goals as goal

pub returns-in_err-_ceiling : goal.returns-in_err-_ceiling
returns-in_err-_ceiling g c =
    refused_so g.N.Exact.rational (limit_of g.N.Exact.WIDTH) c.args.measured.now (AtLimits (head_value g.N.Exact.rational c.args.head.value) (toll_count c.args.measured.now.net.arcs - c.args.taken) (ceilings c.args.measured.now c.args.taken)) (item_of g.N.Exact.rational c.args.item.now) c.in_err-_ceiling.field-0.0 c.from_residual.result c.from_residual.ensures.1
    (limit_breaks (limit_of g.N.Exact.WIDTH) c.args.measured.now (head_value g.N.Exact.rational c.args.head.value) c.args.taken (item_of g.N.Exact.rational c.args.item.now) c.requires c.in_err-_ceiling.field-0.0 (c.in_err-_ceiling.ensures ∙ ap (λ (n : Network). limit_line n c.args.taken (item_of g.N.Exact.rational c.args.item.now)) c.instance.ensures.instance))

pub returns : goal.returns
returns g c =
    limit_goes (limit_of g.N.Exact.WIDTH) c.args.measured.now (head_value g.N.Exact.rational c.args.head.value) c.args.taken (item_of g.N.Exact.rational c.args.item.now) c.requires
    c.in_ok-_ceiling._ceiling (stage_value g.N.Exact.rational c.args.measured.now.net c.limits_stage.result) (c.in_ok-_ceiling.ensures ∙ ap (λ (n : Network). limit_line n c.args.taken (item_of g.N.Exact.rational c.args.item.now)) c.instance.ensures.instance) c.limits_stage.ensures
