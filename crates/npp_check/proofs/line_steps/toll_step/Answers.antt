use Rattle.std.proofs.Common.{◌≡◌, ◌∙◌, ◌-◌, ℕ, map, length}
use Rattle.npp_frac.specs.Rational.{Rational}
use Rattle.npp_net.specs.Network.{Network, toll_count}
use Rattle.npp_tree.specs.declared.item.Item.{Item}
use Rattle.npp_check.specs.TollLines.{toll_line}
use Rattle.npp_check.specs.Stages.{AtTolls}
use Rattle.npp_frac.specs.Fits.{limit_of}
use Rattle.npp_tree.specs.Items.{item_of}
use Rattle.npp_check.specs.StageValue.{head_value, stage_value}
use Rattle.npp_check.proofs.StepLemmas.{refused_so, toll_goes, toll_breaks}
use Rattle.npp_check.proofs.line_steps.toll_step.Goals as goal

named : (i : Item Rational) {m n : Network} {j k : ℕ} → m ≡ n → j ≡ k → toll_line m j i ≡ toll_line n k i
named i d e = λ t. toll_line (d t) (e t) i

pub returns-in_err-toll : goal.returns-in_err-toll
returns-in_err-toll g c =
    refused_so g.N.Exact.rational (limit_of g.N.Exact.WIDTH) c.args.measured.now (AtTolls (head_value g.N.Exact.rational c.args.head.value) (toll_count c.args.measured.now.net.arcs - length c.args.tolls.items) (map g.N.Exact.rational c.args.tolls.items)) (item_of g.N.Exact.rational c.args.item.now) c.in_err-toll.field-0.0 c.from_residual.result c.from_residual.ensures.1
    (toll_breaks g.N.Exact.rational (limit_of g.N.Exact.WIDTH) c.args.measured.now (head_value g.N.Exact.rational c.args.head.value) c.args.tolls.items (item_of g.N.Exact.rational c.args.item.now) c.requires c.in_err-toll.field-0.0 (c.in_err-toll.ensures ∙ named (item_of g.N.Exact.rational c.args.item.now) c.instance-instance.ensures.instance (c.len.ensures ∙ c.args.tolls.ok.0)))

pub returns : goal.returns
returns g c =
    toll_goes g.N.Exact.rational (limit_of g.N.Exact.WIDTH) c.args.measured.now (head_value g.N.Exact.rational c.args.head.value) c.args.tolls.items (item_of g.N.Exact.rational c.args.item.now) c.requires
    c.push.new.self.items c.in_ok-toll.toll (stage_value g.N.Exact.rational c.args.measured.now.net c.tolls_stage.result) c.in_ok-push.ensures.items (c.in_ok-toll.ensures ∙ named (item_of g.N.Exact.rational c.args.item.now) c.instance-instance.ensures.instance (c.len.ensures ∙ c.args.tolls.ok.0)) c.tolls_stage.ensures
