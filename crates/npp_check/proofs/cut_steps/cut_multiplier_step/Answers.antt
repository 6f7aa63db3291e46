use Rattle.std.proofs.Common.{◌∙◌, ◌-◌, [], map, sym, ap, subst, arith}
use Rattle.npp_frac.specs.Fits.{limit_of}
use Rattle.npp_rows.specs.Meaning.{cut_value, multiplier_value}
use Rattle.npp_tree.specs.Items.{item_of}
use Rattle.npp_check.specs.StageValue.{head_value, cut_value_at, step_value}
use Rattle.npp_check.specs.Stages.{from_cut_multipliers, cut_by}
use Rattle.npp_check.specs.declared.refusal.Rule.TheVariants as rule
use Rattle.npp_check.proofs.CutStepLemmas.{multiplier_goes, multiplier_breaks, no_multiplier, step_leads}
use Rattle.std.proofs.Common.{◌∷◌}
use Rattle.std.proofs.lemmas.List.{map-append}
use Rattle.npp_tree.specs.declared.item.Item.{Item}
use Rattle.npp_tree.specs.declared.item.Item.TheVariants as item
use Rattle.npp_check.specs.Steps.{Steps}
use Rattle.npp_check.proofs.cut_steps.cut_multiplier_step.Goals as goal

pub returns-in_default : goal.returns-in_default
returns-in_default g c =
    multiplier_breaks (limit_of g.N.Exact.WIDTH) c.args.measured.now (head_value g.N.Exact.rational c.args.known.value.head) c.args.known.value.covers.items c.args.left (map (cut_value g.N.Exact.rational) c.args.known.value.cuts.items) c.args.block.kind c.args.block.lines (c.args.block.lines - 1) (map (multiplier_value g.N.Exact.rational) c.args.block.multipliers.items) (item_of g.N.Exact.rational c.args.item.now) rule.Order
    (omega (arith, c.requires.stage.0)) (no_multiplier g.N.Exact.rational c.args.item.now c.in_default.not-Mult)

pub returns : goal.returns
returns g c =
    let put = ap (map (multiplier_value g.N.Exact.rational)) c.in_ok-push.ensures.items ∙ map-append (multiplier_value g.N.Exact.rational) c.args.block.multipliers.items (c.in-Mult.multiplier ∷ []) in
    subst (λ (i : Item g.row.N.Denot). Steps (limit_of g.N.Exact.WIDTH) c.args.measured.now (cut_value_at g.N.Exact.rational c.args.known.value c.args.left c.args.block) (item_of g.N.Exact.rational i) (step_value g.N.Exact.rational c.args.measured.now.net c.begin_cut.result)) (sym c.in-Mult.is)
    (step_leads (limit_of g.N.Exact.WIDTH) c.args.measured.now (cut_value_at g.N.Exact.rational c.args.known.value c.args.left c.args.block) (item.Mult (multiplier_value g.N.Exact.rational c.in-Mult.multiplier))
    (from_cut_multipliers (limit_of g.N.Exact.WIDTH) c.args.measured.now (head_value g.N.Exact.rational c.args.known.value.head) c.args.known.value.covers.items c.args.left (map (cut_value g.N.Exact.rational) c.args.known.value.cuts.items) (cut_by c.args.block.kind) (c.args.block.lines - 1) (map (multiplier_value g.N.Exact.rational) c.push.new.self.items)) (step_value g.N.Exact.rational c.args.measured.now.net c.begin_cut.result)
    (λ number items. multiplier_goes (limit_of g.N.Exact.WIDTH) c.args.measured.now (head_value g.N.Exact.rational c.args.known.value.head) c.args.known.value.covers.items c.args.left (map (cut_value g.N.Exact.rational) c.args.known.value.cuts.items) (cut_by c.args.block.kind) c.args.block.lines (c.args.block.lines - 1)
    (map (multiplier_value g.N.Exact.rational) c.args.block.multipliers.items) (map (multiplier_value g.N.Exact.rational) c.push.new.self.items) (multiplier_value g.N.Exact.rational c.in-Mult.multiplier) (omega (arith, c.requires.stage.0)) put number items)
    c.begin_cut.ensures)
