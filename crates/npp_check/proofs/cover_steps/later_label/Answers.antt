use Rattle.std.proofs.Common.{◌+◌, ◌-◌, map, length, arith}
use Rattle.npp_frac.specs.Fits.{limit_of}
use Rattle.npp_tree.specs.Outcome.{path_line_value}
use Rattle.npp_tree.specs.Items.{item_of}
use Rattle.npp_check.specs.declared.refusal.Rule.TheVariants as rule
use Rattle.npp_check.specs.StageValue.{head_value}
use Rattle.npp_check.proofs.CoverStepLemmas.{label_breaks, not_later}
use Rattle.npp_check.proofs.cover_steps.later_label.Goals as goal

pub returns-in_default : goal.returns-in_default
returns-in_default g c =
    label_breaks (limit_of g.N.Exact.WIDTH) c.args.measured.now (head_value g.N.Exact.rational c.args.printed.value.head) (map g.N.Exact.rational c.args.printed.value.tolls.items) (map (path_line_value g.N.Exact.rational) c.args.printed.value.paths.items) (length c.args.measured.now.net.commodities - (length c.args.cover.value.covers.items + 1)) c.args.cover.value.covers.items c.args.cover.value.left (c.args.cover.value.left - 1) c.args.cover.value.draft (item_of g.N.Exact.rational c.args.item.now) (omega (arith, c.requires.some)) rule.Order
    (not_later c.args.measured.now.net c.args.measured.now.measures (length c.args.cover.value.covers.items) g.N.Exact.rational c.args.item.now c.args.cover.value.draft.labels (omega (arith, c.args.cover.value.counted, c.requires.later)) c.in_default.not-Step)
