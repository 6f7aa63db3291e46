use Rattle.std.proofs.Common.{◌-◌, List, [], map, sym, subst, refl, arith}
use Rattle.npp_frac.specs.Fits.{limit_of}
use Rattle.npp_frac.specs.Rational.{Rational}
use Rattle.npp_rows.specs.declared.cut.Derivation.TheVariants as derivation
use Rattle.npp_rows.specs.declared.names.Multiplier.{Multiplier}
use Rattle.npp_rows.specs.Derivations.{Derived}
use Rattle.npp_rows.specs.Meaning.{cut_value}
use Rattle.npp_tree.specs.declared.item.Item.{Item}
use Rattle.npp_tree.specs.Items.{item_of}
use Rattle.npp_check.specs.Steps.{Steps}
use Rattle.npp_check.specs.StageValue.{head_value, cuts_value, cut_value_at, step_value}
use Rattle.npp_check.specs.Stages.{from_cut_multipliers, from_stage}
use Rattle.npp_tree.specs.declared.item.Item.TheVariants as item
use Rattle.npp_check.specs.declared.block.CutKind.TheVariants as cut_kind
use Rattle.npp_check.specs.declared.refusal.Rule.TheVariants as rule
use Rattle.npp_check.proofs.CutStepLemmas.{block_begins, cut_begins, no_cut_begins, no_cut, step_leads, cuts_less}
use Rattle.npp_check.proofs.cut_steps.begin_step.Goals as goal

pub begin_cut-requires : goal.begin_cut-requires
begin_cut-requires g c = cuts_less c.args.measured.now.net c.args.known.value.covers.items c.args.left (map (cut_value g.N.Exact.rational) c.args.known.value.cuts.items) c.requires.some c.requires.stage

pub begin_cut-requires-in-Round : goal.begin_cut-requires-in-Round
begin_cut-requires-in-Round g c = cuts_less c.args.measured.now.net c.args.known.value.covers.items c.args.left (map (cut_value g.N.Exact.rational) c.args.known.value.cuts.items) c.requires.some c.requires.stage

pub end_cut-requires : goal.end_cut-requires
end_cut-requires g c = cuts_less c.args.measured.now.net c.args.known.value.covers.items c.args.left (map (cut_value g.N.Exact.rational) c.args.known.value.cuts.items) c.requires.some c.requires.stage

pub returns-in-Conflict : goal.returns-in-Conflict
returns-in-Conflict g c =
    subst (λ (i : Item g.row.N.Denot). Steps (limit_of g.N.Exact.WIDTH) c.args.measured.now (cuts_value g.N.Exact.rational c.args.known.value c.args.left) (item_of g.N.Exact.rational i) (step_value g.N.Exact.rational c.args.measured.now.net c.begin_cut.result)) (sym c.in-Conflict.is)
    (step_leads (limit_of g.N.Exact.WIDTH) c.args.measured.now (cuts_value g.N.Exact.rational c.args.known.value c.args.left) (item.Conflict c.in-Conflict.k c.in-Conflict.p c.in-Conflict.l c.in-Conflict.q c.in-Conflict.lines)
    (from_stage (limit_of g.N.Exact.WIDTH) c.args.measured.now (cut_value_at g.N.Exact.rational c.args.known.value (c.args.left - 1) c.new_block.result)) (step_value g.N.Exact.rational c.args.measured.now.net c.begin_cut.result)
    (λ number items. block_begins g.N.Exact.rational (limit_of g.N.Exact.WIDTH) c.args.measured.now (head_value g.N.Exact.rational c.args.known.value.head) c.args.known.value.covers.items (c.args.left - 1) (map (cut_value g.N.Exact.rational) c.args.known.value.cuts.items) (item.Conflict c.in-Conflict.k c.in-Conflict.p c.in-Conflict.l c.in-Conflict.q c.in-Conflict.lines) (cut_kind.Conflict c.in-Conflict.k c.in-Conflict.p c.in-Conflict.l c.in-Conflict.q) c.in-Conflict.lines c.new_block.result refl c.new_block.ensures.kind c.new_block.ensures.lines c.new_block.ensures.none c.args.left number items (omega (arith, c.requires.some)))
    c.begin_cut.ensures)

pub returns-in-Round : goal.returns-in-Round
returns-in-Round g c =
    subst (λ (i : Item g.row.N.Denot). Steps (limit_of g.N.Exact.WIDTH) c.args.measured.now (cuts_value g.N.Exact.rational c.args.known.value c.args.left) (item_of g.N.Exact.rational i) (step_value g.N.Exact.rational c.args.measured.now.net c.begin_cut-in-Round.result)) (sym c.in-Round.is)
    (step_leads (limit_of g.N.Exact.WIDTH) c.args.measured.now (cuts_value g.N.Exact.rational c.args.known.value c.args.left) (item.Round c.in-Round.lines)
    (from_stage (limit_of g.N.Exact.WIDTH) c.args.measured.now (cut_value_at g.N.Exact.rational c.args.known.value (c.args.left - 1) c.new_block-in-Round.result)) (step_value g.N.Exact.rational c.args.measured.now.net c.begin_cut-in-Round.result)
    (λ number items. block_begins g.N.Exact.rational (limit_of g.N.Exact.WIDTH) c.args.measured.now (head_value g.N.Exact.rational c.args.known.value.head) c.args.known.value.covers.items (c.args.left - 1) (map (cut_value g.N.Exact.rational) c.args.known.value.cuts.items) (item.Round c.in-Round.lines) cut_kind.Round c.in-Round.lines c.new_block-in-Round.result refl c.new_block-in-Round.ensures.kind c.new_block-in-Round.ensures.lines c.new_block-in-Round.ensures.none c.args.left number items (omega (arith, c.requires.some)))
    c.begin_cut-in-Round.ensures)

pub returns-in-Pair : goal.returns-in-Pair
returns-in-Pair g c =
    let pair : Derived = derivation.Pair c.in-Pair.k c.in-Pair.p c.in-Pair.l c.in-Pair.cuts in
    let always : List (Multiplier Rational) → Derived = λ y. pair in
    subst (λ (i : Item g.row.N.Denot). Steps (limit_of g.N.Exact.WIDTH) c.args.measured.now (cuts_value g.N.Exact.rational c.args.known.value c.args.left) (item_of g.N.Exact.rational i) (step_value g.N.Exact.rational c.args.measured.now.net c.end_cut.result)) (sym c.in-Pair.is)
    (step_leads (limit_of g.N.Exact.WIDTH) c.args.measured.now (cuts_value g.N.Exact.rational c.args.known.value c.args.left) (item.Pair c.in-Pair.k c.in-Pair.p c.in-Pair.l c.in-Pair.cuts)
    (from_cut_multipliers (limit_of g.N.Exact.WIDTH) c.args.measured.now (head_value g.N.Exact.rational c.args.known.value.head) c.args.known.value.covers.items (c.args.left - 1) (map (cut_value g.N.Exact.rational) c.args.known.value.cuts.items) always 0 []) (step_value g.N.Exact.rational c.args.measured.now.net c.end_cut.result)
    (λ number items. cut_begins (limit_of g.N.Exact.WIDTH) c.args.measured.now (head_value g.N.Exact.rational c.args.known.value.head) c.args.known.value.covers.items (c.args.left - 1) (map (cut_value g.N.Exact.rational) c.args.known.value.cuts.items) (item.Pair c.in-Pair.k c.in-Pair.p c.in-Pair.l c.in-Pair.cuts) 0 always refl c.args.left number items (omega (arith, c.requires.some)))
    c.end_cut.ensures)

pub returns-in_default : goal.returns-in_default
returns-in_default g c =
    no_cut_begins (limit_of g.N.Exact.WIDTH) c.args.measured.now (head_value g.N.Exact.rational c.args.known.value.head) c.args.known.value.covers.items (c.args.left - 1) (map (cut_value g.N.Exact.rational) c.args.known.value.cuts.items) (item_of g.N.Exact.rational c.args.item) rule.Order (no_cut g.N.Exact.rational c.args.item c.in_default.not-Conflict c.in_default.not-Pair c.in_default.not-Round) c.args.left (omega (arith, c.requires.some))
