use Rattle.std.proofs.Common.{◌∙◌, map, Ok, sym, ap, subst, refl}
use Rattle.npp_frac.specs.Fits.{limit_of}
use Rattle.npp_net.specs.Network.{Network}
use Rattle.npp_rows.specs.Caps.{path_model}
use Rattle.npp_tree.specs.Items.{item_of}
use Rattle.npp_tree.specs.Outcome.{path_line_value}
use Rattle.npp_check.specs.CutLines.{cuts_line}
use Rattle.npp_check.specs.declared.known.Known.{Known}
use Rattle.npp_check.specs.declared.stop.Stop.TheVariants as stop
use Rattle.npp_check.proofs.NodeStepLemmas.{wants}
use Rattle.npp_check.specs.StageValue.{head_value, covers_value, cuts_value}
use Rattle.std.proofs.Common.{List}
use Rattle.npp_rows.specs.Cuts.{Cut}
use Rattle.npp_rows.specs.Meaning.{cut_value}
use Rattle.npp_check.specs.Stages.{AtCuts}
use Rattle.npp_check.specs.Steps.{Steps}
use Rattle.npp_check.proofs.StepLemmas.{refused_so}
use Rattle.npp_check.proofs.CoverStepLemmas.{cuts_goes, cuts_breaks, covers_stand, printed_stands, few_cuts, cuts_begin}
use Rattle.npp_check.proofs.cover_steps.cuts_step.Goals as goal

pub cuts_line-requires-clause-printed : goal.cuts_line-requires-clause-printed
cuts_line-requires-clause-printed g c = printed_stands c.args.measured.now.net c.instance.result.now (map g.N.Exact.rational c.args.printed.tolls.items) (map (path_line_value g.N.Exact.rational) c.args.printed.paths.items) c.instance.ensures.instance c.requires.stage.0

pub cuts_line-requires-clause-covers : goal.cuts_line-requires-clause-covers
cuts_line-requires-clause-covers g c = rw c.deref.ensures.value (covers_stand c.args.measured.now.net c.instance.result.now c.args.covers.items c.instance.ensures.instance c.requires.all c.requires.stage.1)

pub returns-in_err-left : goal.returns-in_err-left
returns-in_err-left g c =
    let judged = rw c.deref.ensures.value at c.in_err-left.ensures in
    let here = judged ∙ ap (λ (n : Network). cuts_line (limit_of g.N.Exact.WIDTH) n (path_model n c.args.covers.items) (map g.N.Exact.rational c.args.printed.tolls.items) (map (path_line_value g.N.Exact.rational) c.args.printed.paths.items) (head_value g.N.Exact.rational c.args.printed.head).lower (item_of g.N.Exact.rational c.args.item.now)) c.instance.ensures.instance in
    refused_so g.N.Exact.rational (limit_of g.N.Exact.WIDTH) c.args.measured.now (covers_value g.N.Exact.rational c.args.measured.now.net c.args.printed c.args.covers.items) (item_of g.N.Exact.rational c.args.item.now) c.in_err-left.field-0.0 c.from_residual.result c.from_residual.ensures.1
    (cuts_breaks (limit_of g.N.Exact.WIDTH) c.args.measured.now (head_value g.N.Exact.rational c.args.printed.head) (map g.N.Exact.rational c.args.printed.tolls.items) (map (path_line_value g.N.Exact.rational) c.args.printed.paths.items) c.args.covers.items (item_of g.N.Exact.rational c.args.item.now) c.requires.all c.in_err-left.field-0.0 here)

pub returns : goal.returns
returns g c =
    let judged = rw c.deref.ensures.value at c.in_ok-left.ensures in
    let here = judged ∙ ap (λ (n : Network). cuts_line (limit_of g.N.Exact.WIDTH) n (path_model n c.args.covers.items) (map g.N.Exact.rational c.args.printed.tolls.items) (map (path_line_value g.N.Exact.rational) c.args.printed.paths.items) (head_value g.N.Exact.rational c.args.printed.head).lower (item_of g.N.Exact.rational c.args.item.now)) c.instance.ensures.instance in
    let none = ap (map (cut_value g.N.Exact.rational)) c.new.ensures.items in
    subst (λ (k : Known g.row.N.Denot). Steps (limit_of g.N.Exact.WIDTH) c.args.measured.now (covers_value g.N.Exact.rational c.args.measured.now.net c.args.printed c.args.covers.items) (item_of g.N.Exact.rational c.args.item.now) (Ok (cuts_value g.N.Exact.rational k c.in_ok-left.left))) (sym c.in_ok-known.ensures.ok)
    (subst (λ (rows : List Cut). Steps (limit_of g.N.Exact.WIDTH) c.args.measured.now (covers_value g.N.Exact.rational c.args.measured.now.net c.args.printed c.args.covers.items) (item_of g.N.Exact.rational c.args.item.now) (Ok (AtCuts (head_value g.N.Exact.rational c.args.printed.head) c.args.covers.items c.in_ok-left.left rows))) (sym none) (
      cuts_goes (limit_of g.N.Exact.WIDTH) c.args.measured.now (head_value g.N.Exact.rational c.args.printed.head) (map g.N.Exact.rational c.args.printed.tolls.items) (map (path_line_value g.N.Exact.rational) c.args.printed.paths.items) c.args.covers.items (item_of g.N.Exact.rational c.args.item.now) c.requires.all c.in_ok-left.left here,
      cuts_begin c.args.measured.now.net c.args.covers.items c.in_ok-left.left (covers_stand c.args.measured.now.net c.args.measured.now.net c.args.covers.items refl c.requires.all c.requires.stage.1)
          (few_cuts (limit_of g.N.Exact.WIDTH) c.args.measured.now.net (path_model c.args.measured.now.net c.args.covers.items) (map g.N.Exact.rational c.args.printed.tolls.items) (map (path_line_value g.N.Exact.rational) c.args.printed.paths.items) (head_value g.N.Exact.rational c.args.printed.head).lower (item_of g.N.Exact.rational c.args.item.now) c.in_ok-left.left (sym here)),
    ))

pub returns-in_err-known : goal.returns-in_err-known
returns-in_err-known g c =
    wants g.N.Exact.rational (limit_of g.N.Exact.WIDTH) c.args.measured.now (covers_value g.N.Exact.rational c.args.measured.now.net c.args.printed c.args.covers.items) (item_of g.N.Exact.rational c.args.item.now) c.from_residual-in_err-known.result stop.Memory c.from_residual-in_err-known.ensures.1 refl
