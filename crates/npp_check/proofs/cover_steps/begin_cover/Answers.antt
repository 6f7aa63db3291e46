use Rattle.std.proofs.Common.{◌∙◌, ℕ, map, length, Ok, sym, ap, subst, refl, arith}
use Rattle.npp_frac.specs.Fits.{limit_of}
use Rattle.npp_tree.specs.Items.{item_of}
use Rattle.npp_tree.specs.Outcome.{path_line_value}
use Rattle.npp_check.specs.CoverLines.{cover_line}
use Rattle.npp_check.specs.StageValue.{head_value, covers_value, labels_value}
use Rattle.npp_check.specs.declared.known.OpenCover.{OpenCover}
use Rattle.npp_check.specs.declared.stop.Stop.TheVariants as stop
use Rattle.npp_check.specs.Steps.{Steps}
use Rattle.npp_check.proofs.NodeStepLemmas.{wants}
use Rattle.npp_check.proofs.StepLemmas.{refused_so}
use Rattle.npp_check.proofs.CoverLemmas.{count_says}
use Rattle.npp_check.proofs.CoverStepLemmas.{cover_goes, cover_breaks}
use Rattle.npp_check.proofs.LabelStepLemmas.{labels_begin}
use Rattle.npp_check.proofs.cover_steps.begin_cover.Goals as goal

pub returns-in_err-left : goal.returns-in_err-left
returns-in_err-left g c =
    refused_so g.N.Exact.rational (limit_of g.N.Exact.WIDTH) c.args.measured.now (covers_value g.N.Exact.rational c.args.measured.now.net c.args.printed.value c.args.covers.items) (item_of g.N.Exact.rational c.args.item.now) c.in_err-left.field-0.0 c.from_residual.result c.from_residual.ensures.1
    (cover_breaks (limit_of g.N.Exact.WIDTH) c.args.measured.now (head_value g.N.Exact.rational c.args.printed.value.head) (map g.N.Exact.rational c.args.printed.value.tolls.items) (map (path_line_value g.N.Exact.rational) c.args.printed.value.paths.items) c.args.covers.items (item_of g.N.Exact.rational c.args.item.now) c.requires.more c.in_err-left.field-0.0
    (c.in_err-left.ensures ∙ ap (λ (k : ℕ). cover_line k (item_of g.N.Exact.rational c.args.item.now)) (c.len-k.ensures ∙ c.args.covers.ok.0)))

pub returns : goal.returns
returns g c =
    let judged = c.in_ok-left.ensures ∙ ap (λ (k : ℕ). cover_line k (item_of g.N.Exact.rational c.args.item.now)) (c.len-k.ensures ∙ c.args.covers.ok.0) in
    subst (λ (o : OpenCover). Steps (limit_of g.N.Exact.WIDTH) c.args.measured.now (covers_value g.N.Exact.rational c.args.measured.now.net c.args.printed.value c.args.covers.items) (item_of g.N.Exact.rational c.args.item.now) (Ok (labels_value g.N.Exact.rational c.args.measured.now.net c.args.printed.value o))) (sym c.in_ok-cover.ensures.ok) (
      cover_goes (limit_of g.N.Exact.WIDTH) c.args.measured.now (head_value g.N.Exact.rational c.args.printed.value.head) (map g.N.Exact.rational c.args.printed.value.tolls.items) (map (path_line_value g.N.Exact.rational) c.args.printed.value.paths.items) c.args.covers.items (item_of g.N.Exact.rational c.args.item.now) c.requires.more c.in_ok-left.left c.new-draft.result judged (ap (λ x. x.labels) c.new-draft.ensures.new),
      labels_begin c.args.measured.now (map g.N.Exact.rational c.args.printed.value.tolls.items) (map (path_line_value g.N.Exact.rational) c.args.printed.value.paths.items) c.args.covers.items c.in_ok-left.left c.new-draft.result c.requires.stage c.requires.more (count_says (length c.args.covers.items) (item_of g.N.Exact.rational c.args.item.now) c.in_ok-left.left (sym judged))
          c.len-k.result (c.len-k.ensures ∙ c.args.covers.ok.0) c.span.result c.span.ensures.value c.new-draft.ensures.new
          (c.new-draft.ensures.draft c.args.measured.now.net (omega (arith, c.requires.more, (c.len-k.ensures ∙ c.args.covers.ok.0))) c.span.ensures.span),
    )

pub returns-in_err-cover : goal.returns-in_err-cover
returns-in_err-cover g c =
    wants g.N.Exact.rational (limit_of g.N.Exact.WIDTH) c.args.measured.now (covers_value g.N.Exact.rational c.args.measured.now.net c.args.printed.value c.args.covers.items) (item_of g.N.Exact.rational c.args.item.now) c.from_residual-in_err-cover.result stop.Memory c.from_residual-in_err-cover.ensures.1 refl
