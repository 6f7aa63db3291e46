use Rattle.std.proofs.Common.{◌≡◌, ◌<◌, ap, ◌∙◌, ◌-◌, ℕ, List, map, length, arith}
use Rattle.npp_frac.specs.Rational.{Rational}
use Rattle.npp_net.specs.Network.{Network}
use Rattle.npp_tree.specs.declared.item.Item.{Item}
use Rattle.npp_tree.specs.Outcome.{path_line_value}
use Rattle.npp_tree.specs.declared.outcome.PathLine.{PathLine}
use Rattle.npp_check.specs.PathLines.{path_line}
use Rattle.npp_check.specs.Stages.{Case, Stage, AtPaths}
use Rattle.npp_frac.specs.Fits.{limit_of}
use Rattle.npp_tree.specs.Items.{item_of}
use Rattle.npp_check.specs.StageValue.{head_value}
use Rattle.npp_check.proofs.StepLemmas.{refused_so, stage_or_memory, path_goes, path_breaks}
use Rattle.npp_check.proofs.line_steps.path_step.Goals as goal

named : (limit : ℕ) (i : Item Rational) {m n : Network} {x y : List Rational} {j k : ℕ} → m ≡ n → x ≡ y → j ≡ k → path_line limit m x j i ≡ path_line limit n y k i
named limit i d f e = λ t. path_line limit (d t) (f t) (e t) i

below : {X : Type 0} (c : Case) (paths : List X) → 0 < length c.net.commodities - length paths → length paths < length c.net.commodities
below c paths some = omega (arith, some)

pub returns-in_err-path : goal.returns-in_err-path
returns-in_err-path g c =
    refused_so g.N.Exact.rational (limit_of g.N.Exact.WIDTH) c.args.measured.now (AtPaths (head_value g.N.Exact.rational c.args.head.value) (map g.N.Exact.rational c.args.tolls.items) (length c.args.measured.now.net.commodities - length c.args.paths.items) (map (path_line_value g.N.Exact.rational) c.args.paths.items)) (item_of g.N.Exact.rational c.args.item) c.in_err-path.field-0.0 c.from_residual.result c.from_residual.ensures.1
    (path_breaks g.N.Exact.rational (limit_of g.N.Exact.WIDTH) c.args.measured.now (head_value g.N.Exact.rational c.args.head.value) (map g.N.Exact.rational c.args.tolls.items) c.args.paths.items (item_of g.N.Exact.rational c.args.item) (below c.args.measured.now c.args.paths.items c.requires.stage.part.some) c.in_err-path.field-0.0 (c.in_err-path.ensures.said ∙ named (limit_of g.N.Exact.WIDTH) (item_of g.N.Exact.rational c.args.item) c.instance-instance.ensures.instance (ap (map g.N.Exact.rational) c.deref.ensures.value) (c.len.ensures ∙ c.args.paths.ok.0)))

pub returns : goal.returns
returns g c =
    let at : List (PathLine g.row.N.Denot) → Stage =
    λ paths. AtPaths (head_value g.N.Exact.rational c.args.head.value) (map g.N.Exact.rational c.args.tolls.items) (length c.args.measured.now.net.commodities - length paths) (map (path_line_value g.N.Exact.rational) paths) in
    stage_or_memory g.N.Exact.rational (limit_of g.N.Exact.WIDTH) c.args.measured.now (at c.args.paths.items) (at c.push.new.self.items) (item_of g.N.Exact.rational c.args.item) c.paths_stage.result c.paths_stage.ensures.stage c.paths_stage.ensures.stop
    (λ s stands. path_goes g.N.Exact.rational (limit_of g.N.Exact.WIDTH) c.args.measured.now (head_value g.N.Exact.rational c.args.head.value) (map g.N.Exact.rational c.args.tolls.items) c.args.paths.items (item_of g.N.Exact.rational c.args.item) (below c.args.measured.now c.args.paths.items c.requires.stage.part.some)
    c.push.new.self.items c.in_ok-path.path s c.in_ok-push.ensures.items (c.in_ok-path.ensures.said ∙ named (limit_of g.N.Exact.WIDTH) (item_of g.N.Exact.rational c.args.item) c.instance-instance.ensures.instance (ap (map g.N.Exact.rational) c.deref.ensures.value) (c.len.ensures ∙ c.args.paths.ok.0)) stands)
