use Rattle.std.proofs.Common.{◌≡◌, ◌∙◌, ◌+◌, ◌-◌, map, length, Err, sym, ap, subst, arith}
use Rattle.npp_frac.specs.Fits.{limit_of}
use Rattle.npp_short.specs.Reach.{cost_at}
use Rattle.npp_tree.specs.declared.item.Item.TheVariants as item
use Rattle.npp_tree.specs.Outcome.{path_line_value}
use Rattle.npp_tree.specs.Items.{item_of}
use Rattle.npp_check.specs.declared.stop.Stop.{Stop}
use Rattle.npp_check.specs.Stages.{AtLabels}
use Rattle.npp_check.specs.StageValue.{head_value}
use Rattle.npp_check.specs.Steps.{Steps}
use Rattle.npp_check.specs.declared.refusal.Rule.TheVariants as rule
use Rattle.npp_check.proofs.CoverStepLemmas.{free_breaks, not_free}
use Rattle.npp_check.proofs.LabelStepLemmas.{draft_good, table_good, free_stops, too_many, free_takes}
use Rattle.std.proofs.Common.{◌<◌, ◌≤◌, ◌∷◌, ◌++◌, [], Ok}
use Rattle.std.proofs.lemmas.List.{length-append, length-map}
use Rattle.npp_frac.specs.Rational.{Rational}
use Rattle.npp_cover.specs.PathValue.{path_value}
use Rattle.npp_rows.specs.Limits.{path_total}
use Rattle.npp_tree.specs.declared.item.Item.{Item}
use Rattle.npp_check.specs.declared.stop.Stop.TheVariants as stop
use Rattle.npp_check.specs.StageValue.{covers_value}
use Rattle.npp_check.proofs.cover_steps.free_step.Goals as goal

pub returns-in_default : goal.returns-in_default
returns-in_default g c =
    free_breaks (limit_of g.N.Exact.WIDTH) c.args.measured.now (head_value g.N.Exact.rational c.args.printed.value.head) (map g.N.Exact.rational c.args.printed.value.tolls.items) (map (path_line_value g.N.Exact.rational) c.args.printed.value.paths.items) (length c.args.measured.now.net.commodities - (length c.args.cover.covers.items + 1)) c.args.cover.covers.items c.args.cover.left c.args.cover.draft (item_of g.N.Exact.rational c.args.item) c.requires.all rule.Order
    (not_free c.args.measured.now.net c.args.measured.now.measures c.args.cover.covers.items c.args.cover.draft.labels g.N.Exact.rational c.args.item c.in_default.not-Free)

pub close-requires-clause-draft : goal.close-requires-clause-draft
close-requires-clause-draft g c = draft_good c.args.measured.now (map g.N.Exact.rational c.args.printed.value.tolls.items) (map (path_line_value g.N.Exact.rational) c.args.printed.value.paths.items) (length c.args.measured.now.net.commodities - (length c.args.cover.covers.items + 1)) c.args.cover.covers.items c.args.cover.left c.args.cover.draft c.requires.stage c.instance-instance.result.now c.instance-instance.ensures.instance c.len.result (c.len.ensures ∙ c.args.cover.covers.ok.0)

pub close-requires-clause-potentials : goal.close-requires-clause-potentials
close-requires-clause-potentials g c = table_good c.args.measured.now (map g.N.Exact.rational c.args.printed.value.tolls.items) (map (path_line_value g.N.Exact.rational) c.args.printed.value.paths.items) (length c.args.measured.now.net.commodities - (length c.args.cover.covers.items + 1)) c.args.cover.covers.items c.args.cover.left c.args.cover.draft c.requires.stage c.instance-instance.result.now c.instance-instance.ensures.instance c.len.result (c.len.ensures ∙ c.args.cover.covers.ok.0) c.potentials-potentials.result.now c.potentials-potentials.ensures.distances

pub count_paths-requires : goal.count_paths-requires
count_paths-requires g c = rw c.deref.ensures.value c.requires.stage.covers.few

pub returns-in-Err : goal.returns-in-Err
returns-in-Err g c =
    subst (λ (i : Item Rational). Steps (limit_of g.N.Exact.WIDTH) c.args.measured.now (AtLabels (head_value g.N.Exact.rational c.args.printed.value.head) (map g.N.Exact.rational c.args.printed.value.tolls.items) (map (path_line_value g.N.Exact.rational) c.args.printed.value.paths.items) (length c.args.measured.now.net.commodities - (length c.args.cover.covers.items + 1)) c.args.cover.covers.items c.args.cover.left c.args.cover.draft) i (Err c.stop_of_fault.result)) (ap item.Free c.into_entries.ensures ∙ ap (item_of g.N.Exact.rational) (sym c.in-Free.is))
    (subst (λ (s : Stop). Steps (limit_of g.N.Exact.WIDTH) c.args.measured.now (AtLabels (head_value g.N.Exact.rational c.args.printed.value.head) (map g.N.Exact.rational c.args.printed.value.tolls.items) (map (path_line_value g.N.Exact.rational) c.args.printed.value.paths.items) (length c.args.measured.now.net.commodities - (length c.args.cover.covers.items + 1)) c.args.cover.covers.items c.args.cover.left c.args.cover.draft) (item.Free c.into_entries.result.items) (Err s)) (sym c.stop_of_fault.ensures)
    (free_stops (limit_of g.N.Exact.WIDTH) c.args.measured.now (head_value g.N.Exact.rational c.args.printed.value.head) (map g.N.Exact.rational c.args.printed.value.tolls.items) (map (path_line_value g.N.Exact.rational) c.args.printed.value.paths.items) (length c.args.measured.now.net.commodities - (length c.args.cover.covers.items + 1)) c.args.cover.covers.items c.args.cover.left c.args.cover.draft c.requires.stage c.instance-instance.result.now c.instance-instance.ensures.instance c.len.result (c.len.ensures ∙ c.args.cover.covers.ok.0) (cost_at c.potentials-potentials.result.now) c.potentials-potentials.ensures.costs c.requires.all c.into_entries.result.items c.in-Err.fault c.in-Err.ensures.fault))

pub returns-then-count_paths-paths-gt2000 : goal.returns-then-count_paths-paths-gt2000
returns-then-count_paths-paths-gt2000 g c =
    let many : 2000 < path_total c.args.cover.covers.items + length c.in-Ok.closed.paths = omega (arith, c.if-count_paths-paths-gt2000.true, c.count_paths.ensures, ap path_total c.deref.ensures.value, ap length c.paths.ensures, length-map c.paths.result.now path_value) in
    subst (λ (i : Item Rational). Steps (limit_of g.N.Exact.WIDTH) c.args.measured.now (AtLabels (head_value g.N.Exact.rational c.args.printed.value.head) (map g.N.Exact.rational c.args.printed.value.tolls.items) (map (path_line_value g.N.Exact.rational) c.args.printed.value.paths.items) (length c.args.measured.now.net.commodities - (length c.args.cover.covers.items + 1)) c.args.cover.covers.items c.args.cover.left c.args.cover.draft) i (Err (stop.Broken rule.TooManyPaths))) (ap item.Free c.into_entries.ensures ∙ ap (item_of g.N.Exact.rational) (sym c.in-Free.is))
    (too_many (limit_of g.N.Exact.WIDTH) c.args.measured.now (head_value g.N.Exact.rational c.args.printed.value.head) (map g.N.Exact.rational c.args.printed.value.tolls.items) (map (path_line_value g.N.Exact.rational) c.args.printed.value.paths.items) (length c.args.measured.now.net.commodities - (length c.args.cover.covers.items + 1)) c.args.cover.covers.items c.args.cover.left c.args.cover.draft c.requires.stage c.instance-instance.result.now c.instance-instance.ensures.instance c.len.result (c.len.ensures ∙ c.args.cover.covers.ok.0) (cost_at c.potentials-potentials.result.now) c.potentials-potentials.ensures.costs c.requires.all c.into_entries.result.items c.in-Ok.closed c.in-Ok.ensures.fault c.in-Ok.ensures.labels c.in-Ok.ensures.paths c.in-Ok.ensures.cover many)

pub returns : goal.returns
returns g c =
    let few : path_total c.args.cover.covers.items + length c.in-Ok.closed.paths ≤ 2000 = omega (arith, c.if-count_paths-paths-gt2000.false, c.count_paths.ensures, ap path_total c.deref.ensures.value, ap length c.paths.ensures, length-map c.paths.result.now path_value) in
    let put : c.push.new.self.items ≡ c.args.cover.covers.items ++ c.in-Ok.closed ∷ [] = c.in_ok-push.ensures.items in
    let same : length c.args.measured.now.net.commodities - length c.push.new.self.items ≡ (length c.args.measured.now.net.commodities - (length c.args.cover.covers.items + 1)) = omega (arith, ap length put, length-append c.args.cover.covers.items (c.in-Ok.closed ∷ [])) in
    subst (λ (i : Item Rational). Steps (limit_of g.N.Exact.WIDTH) c.args.measured.now (AtLabels (head_value g.N.Exact.rational c.args.printed.value.head) (map g.N.Exact.rational c.args.printed.value.tolls.items) (map (path_line_value g.N.Exact.rational) c.args.printed.value.paths.items) (length c.args.measured.now.net.commodities - (length c.args.cover.covers.items + 1)) c.args.cover.covers.items c.args.cover.left c.args.cover.draft) i (Ok (covers_value g.N.Exact.rational c.args.measured.now.net c.args.printed.value c.push.new.self.items))) (ap item.Free c.into_entries.ensures ∙ ap (item_of g.N.Exact.rational) (sym c.in-Free.is))
    (free_takes (limit_of g.N.Exact.WIDTH) c.args.measured.now (head_value g.N.Exact.rational c.args.printed.value.head) (map g.N.Exact.rational c.args.printed.value.tolls.items) (map (path_line_value g.N.Exact.rational) c.args.printed.value.paths.items) (length c.args.measured.now.net.commodities - (length c.args.cover.covers.items + 1)) c.args.cover.covers.items c.args.cover.left c.args.cover.draft c.requires.stage c.instance-instance.result.now c.instance-instance.ensures.instance c.len.result (c.len.ensures ∙ c.args.cover.covers.ok.0) (cost_at c.potentials-potentials.result.now) c.potentials-potentials.ensures.costs c.requires.all c.into_entries.result.items c.in-Ok.closed c.in-Ok.ensures.fault c.in-Ok.ensures.labels c.in-Ok.ensures.paths c.in-Ok.ensures.cover few
    (length c.args.measured.now.net.commodities - length c.push.new.self.items) c.push.new.self.items put same c.instance-instance.ensures.measures)
