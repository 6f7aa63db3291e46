use Rattle.std.proofs.Common.{sym, subst, ◌+◌, Err, Some}
use Rattle.npp_frac.specs.Fits.{limit_of}
use Rattle.npp_tree.specs.Items.{item_of}
use Rattle.npp_check.specs.declared.stop.Stop.{Stop}
use Rattle.npp_check.specs.declared.stage.Stage.{Stage as CodeStage}
use Rattle.npp_check.specs.declared.refusal.CheckRefusal.{CheckRefusal}
use Rattle.npp_check.specs.Checking.{Checking, Takes, Refuses}
use Rattle.npp_check.specs.Stages.{Stage}
use Rattle.npp_check.specs.StageValue.{stage_value}
use Rattle.npp_check.specs.Steps.{Goes, Steps, refusal_at}
use Rattle.npp_check.proofs.StageOrder.{stage_ahead}
use Rattle.npp_check.proofs.CheckerLemmas.{standing, takes, refuses}
use Rattle.npp_check.proofs.checker.Checker.feed.Goals as goal
use Rattle.npp_check.proofs.checker.Checker.feed.Goals.{in-Ok-2, in-Err}

pub returns-in-Ok : goal.returns-in-Ok
returns-in-Ok g c =
    let next : Stage = stage_value g.N.Exact.rational c.self.inside.measured.net c.in-Ok.stage in
    let old : Stage = stage_value g.N.Exact.rational c.self.inside.measured.net c.self.inside.stage in
    let goes : Goes (limit_of g.N.Exact.WIDTH) c.self.inside.measured old (item_of g.N.Exact.rational c.args.item) next =
    subst (λ (s : CodeStage g.row.N.Denot). Goes (limit_of g.N.Exact.WIDTH) c.self.inside.measured (stage_value g.N.Exact.rational c.self.inside.measured.net s) (item_of g.N.Exact.rational c.args.item) next)
    c.replace-stage.ensures.value c.in-Ok.ensures.0 in
    subst (λ (x : Checking). Takes (limit_of g.N.Exact.WIDTH) x (item_of g.N.Exact.rational c.args.item) (standing c.self.inside.measured (c.self.inside.number + 1) next c.self.inside.refused)) c.self.view_is
    (takes (limit_of g.N.Exact.WIDTH) c.self.inside.measured c.self.inside.number old c.self.inside.refused (item_of g.N.Exact.rational c.args.item) c.in_default.is next goes
    (stage_ahead (limit_of g.N.Exact.WIDTH) c.self.inside.measured next c.in-Ok.ensures.1))

pub returns : goal.returns
returns g c =
    let old : Stage = stage_value g.N.Exact.rational c.self.inside.measured.net c.self.inside.stage in
    let other : Stage = stage_value g.N.Exact.rational c.self.inside.measured.net c.replace-stage.new.dest in
    let holds : Steps (limit_of g.N.Exact.WIDTH) c.self.inside.measured old (item_of g.N.Exact.rational c.args.item) (Err c.match-step.stop) =
    elim c.match-step.branch [
      | in-Ok-2 w ↦ subst (λ (s : Stop). Steps (limit_of g.N.Exact.WIDTH) c.self.inside.measured old (item_of g.N.Exact.rational c.args.item) (Err s)) (sym w.stop-is) tt
      | in-Err w ↦ subst (λ (s : Stop). Steps (limit_of g.N.Exact.WIDTH) c.self.inside.measured old (item_of g.N.Exact.rational c.args.item) (Err s)) (sym w.stop-is)
          (subst (λ (s : CodeStage g.row.N.Denot). Steps (limit_of g.N.Exact.WIDTH) c.self.inside.measured (stage_value g.N.Exact.rational c.self.inside.measured.net s) (item_of g.N.Exact.rational c.args.item) (Err w.in-Err.stop))
          c.replace-stage.ensures.value w.in-Err.ensures)
    ] in
    subst (λ (e : CheckRefusal). Refuses (limit_of g.N.Exact.WIDTH) c.args.self.now (item_of g.N.Exact.rational c.args.item) e (standing c.self.inside.measured c.self.inside.number other (Some e))) (sym c.refusal_at-refusal.ensures)
    (subst (λ (x : Checking). Refuses (limit_of g.N.Exact.WIDTH) x (item_of g.N.Exact.rational c.args.item) (refusal_at c.self.inside.number c.match-step.stop)
    (standing c.self.inside.measured c.self.inside.number other (Some (refusal_at c.self.inside.number c.match-step.stop)))) c.self.view_is
    (refuses (limit_of g.N.Exact.WIDTH) c.self.inside.measured c.self.inside.number old c.self.inside.refused (item_of g.N.Exact.rational c.args.item) c.in_default.is c.match-step.stop other holds))
