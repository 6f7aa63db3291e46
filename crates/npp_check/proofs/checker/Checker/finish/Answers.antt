use Rattle.std.proofs.Common.{ap, sym, subst, ◌∙◌, [], Option, Ok, refl}
use Rattle.npp_frac.specs.Fits.{limit_of}
use Rattle.npp_net.specs.Network.{IsNetwork}
use Rattle.npp_check.specs.declared.refusal.Rule.TheVariants.{Order}
use Rattle.npp_check.specs.declared.refusal.CheckRefusal.{CheckRefusal}
use Rattle.npp_check.specs.declared.refusal.CheckRefusal.TheVariants.{Broken}
use Rattle.npp_check.specs.Checking.{Checking, verdict_with, IsEndRefusal}
use Rattle.npp_check.specs.Stages.{Stage}
use Rattle.npp_check.specs.StageValue.{pair_of, stage_value}
use Rattle.npp_check.proofs.CheckerLemmas.{standing, finishes, finishes_well}
use Rattle.npp_check.proofs.YesLemmas.{end_is_right}
use Rattle.npp_check.specs.Verdict.{pair_value}
use Rattle.npp_check.specs.declared.descent.Descent.{Descent}
use Rattle.npp_check.proofs.checker.Checker.finish.Goals as goal

pub returns-clause-verdict : goal.returns-clause-verdict
returns-clause-verdict g c =
    ap (λ (x : Checking). verdict_with (limit_of g.N.Exact.WIDTH) x []) (sym c.self.view_is)
    ∙ finishes g.N.Exact.rational (limit_of g.N.Exact.WIDTH) c.self.inside.measured c.self.inside.number c.self.inside.stage c.self.inside.refused c.in_default.is c.self.invariant c.in_default-stage.not-Behind

pub returns-clause-cause : goal.returns-clause-cause
returns-clause-cause g c =
    let stage : Stage = stage_value g.N.Exact.rational c.self.inside.measured.net c.self.inside.stage in
    subst (λ (x : Checking). IsEndRefusal x.refused x (Broken c.self.inside.number Order)) c.self.view_is
    (subst (λ (o : Option CheckRefusal). IsEndRefusal o (standing c.self.inside.measured c.self.inside.number stage c.self.inside.refused) (Broken c.self.inside.number Order)) (sym c.in_default.is) refl)

pub returns-in-Behind-clause-verdict : goal.returns-in-Behind-clause-verdict
returns-in-Behind-clause-verdict g c =
    ap (λ (x : Checking). verdict_with (limit_of g.N.Exact.WIDTH) x []) (sym c.self.view_is)
    ∙ finishes_well g.N.Exact.rational (limit_of g.N.Exact.WIDTH) c.self.inside.measured c.self.inside.number c.self.inside.stage c.self.inside.refused c.in-Behind.tree c.in_default.is c.in-Behind.is
    ∙ ap Ok (sym (c.pair_of.ensures ∙ ap (λ (d : Descent g.row.N.Denot). pair_of g.N.Exact.rational d.known.head) c.deref.ensures))

pub returns-in-Behind-clause-proves : goal.returns-in-Behind-clause-proves
returns-in-Behind-clause-proves g c = λ items taken.
    end_is_right (limit_of g.N.Exact.WIDTH) c.args.self items (pair_value c.pair_of.result) (subst (λ (x : Checking). IsNetwork x.on.net) c.self.view_is c.instance-net.ensures.limits) taken
    (returns-in-Behind-clause-verdict g c)
