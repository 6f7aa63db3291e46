use Rattle.std.proofs.lemmas.Result.{IfOk-weaker}
use Rattle.npp_cli.specs.declared.answers.Answer.{Answer}
use Rattle.npp_cli.specs.Answer.{answer_text}
use Rattle.npp_cli.proofs.CheckLemmas.{accepted_judged, done_cause, file_cause, refused_judged}
use Rattle.npp_cli.proofs.check.check.Goals as goal

pub returns-in-Ok-clause-answer : goal.returns-in-Ok-clause-answer
returns-in-Ok-clause-answer g c =
    IfOk-weaker c.accepted.result _ _
    (λ (answer : Answer) is. accepted_judged c.args.instance.now c.args.certificate.now answer.status (answer_text answer) (g.S.Shelf.held c.args.shelf.now)
    c.in-Ok.pair c.in-Ok.ensures.answer c.in-Ok.ensures.measured is.has_status is.has_text)
    c.accepted.ensures

pub returns-in-Err-clause-answer : goal.returns-in-Err-clause-answer
returns-in-Err-clause-answer g c =
    IfOk-weaker c.not_accepted.result _ _
    (λ (answer : Answer). refused_judged c.args.instance.now c.args.certificate.now answer.status (answer_text answer) (g.S.Shelf.held c.args.shelf.now)
    c.in-Err.refusal c.in-Err.ensures.answer c.in-Err.ensures.measured)
    c.not_accepted.ensures

pub returns-in-Err-clause-cause : goal.returns-in-Err-clause-cause
returns-in-Err-clause-cause g c =
    IfOk-weaker c.not_accepted.result _ _
    (λ (answer : Answer). file_cause _ _ _ _ c.args.certificate.now answer.status (answer_text answer) c.in-Err.refusal c.in-Err.ensures.cause)
    c.not_accepted.ensures

pub returns-in-Ok-clause-cause : goal.returns-in-Ok-clause-cause
returns-in-Ok-clause-cause g c =
    IfOk-weaker c.accepted.result _ _
    (λ (answer : Answer) is. done_cause _ _ _ _ answer.status is.has_status)
    c.accepted.ensures
