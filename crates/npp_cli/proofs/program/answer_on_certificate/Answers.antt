use Rattle.std.proofs.lemmas.Result.{IfOk-weaker}
use Rattle.npp_cli.specs.declared.answers.Answer.{Answer}
use Rattle.npp_cli.specs.Answers.{AnswersWithCertificate, instance_limit}
use Rattle.npp_cli.specs.Answer.{answer_text}
use Rattle.npp_cli.proofs.FileLemmas.{later_cause, not_taken_answered, refusal_cause, taken_answered}
use Rattle.npp_cli.proofs.program.answer_on_certificate.Goals as goal

pub returns-in-Ok-clause-answer : goal.returns-in-Ok-clause-answer
returns-in-Ok-clause-answer g c =
    IfOk-weaker c.certificate_on_bytes.result _ _
    (λ (answer : Answer). taken_answered (AnswersWithCertificate c.args.job (g.S.Shelf.held c.args.shelf.now) c.args.certificate.now) instance_limit c.args.file.now answer.status (answer_text answer)
    (g.S.Shelf.held c.args.shelf.now) c.in-Ok.bytes c.in-Ok.ensures.bytes c.in-Ok.ensures.within)
    (rw (c.deref.ensures.value, c.in-Ok.ensures.held) at c.certificate_on_bytes.ensures.answer)

pub returns-in-Ok-clause-cause : goal.returns-in-Ok-clause-cause
returns-in-Ok-clause-cause g c =
    IfOk-weaker c.certificate_on_bytes.result _ _
    (λ (answer : Answer). later_cause _ _ _ _ _ _ answer.status c.in-Ok.ensures.cause.faults_stay c.in-Ok.ensures.cause.misses_stay)
    c.certificate_on_bytes.ensures.cause

pub returns-in-Err-clause-answer : goal.returns-in-Err-clause-answer
returns-in-Err-clause-answer g c =
    IfOk-weaker c.not_taken.result _ _
    (λ (answer : Answer). not_taken_answered (AnswersWithCertificate c.args.job (g.S.Shelf.held c.args.shelf.now) c.args.certificate.now) instance_limit c.args.file.now answer.status (answer_text answer)
    (g.S.Shelf.held c.args.shelf.now) c.in-Err.refusal c.in-Err.ensures.bytes)
    c.not_taken.ensures

pub returns-in-Err-clause-cause : goal.returns-in-Err-clause-cause
returns-in-Err-clause-cause g c =
    IfOk-weaker c.not_taken.result _ _
    (λ (answer : Answer). refusal_cause _ _ _ _ c.args.file.now answer.status (answer_text answer) c.in-Err.refusal c.in-Err.ensures.cause)
    c.not_taken.ensures
