use Rattle.std.proofs.lemmas.Result.{IfOk-weaker}
use Rattle.npp_cli.specs.declared.answers.Answer.{Answer}
use Rattle.npp_cli.specs.declared.words.CertificateJob.TheVariants.{Upgrade}
use Rattle.npp_cli.specs.Answer.{answer_text}
use Rattle.npp_cli.specs.Checked.{IsJudged, upgrade_limit}
use Rattle.npp_cli.proofs.CauseLemmas.{judged_cause}
use Rattle.npp_cli.proofs.FileLemmas.{not_taken_answered, refusal_cause, taken_answered}
use Rattle.npp_cli.proofs.upgrade.upgrade_file.Goals as goal

pub returns-in-Ok-clause-answer : goal.returns-in-Ok-clause-answer
returns-in-Ok-clause-answer g c =
    IfOk-weaker c.upgraded.result _ _
    (λ (answer : Answer). taken_answered (IsJudged Upgrade c.args.instance.now) upgrade_limit c.args.certificate.now answer.status (answer_text answer) (g.S.Shelf.held c.args.shelf.now)
    c.in-Ok.bytes c.in-Ok.ensures.bytes c.in-Ok.ensures.within)
    (rw c.deref.ensures.value at c.upgraded.ensures)

pub returns-in-Ok-clause-cause : goal.returns-in-Ok-clause-cause
returns-in-Ok-clause-cause g c =
    IfOk-weaker c.upgraded.result _ _
    (λ (answer : Answer). judged_cause _ _ _ _ answer.status Upgrade c.args.instance.now c.deref.result.now (answer_text answer))
    c.upgraded.ensures

pub returns-in-Err-clause-answer : goal.returns-in-Err-clause-answer
returns-in-Err-clause-answer g c =
    IfOk-weaker c.not_taken.result _ _
    (λ (answer : Answer). not_taken_answered (IsJudged Upgrade c.args.instance.now) upgrade_limit c.args.certificate.now answer.status (answer_text answer) (g.S.Shelf.held c.args.shelf.now)
    c.in-Err.refusal c.in-Err.ensures.bytes)
    c.not_taken.ensures

pub returns-in-Err-clause-cause : goal.returns-in-Err-clause-cause
returns-in-Err-clause-cause g c =
    IfOk-weaker c.not_taken.result _ _
    (λ (answer : Answer). refusal_cause _ _ _ _ c.args.certificate.now answer.status (answer_text answer) c.in-Err.refusal c.in-Err.ensures.cause)
    c.not_taken.ensures
