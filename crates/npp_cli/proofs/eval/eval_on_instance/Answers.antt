use Rattle.std.proofs.lemmas.Result.{IfOk-weaker}
use Rattle.npp_cli.specs.declared.answers.Answer.{Answer}
use Rattle.npp_cli.specs.Evaluated.{AnswersTolls}
use Rattle.npp_cli.specs.Answers.{tolls_limit}
use Rattle.npp_cli.specs.Answer.{answer_text}
use Rattle.npp_cli.proofs.CauseLemmas.{tolls_cause}
use Rattle.npp_cli.proofs.FileLemmas.{not_taken_answered, refusal_cause, taken_answered}
use Rattle.npp_cli.proofs.eval.eval_on_instance.Goals as goal

pub returns-in-Ok-clause-answer : goal.returns-in-Ok-clause-answer
returns-in-Ok-clause-answer g c =
    IfOk-weaker c.eval.result _ _
    (λ (answer : Answer). taken_answered (AnswersTolls c.args.instance.now) tolls_limit c.args.tolls.now answer.status (answer_text answer) (g.S.Shelf.held c.args.shelf.now)
    c.in-Ok.bytes c.in-Ok.ensures.bytes c.in-Ok.ensures.within)
    (rw c.deref.ensures.value at c.eval.ensures)

pub returns-in-Ok-clause-cause : goal.returns-in-Ok-clause-cause
returns-in-Ok-clause-cause g c =
    IfOk-weaker c.eval.result _ _
    (λ (answer : Answer). tolls_cause _ _ _ _ answer.status c.args.instance.now c.deref.result.now (answer_text answer))
    c.eval.ensures

pub returns-in-Err-clause-answer : goal.returns-in-Err-clause-answer
returns-in-Err-clause-answer g c =
    IfOk-weaker c.not_taken.result _ _
    (λ (answer : Answer). not_taken_answered (AnswersTolls c.args.instance.now) tolls_limit c.args.tolls.now answer.status (answer_text answer) (g.S.Shelf.held c.args.shelf.now)
    c.in-Err.refusal c.in-Err.ensures.bytes)
    c.not_taken.ensures

pub returns-in-Err-clause-cause : goal.returns-in-Err-clause-cause
returns-in-Err-clause-cause g c =
    IfOk-weaker c.not_taken.result _ _
    (λ (answer : Answer). refusal_cause _ _ _ _ c.args.tolls.now answer.status (answer_text answer) c.in-Err.refusal c.in-Err.ensures.cause)
    c.not_taken.ensures
