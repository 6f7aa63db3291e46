use Rattle.std.proofs.lemmas.Result.{IfOk-weaker}
use Rattle.npp_cli.specs.declared.answers.Answer.{Answer}
use Rattle.npp_cli.specs.Answer.{answer_text}
use Rattle.npp_cli.proofs.CauseLemmas.{demonstration_cause}
use Rattle.npp_cli.proofs.program.answer_to.Goals as goal

pub returns-in-Some-Demonstrate-clause-cause : goal.returns-in-Some-Demonstrate-clause-cause
returns-in-Some-Demonstrate-clause-cause g c =
    IfOk-weaker c.demonstrate.result _ _
    (λ (answer : Answer). demonstration_cause _ _ _ _ answer.status c.in-Some-Demonstrate.number c.in-Some-Demonstrate.budget (answer_text answer))
    c.demonstrate.ensures
