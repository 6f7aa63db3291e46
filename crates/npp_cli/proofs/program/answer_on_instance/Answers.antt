use Rattle.std.proofs.lemmas.Result.{IfOk-weaker}
use Rattle.npp_cli.specs.declared.answers.Answer.{Answer}
use Rattle.npp_cli.specs.Answer.{answer_text}
use Rattle.npp_cli.specs.Answers.{IsDone}
use Rattle.npp_cli.proofs.JobLemmas.{connected_answers}
use Rattle.npp_cli.proofs.program.answer_on_instance.Goals as goal

pub returns-in-Ok : goal.returns-in-Ok
returns-in-Ok c =
    IfOk-weaker c.done.result _ _
    (λ (answer : Answer). connected_answers (IsDone c.args.job c.args.instance) c.args.instance c.in-Ok.spans.items answer.status (answer_text answer) c.in-Ok.ensures.spans)
    c.done.ensures
