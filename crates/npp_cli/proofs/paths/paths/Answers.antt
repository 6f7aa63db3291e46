use Rattle.std.proofs.Common.{inr}
use Rattle.std.proofs.lemmas.Result.{IfOk-weaker}
use Rattle.npp_cli.specs.declared.answers.Answer.{Answer}
use Rattle.npp_cli.proofs.paths.paths.Goals as goal

pub returns-in-Err : goal.returns-in-Err
returns-in-Err c =
    IfOk-weaker c.over_limit.result _ _
    (λ (answer : Answer) answers. inr (record { refusal = c.in-Err.refusal; is_refusal = c.in-Err.ensures.refused; answers = answers }))
    c.over_limit.ensures
