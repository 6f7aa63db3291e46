use Rattle.std.proofs.Common.{inl, inr}
use Rattle.std.proofs.lemmas.Result.{IfOk-weaker}
use Rattle.npp_frac.specs.Wide.{value_of_wide}
use Rattle.npp_eval.specs.Evaluated.{evaluation_value}
use Rattle.npp_cli.specs.declared.answers.Answer.{Answer}
use Rattle.npp_cli.proofs.eval.eval.Goals as goal

pub returns-in-Ok : goal.returns-in-Ok
returns-in-Ok c =
    IfOk-weaker c.replied.result _ _
    (λ (answer : Answer) is. inl (record {
      value = evaluation_value value_of_wide c.in-Ok.evaluation;
      is_evaluated = c.in-Ok.ensures.evaluated;
      is_text = is.has_text;
      is_status = is.has_status;
    }))
    c.replied.ensures

pub returns-in-Err : goal.returns-in-Err
returns-in-Err c =
    IfOk-weaker c.not_replied.result _ _
    (λ (answer : Answer) answers. inr (record { refusal = c.in-Err.refusal; is_refusal = c.in-Err.ensures.refused; answers = answers }))
    c.not_replied.ensures
