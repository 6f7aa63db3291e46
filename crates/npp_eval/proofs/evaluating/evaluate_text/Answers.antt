use Rattle.std.proofs.Common.{◌∙◌, map, Err, ap, sym}
use Rattle.std.proofs.lemmas.Result.{IfOk-weaker, IfErr-weaker}
use Rattle.npp_frac.specs.Wide.{value_of_wide}
use Rattle.npp_toll_text.specs.declared.refusal.TollsRefusal.TheVariants.{Line}
use Rattle.npp_eval.proofs.EvalLaws.{allowed_tolls, text_is_refused}
use Rattle.npp_eval.proofs.evaluating.evaluate_text.Goals as goal

pub evaluate-requires : goal.evaluate-requires
evaluate-requires c = allowed_tolls c.args.instance.now c.args.bytes.now (map value_of_wide c.in-Ok.tolls) c.in-Ok.ensures.text

pub returns-in-Ok-clause-evaluated : goal.returns-in-Ok-clause-evaluated
returns-in-Ok-clause-evaluated c =
    IfOk-weaker c.evaluate.result _ _ (λ e is. record { tolls = map value_of_wide c.in-Ok.tolls; is_text = c.in-Ok.ensures.text; is_evaluated = is })
    c.evaluate.ensures.evaluated

pub returns-in-Ok-clause-refused : goal.returns-in-Ok-clause-refused
returns-in-Ok-clause-refused c =
    IfErr-weaker c.evaluate.result _ _ (text_is_refused c.args.instance.now c.args.bytes.now (map value_of_wide c.in-Ok.tolls) c.in-Ok.ensures.text)
    c.evaluate.ensures.refused

pub returns-in-Err-Line-clause-refused : goal.returns-in-Err-Line-clause-refused
returns-in-Err-Line-clause-refused c =
    c.in-Err-Line.ensures.refused _ (ap Err (c.in-Err-Line.field-0-is ∙ ap Line (sym c.in-Err-Line.line-is)))
