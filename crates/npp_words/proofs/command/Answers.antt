use Rattle.std.proofs.Common.{◌≡◌, ◌∙◌, ap, ap₂, rules, codes, Some, true, Option}
use Rattle.std.specs.Prelude.{pos}
use Rattle.std.proofs.lemmas.Result.{IfOk-weaker}
use Rattle.clap.specs.Words.{Rule, app_of, rule_of, new_app, new_rule, with_rule}
use Rattle.clap.specs.Simple.{app_of_fields, on_top}
use Rattle.clap.specs.declared.builder.value_parser.ValueParser.{ValueParser}
use Rattle.clap.specs.declared.builder.value_parser.ValueParser.TheVariants as parser
use Rattle.clap.specs.declared.builder.arg.Arg.{Arg}
use Rattle.npp_words.specs.Given.{required, budget, brief}
use Rattle.npp_words.proofs.command.Goals as goal

pub returns : goal.returns
returns c =
    let required_rule : Rule → Rule = λ r. record r { required = true } in
    let job_is : rule_of c.required-job.result ≡ required (codes "job") = ap rule_of c.required-job.ensures ∙ ap required_rule c.new.ensures.rule in
    let first_is : rule_of c.required-first.result ≡ required (codes "first") = ap rule_of c.required-first.ensures ∙ ap required_rule c.new-2.ensures.rule in
    let second_is : rule_of c.new-second.result ≡ new_rule (codes "second") = c.new-second.ensures.rule in
    let brief_is : rule_of c.action-brief.result ≡ brief = search rules in
    let long_is : rule_of c.long.result ≡ record (new_rule (codes "budget")) { long = Some (codes "budget") } =
    ap rule_of c.long.ensures ∙ ap (λ (r : Rule). record r { long = Some (codes "budget") }) c.new-3.ensures.rule in
    let given = c.value_parser-budget.ensures.given in
    let made : c.range.result ≡ parser.Signed (pos 0) (pos 100000) = rw c.value_parser.ensures at c.range.ensures in
    let taken : c.value_parser-budget.result.value_parser ≡ Some (parser.Signed (pos 0) (pos 100000)) = given.1 ∙ ap Some (given.2 ∙ made) in
    let budget_is : rule_of c.value_parser-budget.result ≡ budget =
    ap rule_of c.value_parser-budget.ensures.others ∙ ap rule_of (ap (λ (v : Option ValueParser). record c.long.result { value_parser = v }) taken)
    ∙ ap (λ (r : Rule). record r { parser = Some (parser.Signed (pos 0) (pos 100000)) }) long_is in
    let start_is : app_of c.disable_help_flag.result ≡ on_top (λ s. record s { disable_help_flag = true }) (new_app (codes "npp")) =
    ap app_of_fields c.disable_help_flag.ensures ∙ ap (on_top (λ s. record s { disable_help_flag = true })) c.new-5.ensures.app in
    let one = c.in_ok-arg.ensures.shape (ap (λ (a : Arg). a.global) c.required-job.ensures ∙ c.new.ensures.optional.1) ∙ ap₂ with_rule start_is job_is in
    let two = c.in_ok-arg-2.ensures.shape (ap (λ (a : Arg). a.global) c.required-first.ensures ∙ c.new-2.ensures.optional.1) ∙ ap₂ with_rule one first_is in
    let three = c.in_ok-arg-3.ensures.shape c.new-second.ensures.optional.1 ∙ ap₂ with_rule two second_is in
    let four = c.in_ok-arg-4.ensures.shape (search rules) ∙ ap₂ with_rule three budget_is in
    IfOk-weaker c.arg-5.result _ _ (λ r h. h.shape (search rules) ∙ ap₂ with_rule four brief_is) c.arg-5.ensures
