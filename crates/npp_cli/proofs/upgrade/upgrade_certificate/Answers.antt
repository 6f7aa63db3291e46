use Rattle.std.proofs.lemmas.Result.{IfOk-weaker}
use Rattle.npp_eval.proofs.EvalLaws.{all_have_free_paths}
use Rattle.npp_cli.specs.declared.answers.Answer.{Answer}
use Rattle.npp_cli.specs.declared.words.CertificateJob.TheVariants.{Upgrade}
use Rattle.npp_cli.specs.Answer.{answer_text}
use Rattle.npp_cli.specs.Answers.{AnswersCertificate, AnswersHeld}
use Rattle.npp_cli.proofs.JobLemmas.{connected_answers}
use Rattle.npp_cli.proofs.upgrade.upgrade_certificate.Goals as goal

pub upgrade_file-requires : goal.upgrade_file-requires
upgrade_file-requires g c = all_have_free_paths c.args.instance.now.arcs c.args.instance.now.commodities c.in-Ok._spans.items c.in-Ok.ensures.spans

pub returns-in-Ok-clause-answer : goal.returns-in-Ok-clause-answer
returns-in-Ok-clause-answer g c =
    let held = g.S.Shelf.held c.args.shelf.now in
    IfOk-weaker c.upgrade_file.result _ _
    (λ (answer : Answer). connected_answers (AnswersHeld (AnswersCertificate Upgrade c.args.instance.now c.args.certificate.now) held c.args.certificate.now) c.args.instance.now
    c.in-Ok._spans.items answer.status (answer_text answer) c.in-Ok.ensures.spans)
    c.upgrade_file.ensures.answer
