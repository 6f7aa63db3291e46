use Rattle.npp_words.specs.Given.{texts}
use Rattle.npp_cli.specs.Answer.{answer_text}
use Rattle.npp_cli.proofs.ClaimLemmas.{prints_about, prints_about_two, prints_demonstration, prints_done, prints_evaluation, prints_generated, prints_on_certificate, prints_usage, prints_verdict, usage_only}
use Rattle.npp_cli.proofs.RunLemmas.{answers_6, runs_whole}
use Rattle.npp_cli.proofs.program.run.Goals as goal

pub returns-in-Ok-write_output-clause-answer : goal.returns-in-Ok-write_output-clause-answer
returns-in-Ok-write_output-clause-answer g c =
    runs_whole (texts c.args.words.now) (g.S.Shelf.held c.args.shelf.now) _ _ c.in-Ok.answer.status (answer_text c.in-Ok.answer)
    c.in-Ok.ensures.answer c.in-Ok-write_output.ensures.written

pub returns-in-Ok-write_output-clause-sink : goal.returns-in-Ok-write_output-clause-sink
returns-in-Ok-write_output-clause-sink g c six =
    absurd (answers_6 (texts c.args.words.now) (g.S.Shelf.held c.args.shelf.now) c.in-Ok.answer.status (answer_text c.in-Ok.answer) c.in-Ok.ensures.answer six)

pub returns-in-Ok-write_output-clause-headline : goal.returns-in-Ok-write_output-clause-headline
returns-in-Ok-write_output-clause-headline g c =
    prints_done (texts c.args.words.now) (g.S.Shelf.held c.args.shelf.now) (g.O.Sink.written c.args.out.now) (g.O.Sink.written c.write_output.new.out)
    c.in-Ok.answer.status (returns-in-Ok-write_output-clause-answer g c)

pub returns-in-Ok-write_output-clause-evaluation : goal.returns-in-Ok-write_output-clause-evaluation
returns-in-Ok-write_output-clause-evaluation g c =
    prints_evaluation (texts c.args.words.now) (g.S.Shelf.held c.args.shelf.now) (g.O.Sink.written c.args.out.now) (g.O.Sink.written c.write_output.new.out)
    c.in-Ok.answer.status (returns-in-Ok-write_output-clause-answer g c)

pub returns-in-Ok-write_output-clause-certificate : goal.returns-in-Ok-write_output-clause-certificate
returns-in-Ok-write_output-clause-certificate g c =
    prints_verdict (texts c.args.words.now) (g.S.Shelf.held c.args.shelf.now) (g.O.Sink.written c.args.out.now) (g.O.Sink.written c.write_output.new.out)
    c.in-Ok.answer.status (returns-in-Ok-write_output-clause-answer g c)

pub returns-in-Ok-write_output-clause-on_certificate : goal.returns-in-Ok-write_output-clause-on_certificate
returns-in-Ok-write_output-clause-on_certificate g c =
    prints_on_certificate (texts c.args.words.now) (g.S.Shelf.held c.args.shelf.now) (g.O.Sink.written c.args.out.now) (g.O.Sink.written c.write_output.new.out)
    c.in-Ok.answer.status (returns-in-Ok-write_output-clause-answer g c)

pub returns-in-Ok-write_output-clause-on_two_files : goal.returns-in-Ok-write_output-clause-on_two_files
returns-in-Ok-write_output-clause-on_two_files g c =
    prints_about_two (texts c.args.words.now) (g.S.Shelf.held c.args.shelf.now) (g.O.Sink.written c.args.out.now) (g.O.Sink.written c.write_output.new.out)
    c.in-Ok.answer.status (returns-in-Ok-write_output-clause-answer g c)

pub returns-in-Ok-write_output-clause-on_file : goal.returns-in-Ok-write_output-clause-on_file
returns-in-Ok-write_output-clause-on_file g c =
    prints_about (texts c.args.words.now) (g.S.Shelf.held c.args.shelf.now) (g.O.Sink.written c.args.out.now) (g.O.Sink.written c.write_output.new.out)
    c.in-Ok.answer.status (returns-in-Ok-write_output-clause-answer g c)

pub returns-in-Ok-write_output-clause-generated : goal.returns-in-Ok-write_output-clause-generated
returns-in-Ok-write_output-clause-generated g c =
    prints_generated (texts c.args.words.now) (g.S.Shelf.held c.args.shelf.now) (g.O.Sink.written c.args.out.now) (g.O.Sink.written c.write_output.new.out)
    c.in-Ok.answer.status (returns-in-Ok-write_output-clause-answer g c)

pub returns-in-Ok-write_output-clause-usage : goal.returns-in-Ok-write_output-clause-usage
returns-in-Ok-write_output-clause-usage g c =
    prints_usage (texts c.args.words.now) (g.S.Shelf.held c.args.shelf.now) (g.O.Sink.written c.args.out.now) (g.O.Sink.written c.write_output.new.out)
    c.in-Ok.answer.status (returns-in-Ok-write_output-clause-answer g c)

pub returns-in-Ok-write_output-clause-usage_only : goal.returns-in-Ok-write_output-clause-usage_only
returns-in-Ok-write_output-clause-usage_only g c =
    usage_only (texts c.args.words.now) (g.S.Shelf.held c.args.shelf.now) (g.O.Sink.written c.args.out.now) (g.O.Sink.written c.write_output.new.out)
    c.in-Ok.answer.status (returns-in-Ok-write_output-clause-answer g c)

pub returns-in-Ok-write_output-clause-demonstration : goal.returns-in-Ok-write_output-clause-demonstration
returns-in-Ok-write_output-clause-demonstration g c =
    prints_demonstration (texts c.args.words.now) (g.S.Shelf.held c.args.shelf.now) (g.O.Sink.written c.args.out.now) (g.O.Sink.written c.write_output.new.out)
    c.in-Ok.answer.status (returns-in-Ok-write_output-clause-answer g c)
