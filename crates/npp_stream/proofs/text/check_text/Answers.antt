use Rattle.std.proofs.Common.{[]}
use Rattle.npp_check.specs.Verdict.{pair_value}
use Rattle.npp_stream.specs.TextVerdicts.{IsAcceptedText}
use Rattle.npp_stream.specs.Stream.{HasBytes}
use Rattle.npp_stream.proofs.PieceLemmas.{accepted_verdict, text_refused, whole_text_refused}
use Rattle.npp_stream.proofs.text.check_text.Goals as goal

pub returns-in_err-take-clause-refused : goal.returns-in_err-take-clause-refused
returns-in_err-take-clause-refused c =
    text_refused c.args.instance.now c.args.bytes.now c.in_err-take.field-0.0 c.from_residual-in_err-take.result c.from_residual-in_err-take.ensures.1
    (whole_text_refused c.args.instance.now c.args.bytes.now c.in_ok-check.check c.take.new.self c.in_err-take.field-0.0 c.in_ok-check.ensures.new c.in_err-take.ensures)

pub returns-in_err-finish-clause-refused : goal.returns-in_err-finish-clause-refused
returns-in_err-finish-clause-refused c =
    let start = c.in_ok-check.ensures.new in
    let has : HasBytes c.args.instance.now start.0 c.args.bytes.now c.take.new.self = c.in_ok-take.ensures c.args.instance.now start.0 [] start.1 in
    text_refused c.args.instance.now c.args.bytes.now c.in_err-finish.field-0.0 c.from_residual-in_err-finish.result c.from_residual-in_err-finish.ensures.1
    (c.in_err-finish.ensures c.args.instance.now start.0 c.args.bytes.now has)

-- the text is accepted
accepted : (c : goal.In_ok-finish) → IsAcceptedText c.args.instance.now c.args.bytes.now (pair_value c.in_ok-finish.field-0)
accepted c =
    let start = c.in_ok-check.ensures.new in
    let has : HasBytes c.args.instance.now start.0 c.args.bytes.now c.take.new.self = c.in_ok-take.ensures c.args.instance.now start.0 [] start.1 in
    c.in_ok-finish.ensures c.args.instance.now start.0 c.args.bytes.now has

pub returns-clause-accepted : goal.returns-clause-accepted
returns-clause-accepted c = accepted c

pub returns-clause-verdict : goal.returns-clause-verdict
returns-clause-verdict c = accepted_verdict c.args.instance.now c.args.bytes.now (pair_value c.in_ok-finish.field-0) (accepted c)
