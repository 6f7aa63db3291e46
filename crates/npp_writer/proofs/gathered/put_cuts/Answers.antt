use Rattle.std.proofs.Common.{◌+◌, drop, Ok, Err, string_bytes}
use Rattle.std.specs.List.{flat_map}
use Rattle.npp_rows.specs.Meaning.{derivation_value}
use Rattle.npp_tree.specs.Lines.{cut_lines}
use Rattle.npp_report.specs.Lines.{text_of}
use Rattle.npp_writer.proofs.HandedLaws.{goes_on, passed, stops}
use Rattle.npp_writer.proofs.TextLaws.{flat_more, flat_split, some_cut}
use Rattle.npp_writer.proofs.gathered.put_cuts.Goals as goal

pub loop-cut-preserved : goal.loop-cut-preserved
loop-cut-preserved g c =
    let cut = c.cut-item.result in
    let more = passed (g.O.Sink.written c.loop-cut.out) (g.O.Sink.written c.pass_on.new.out) (g.O.Sink.faults c.loop-cut.out) (g.O.Sink.faults c.pass_on.new.out)
    (string_bytes c.loop-cut.text) (text_of (cut_lines (derivation_value g.N.Exact.rational cut))) (string_bytes c.write_cut.new.text) (string_bytes c.pass_on.new.text)
    c.write_cut.result (Ok c.in_ok-pass_on.field-0) (some_cut (derivation_value g.N.Exact.rational cut)) c.write_cut.ensures c.in_ok-pass_on.ensures in
    goes_on _ _ _ _ _ _ _ _ _ _ _ _ (flat_more (λ d. text_of (cut_lines (derivation_value g.N.Exact.rational d))) c.loop-cut.cut-index c.args.cuts.now cut c.loop-cut-test.true)
    c.loop-cut.invariant (rw c.cut-item.is at more)

pub returns-in_err-pass_on : goal.returns-in_err-pass_on
returns-in_err-pass_on g c =
    let cut = c.cut-item.result in
    let stopped = passed (g.O.Sink.written c.loop-cut.out) (g.O.Sink.written c.pass_on.new.out) (g.O.Sink.faults c.loop-cut.out) (g.O.Sink.faults c.pass_on.new.out)
    (string_bytes c.loop-cut.text) (text_of (cut_lines (derivation_value g.N.Exact.rational cut))) (string_bytes c.write_cut.new.text) (string_bytes c.pass_on.new.text)
    c.write_cut.result (Err c.in_err-pass_on.field-0.0) (some_cut (derivation_value g.N.Exact.rational cut)) c.write_cut.ensures c.in_err-pass_on.ensures in
    stops _ _ _ _ _ _ _ _ _ _ (flat_map (λ d. text_of (cut_lines (derivation_value g.N.Exact.rational d))) (drop (c.loop-cut.cut-index + 1) c.args.cuts.now))
    _ _ c.from_residual.result c.in_err-pass_on.field-0.0
    (flat_split (λ d. text_of (cut_lines (derivation_value g.N.Exact.rational d))) c.loop-cut.cut-index c.args.cuts.now cut c.loop-cut-test.true)
    c.loop-cut.invariant (rw c.cut-item.is at stopped) c.from_residual.ensures.1
