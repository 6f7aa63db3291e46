use Rattle.std.proofs.Common.{◌+◌, length, take, drop, Ok, Err, string_bytes}
use Rattle.npp_tree.specs.Lines.{cover_lines}
use Rattle.npp_report.specs.Lines.{numbered_lines, text_of}
use Rattle.npp_report.proofs.NumberedLines.{numbered_lines_more}
use Rattle.npp_writer.proofs.HandedLaws.{goes_on, passed, stops}
use Rattle.npp_writer.proofs.TextLaws.{numbered_split, some_cover}
use Rattle.npp_writer.proofs.gathered.put_covers.Goals as goal

pub loop-k-preserved : goal.loop-k-preserved
loop-k-preserved g c =
    let cover = c.index-covers-k.result in
    let more = passed (g.O.Sink.written c.loop-k.out) (g.O.Sink.written c.pass_on.new.out) (g.O.Sink.faults c.loop-k.out) (g.O.Sink.faults c.pass_on.new.out)
    (string_bytes c.loop-k.text) (text_of (cover_lines c.loop-k.k cover)) (string_bytes c.write_cover.new.text) (string_bytes c.pass_on.new.text)
    c.write_cover.result (Ok c.in_ok-pass_on.field-0) (some_cover c.loop-k.k cover) c.write_cover.ensures c.in_ok-pass_on.ensures in
    goes_on _ _ _ _ _ _ _ _ _ _ _ _ (numbered_lines_more (λ k c. text_of (cover_lines k c)) c.args.covers.now c.loop-k.k cover c.loop-k-test.true)
    c.loop-k.invariant (rw c.index-covers-k.is at more)

pub returns-in_err-pass_on : goal.returns-in_err-pass_on
returns-in_err-pass_on g c =
    let cover = c.index-covers-k.result in
    let stopped = passed (g.O.Sink.written c.loop-k.out) (g.O.Sink.written c.pass_on.new.out) (g.O.Sink.faults c.loop-k.out) (g.O.Sink.faults c.pass_on.new.out)
    (string_bytes c.loop-k.text) (text_of (cover_lines c.loop-k.k cover)) (string_bytes c.write_cover.new.text) (string_bytes c.pass_on.new.text)
    c.write_cover.result (Err c.in_err-pass_on.field-0.0) (some_cover c.loop-k.k cover) c.write_cover.ensures c.in_err-pass_on.ensures in
    stops _ _ _ _ _ _ _ _ _ _ (numbered_lines (λ k c. text_of (cover_lines k c)) (0 + length (take (c.loop-k.k + 1) c.args.covers.now)) (drop (c.loop-k.k + 1) c.args.covers.now))
    _ _ c.from_residual.result c.in_err-pass_on.field-0.0
    (numbered_split (λ k c. text_of (cover_lines k c)) c.loop-k.k c.args.covers.now cover c.loop-k-test.true)
    c.loop-k.invariant (rw c.index-covers-k.is at stopped) c.from_residual.ensures.1
