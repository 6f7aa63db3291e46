use Rattle.std.proofs.Common.{append_assoc}
use Rattle.npp_net.specs.declared.types.Span.{Span}
use Rattle.npp_cli.specs.SpansText.{span_line}
use Rattle.npp_report.proofs.Growth.{grown_by_more}
use Rattle.npp_report.proofs.NumberedLines.{numbered_lines_more}
use Rattle.npp_cli.proofs.spans.write_spans.Goals as goal

pub loop-k-preserved : goal.loop-k-preserved
loop-k-preserved c =
    let past_the_end : Span = record { free = 0; zero = 0 } in
    grown_by_more _ _ _ _ _ _ c.loop-k.invariant (simp append_assoc c.in_ok-writeln.ensures.bytes)
    (numbered_lines_more span_line c.args.spans.now _ past_the_end c.loop-k-test.true)
