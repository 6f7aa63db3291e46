use Rattle.std.proofs.Common.{◌≡◌, ◌++◌, string_bytes, take}
use Rattle.npp_report.specs.Lines.{numbered_lines}
use Rattle.npp_cli.specs.SpansText.{span_line}
use Rattle.npp_cli.proofs.spans.write_spans.Given as goal

abbrev pub invariant-loop-k : goal.invariant-loop-k
invariant-loop-k l =
    string_bytes l.text ≡ string_bytes l.initial.text ++ numbered_lines span_line 0 (take l.k-counter l.spans)
