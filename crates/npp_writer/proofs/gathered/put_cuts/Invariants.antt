use Rattle.std.proofs.Common.{string_bytes, take}
use Rattle.std.specs.List.{flat_map}
use Rattle.npp_rows.specs.Meaning.{derivation_value}
use Rattle.npp_tree.specs.Lines.{cut_lines}
use Rattle.npp_report.specs.Lines.{text_of}
use Rattle.npp_writer.specs.Handed.{AreHanded}
use Rattle.npp_writer.proofs.gathered.put_cuts.Given as goal

abbrev pub invariant-loop-cut : goal.invariant-loop-cut
invariant-loop-cut g l =
    AreHanded (g.O.Sink.written l.initial.out) (g.O.Sink.written l.out) (g.O.Sink.faults l.initial.out) (g.O.Sink.faults l.out)
    (string_bytes l.initial.text) (flat_map (λ d. text_of (cut_lines (derivation_value g.N.Exact.rational d))) (take l.cut-index l.cuts)) (string_bytes l.text)
