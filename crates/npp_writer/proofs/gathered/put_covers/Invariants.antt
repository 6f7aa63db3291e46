use Rattle.std.proofs.Common.{string_bytes, take}
use Rattle.npp_tree.specs.Lines.{cover_lines}
use Rattle.npp_report.specs.Lines.{numbered_lines, text_of}
use Rattle.npp_writer.specs.Handed.{AreHanded}
use Rattle.npp_writer.proofs.gathered.put_covers.Given as goal

abbrev pub invariant-loop-k : goal.invariant-loop-k
invariant-loop-k g l =
    AreHanded (g.O.Sink.written l.initial.out) (g.O.Sink.written l.out) (g.O.Sink.faults l.initial.out) (g.O.Sink.faults l.out)
    (string_bytes l.initial.text) (numbered_lines (λ k c. text_of (cover_lines k c)) 0 (take l.k l.covers)) (string_bytes l.text)
