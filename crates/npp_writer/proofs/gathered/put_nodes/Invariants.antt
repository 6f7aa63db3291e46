use Rattle.std.proofs.Common.{string_bytes, take}
use Rattle.std.specs.List.{flat_map}
use Rattle.npp_tree.specs.Outcome.{entry_value}
use Rattle.npp_tree.specs.Lines.{entry_lines}
use Rattle.npp_report.specs.Lines.{text_of}
use Rattle.npp_writer.specs.Handed.{AreHanded}
use Rattle.npp_writer.proofs.gathered.put_nodes.Given as goal

abbrev pub invariant-loop-node : goal.invariant-loop-node
invariant-loop-node g l =
    AreHanded (g.O.Sink.written l.initial.out) (g.O.Sink.written l.out) (g.O.Sink.faults l.initial.out) (g.O.Sink.faults l.out)
    (string_bytes l.initial.text) (flat_map (λ n. text_of (entry_lines (entry_value g.N.Exact.rational n))) (take l.node-index l.nodes)) (string_bytes l.text)
