use Rattle.std.proofs.Common.{◌+◌, drop, Ok, Err, string_bytes}
use Rattle.std.specs.List.{flat_map}
use Rattle.npp_tree.specs.Outcome.{entry_value}
use Rattle.npp_tree.specs.Lines.{entry_lines}
use Rattle.npp_report.specs.Lines.{text_of}
use Rattle.npp_writer.proofs.HandedLaws.{goes_on, passed, stops}
use Rattle.npp_writer.proofs.TextLaws.{flat_more, flat_split, some_node}
use Rattle.npp_writer.proofs.gathered.put_nodes.Goals as goal

pub loop-node-preserved : goal.loop-node-preserved
loop-node-preserved g c =
    let node = c.node-item.result in
    let more = passed (g.O.Sink.written c.loop-node.out) (g.O.Sink.written c.pass_on.new.out) (g.O.Sink.faults c.loop-node.out) (g.O.Sink.faults c.pass_on.new.out)
    (string_bytes c.loop-node.text) (text_of (entry_lines (entry_value g.N.Exact.rational node))) (string_bytes c.write_node.new.text) (string_bytes c.pass_on.new.text)
    c.write_node.result (Ok c.in_ok-pass_on.field-0) (some_node (entry_value g.N.Exact.rational node)) c.write_node.ensures c.in_ok-pass_on.ensures in
    goes_on _ _ _ _ _ _ _ _ _ _ _ _ (flat_more (λ n. text_of (entry_lines (entry_value g.N.Exact.rational n))) c.loop-node.node-index c.args.nodes.now node c.loop-node-test.true)
    c.loop-node.invariant (rw c.node-item.is at more)

pub returns-in_err-pass_on : goal.returns-in_err-pass_on
returns-in_err-pass_on g c =
    let node = c.node-item.result in
    let stopped = passed (g.O.Sink.written c.loop-node.out) (g.O.Sink.written c.pass_on.new.out) (g.O.Sink.faults c.loop-node.out) (g.O.Sink.faults c.pass_on.new.out)
    (string_bytes c.loop-node.text) (text_of (entry_lines (entry_value g.N.Exact.rational node))) (string_bytes c.write_node.new.text) (string_bytes c.pass_on.new.text)
    c.write_node.result (Err c.in_err-pass_on.field-0.0) (some_node (entry_value g.N.Exact.rational node)) c.write_node.ensures c.in_err-pass_on.ensures in
    stops _ _ _ _ _ _ _ _ _ _ (flat_map (λ n. text_of (entry_lines (entry_value g.N.Exact.rational n))) (drop (c.loop-node.node-index + 1) c.args.nodes.now))
    _ _ c.from_residual.result c.in_err-pass_on.field-0.0
    (flat_split (λ n. text_of (entry_lines (entry_value g.N.Exact.rational n))) c.loop-node.node-index c.args.nodes.now node c.loop-node-test.true)
    c.loop-node.invariant (rw c.node-item.is at stopped) c.from_residual.ensures.1
