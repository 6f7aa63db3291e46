use Rattle.std.proofs.Common.{◌≡◌, ◌++◌, take, map, string_bytes}
use Rattle.std.specs.List.{flat_map}
use Rattle.npp_reader.specs.Canonical.{line_of, node_fields}
use Rattle.npp_reader.proofs.printing.print_nodes.Given as goal

abbrev pub invariant-loop-node : goal.invariant-loop-node
invariant-loop-node l = string_bytes l.text ≡ string_bytes l.initial.text ++ flat_map line_of (map node_fields (take l.node l.names))
