use Rattle.std.proofs.Common.{◌≡◌, ◌++◌, take, map, string_bytes}
use Rattle.std.specs.List.{flat_map}
use Rattle.npp_reader.specs.Canonical.{line_of, arc_fields}
use Rattle.npp_reader.proofs.printing.print_arcs.Given as goal

abbrev pub invariant-loop-x : goal.invariant-loop-x
invariant-loop-x l = string_bytes l.text ≡ string_bytes l.initial.text ++ flat_map line_of (map (arc_fields l.format l.names) (take l.x-index l.arcs))
