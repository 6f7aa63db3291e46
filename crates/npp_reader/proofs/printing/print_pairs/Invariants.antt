use Rattle.std.proofs.Common.{◌≡◌, ◌++◌, take, map, string_bytes}
use Rattle.std.specs.List.{flat_map}
use Rattle.npp_reader.specs.Canonical.{line_of, pair_fields}
use Rattle.npp_reader.proofs.printing.print_pairs.Given as goal

abbrev pub invariant-loop-k : goal.invariant-loop-k
invariant-loop-k l = string_bytes l.text ≡ string_bytes l.initial.text ++ flat_map line_of (map (pair_fields l.names) (take l.k-index l.commodities))
