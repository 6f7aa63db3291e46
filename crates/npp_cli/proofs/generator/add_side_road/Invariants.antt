use Rattle.std.proofs.Common.{◌≡◌, ◌++◌, flat_map}
use Rattle.npp_cli.specs.Generated.{first_numbers, side_arcs}
use Rattle.npp_cli.proofs.generator.add_side_road.Given as goal

abbrev pub invariant-loop-i : goal.invariant-loop-i
invariant-loop-i l = l.arcs.items ≡ l.initial.arcs.items ++ flat_map (side_arcs l.number) (first_numbers l.i)
