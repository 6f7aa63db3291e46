use Rattle.std.proofs.Common.{◌≡◌, ◌++◌, map}
use Rattle.npp_cli.specs.Generated.{first_numbers, main_arc}
use Rattle.npp_cli.proofs.generator.add_main_road.Given as goal

abbrev pub invariant-loop-i : goal.invariant-loop-i
invariant-loop-i l = l.arcs.items ≡ l.initial.arcs.items ++ map (main_arc l.number) (first_numbers l.i)
