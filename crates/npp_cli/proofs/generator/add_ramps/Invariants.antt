use Rattle.std.proofs.Common.{◌≡◌, ◌++◌, flat_map, take}
use Rattle.npp_cli.specs.Generated.{ramp_arcs}
use Rattle.npp_cli.proofs.generator.add_ramps.Given as goal

abbrev pub invariant-loop-i : goal.invariant-loop-i
invariant-loop-i l = l.arcs.items ≡ l.initial.arcs.items ++ flat_map ramp_arcs (take l.i-index l.i-items)
