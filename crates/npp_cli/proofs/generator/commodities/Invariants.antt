use Rattle.std.proofs.Common.{◌≡◌, map}
use Rattle.npp_cli.specs.Generated.{first_numbers, side_pair}
use Rattle.npp_cli.proofs.generator.commodities.Given as goal

abbrev pub invariant-loop-j : goal.invariant-loop-j
invariant-loop-j l = l.pairs.items ≡ map (side_pair l.number) (first_numbers l.j)
