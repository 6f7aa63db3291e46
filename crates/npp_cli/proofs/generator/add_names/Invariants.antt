use Rattle.std.proofs.Common.{◌≡◌, ◌++◌, map}
use Rattle.std.specs.Fmt.{decimal}
use Rattle.npp_reader.specs.Names.{texts}
use Rattle.npp_cli.specs.Generated.{first_numbers}
use Rattle.npp_cli.proofs.generator.add_names.Given as goal

abbrev pub invariant-loop-i : goal.invariant-loop-i
invariant-loop-i l =
    texts l.names.items ≡ texts l.initial.names.items ++ map (λ i. l.letter ++ decimal i) (first_numbers l.i-counter)
