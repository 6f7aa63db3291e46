use Rattle.std.proofs.Common.{◌≡◌, ◌++◌, string_bytes, take}
use Rattle.npp_cli.specs.PathsText.{paths_text}
use Rattle.npp_cli.proofs.paths.write_covers.Given as goal

abbrev pub invariant-loop-k : goal.invariant-loop-k
invariant-loop-k l =
    string_bytes l.text ≡ string_bytes l.initial.text ++ paths_text (take l.k l.covers)
