use Rattle.std.proofs.Common.{◌≡◌, ◌++◌, string_bytes, map, take}
use Rattle.npp_cover.specs.PathValue.{path_value}
use Rattle.npp_report.specs.Lines.{numbered_lines}
use Rattle.npp_cli.specs.PathsText.{useful_line}
use Rattle.npp_cli.proofs.paths.write_paths.Given as goal

abbrev pub invariant-loop-q : goal.invariant-loop-q
invariant-loop-q l =
    string_bytes l.text ≡ string_bytes l.initial.text ++ numbered_lines (useful_line l.k) 0 (map path_value (take l.q l.paths))
