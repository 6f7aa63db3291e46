use Rattle.std.proofs.Common.{◌≡◌, ◌++◌, string_bytes, map, take}
use Rattle.npp_tree.specs.Outcome.{path_line_value}
use Rattle.npp_report.specs.Lines.{path_lines}
use Rattle.npp_report.proofs.lines.write_paths.Given as goal

abbrev pub invariant-loop-k : goal.invariant-loop-k
invariant-loop-k g l =
    string_bytes l.text ≡ string_bytes l.initial.text ++ path_lines (map (path_line_value g.N.Exact.rational) (take l.k l.paths))
