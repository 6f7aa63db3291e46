use Rattle.std.proofs.Common.{◌≡◌, ◌++◌, string_bytes, map, take}
use Rattle.npp_report.specs.Lines.{toll_lines}
use Rattle.npp_report.proofs.lines.write_tolls.Given as goal

abbrev pub invariant-loop-number : goal.invariant-loop-number
invariant-loop-number g l =
    string_bytes l.text ≡ string_bytes l.initial.text ++ toll_lines (map g.N.Exact.rational (take l.number l.tolls))
