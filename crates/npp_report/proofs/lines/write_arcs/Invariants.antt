use Rattle.std.proofs.Common.{◌≡◌, ◌++◌, string_bytes, take}
use Rattle.npp_report.specs.Lines.{arc_fields}
use Rattle.npp_report.proofs.lines.write_arcs.Given as goal

abbrev pub invariant-loop-arc : goal.invariant-loop-arc
invariant-loop-arc l = string_bytes l.text ≡ string_bytes l.initial.text ++ arc_fields (take l.arc-index l.arcs)
