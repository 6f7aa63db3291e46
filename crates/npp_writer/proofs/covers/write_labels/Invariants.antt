use Rattle.std.proofs.Common.{◌≡◌, ◌++◌, map, take, string_bytes}
use Rattle.npp_tree.specs.Lines.{label_line}
use Rattle.npp_report.specs.Lines.{text_of}
use Rattle.npp_writer.proofs.covers.write_labels.Given as goal

abbrev pub invariant-loop-label : goal.invariant-loop-label
invariant-loop-label l = string_bytes l.text ≡ string_bytes l.initial.text ++ text_of (map label_line (take l.label-index l.labels))
