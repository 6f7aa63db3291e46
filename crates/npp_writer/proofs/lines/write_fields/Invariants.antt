use Rattle.std.proofs.Common.{◌≡◌, ◌++◌, take, string_bytes}
use Rattle.npp_report.specs.Lines.{number_fields}
use Rattle.npp_writer.proofs.lines.write_fields.Given as goal

abbrev pub invariant-loop-number : goal.invariant-loop-number
invariant-loop-number l = string_bytes l.text ≡ string_bytes l.initial.text ++ number_fields (take l.number-index l.numbers)
