use Rattle.std.proofs.Common.{◌≡◌, ◌++◌, string_bytes}
use Rattle.npp_net.specs.TollSets.{tolls_of}
use Rattle.npp_report.specs.Lines.{number_fields}
use Rattle.npp_cli.proofs.paths.write_tolls.Given as goal

-- what stands with what is still to come
abbrev pub invariant-loop-toll : goal.invariant-loop-toll
invariant-loop-toll l = string_bytes l.text ++ number_fields l.toll-iterator ≡ string_bytes l.initial.text ++ number_fields (tolls_of l.fn.tolls)
