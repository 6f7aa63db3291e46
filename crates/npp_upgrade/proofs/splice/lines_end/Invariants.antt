use Rattle.std.proofs.Common.{◌≤◌, length}
use Rattle.npp_upgrade.proofs.EndLemmas.{HasPassed}
use Rattle.npp_upgrade.proofs.splice.lines_end.Given as goal

abbrev pub invariant-loop : goal.invariant-loop
invariant-loop l = (l.end ≤ length l.bytes) × HasPassed l.count l.bytes l.counter l.end
