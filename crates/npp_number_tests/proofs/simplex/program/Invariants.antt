use Rattle.std.proofs.Common.{◌≡◌, []}
use Rattle.npp_number_tests.proofs.simplex.program.Given as goal

-- no row is being written
abbrev pub invariant-loop-i : goal.invariant-loop-i
invariant-loop-i g l = (l.builder.columns ≡ l.columns) × (l.builder.next ≡ 0) × (l.builder.entries ≡ [])
