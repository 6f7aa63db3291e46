use Rattle.std.proofs.Common.{◌≡◌, ◌≤◌}
use Rattle.npp_number_tests.proofs.simplex.write_row.Given as goal

-- the columns so far are written
abbrev pub invariant-loop-column : goal.invariant-loop-column
invariant-loop-column g l = (l.builder.columns ≡ l.columns) × (l.builder.next ≤ l.column)
