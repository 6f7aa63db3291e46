use Rattle.std.proofs.Common.{◌≡◌, ◌≤◌}
use Rattle.npp_bench.proofs.dual.write_row.Given as goal

-- the columns so far are written
abbrev pub invariant-loop-column : goal.invariant-loop-column
invariant-loop-column l = (l.builder.columns ≡ l.columns) × (l.builder.next ≤ l.column) × (l.builder.rows ≡ l.initial.builder.rows)
