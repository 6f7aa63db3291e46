use Rattle.std.proofs.Common.{◌≡◌, ◌++◌, map, take}
use Rattle.npp_rows.proofs.touched.push_columns.Given as goal

abbrev pub invariant-loop-entry : goal.invariant-loop-entry
invariant-loop-entry g l = l.columns.items ≡ l.initial.columns.items ++ map (λ e. e.column) (take l.entry-index l.entries)
