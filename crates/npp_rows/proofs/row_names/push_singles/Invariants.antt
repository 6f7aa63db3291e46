use Rattle.std.proofs.Common.{◌≡◌, ◌++◌, map}
use Rattle.std.specs.List.{range_with_len}
use Rattle.npp_rows.specs.KindNames.{single_name}
use Rattle.npp_rows.proofs.row_names.push_singles.Given as goal

abbrev pub invariant-loop-i : goal.invariant-loop-i
invariant-loop-i l = l.rows.items ≡ l.initial.rows.items ++ map (single_name l.kind) (range_with_len 0 l.i)
