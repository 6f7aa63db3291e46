use Rattle.std.proofs.Common.{◌≡◌, map}
use Rattle.std.specs.List.{range_with_len}
use Rattle.npp_rows.specs.PathModel.{paths}
use Rattle.npp_rows.proofs.table.PathTable.all_paths.Given as goal

abbrev pub invariant-loop-k : goal.invariant-loop-k
invariant-loop-k l = l.parts.items ≡ map (paths l.self) (range_with_len 0 l.k)
