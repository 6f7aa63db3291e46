use Rattle.std.proofs.Common.{◌≡◌, ◌++◌, map, take}
use Rattle.npp_rows.specs.KindNames.{pair_name}
use Rattle.npp_rows.proofs.row_names.push_tolls.Given as goal

abbrev pub invariant-loop-toll : goal.invariant-loop-toll
invariant-loop-toll l = l.rows.items ≡ l.initial.rows.items ++ map (λ a. pair_name l.kind a l.k) (take l.toll-index l.tolls)
