use Rattle.std.proofs.Common.{◌≡◌, ◌++◌, map}
use Rattle.std.specs.List.{range_with_len, flat_map}
use Rattle.npp_rows.specs.Relax.{allowed_tolls}
use Rattle.npp_rows.specs.KindNames.{pair_name}
use Rattle.npp_rows.proofs.row_names.push_pairs.Given as goal

abbrev pub invariant-loop-k : goal.invariant-loop-k
invariant-loop-k l = l.rows.items ≡ l.initial.rows.items ++ flat_map (λ k. map (λ a. pair_name l.kind a k) (allowed_tolls l.index.paths l.index.parts k)) (range_with_len 0 l.k)
