use Rattle.std.proofs.Common.{◌≡◌, map}
use Rattle.std.specs.List.{range_with_len}
use Rattle.npp_rows.specs.Relax.{allowed_tolls}
use Rattle.npp_rows.proofs.index.used_tolls.Given as goal

abbrev pub invariant-loop-k : goal.invariant-loop-k
invariant-loop-k l = l.used.items ≡ map (allowed_tolls l.table l.allowed.parts) (range_with_len 0 l.k)
