use Rattle.std.proofs.Common.{◌≡◌, [], length}
use Rattle.npp_bench.proofs.dual.dense.Given as goal

-- no row is being written
abbrev pub invariant-loop-i : goal.invariant-loop-i
invariant-loop-i l = (l.builder.columns ≡ l.columns) × (l.builder.next ≡ 0) × (l.builder.entries ≡ []) × (length l.builder.rows ≡ l.i)
