use Rattle.std.proofs.Common.{◌≡◌, length}
use Rattle.npp_bench.proofs.dual.numbers.Given as goal

abbrev pub invariant-loop-i : goal.invariant-loop-i
invariant-loop-i l = length l.numbers.items ≡ l.i
