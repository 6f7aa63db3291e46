use Rattle.std.proofs.Common.{◌≡◌, length}
use Rattle.npp_bench.proofs.interval.goal.Given as goal

abbrev pub invariant-loop-j : goal.invariant-loop-j
invariant-loop-j g l = length l.numbers.items ≡ l.j
