use Rattle.std.proofs.Common.{◌≡◌, length}
use Rattle.npp_tests.proofs.named.take_all.Given as goal

-- the sums keep their columns
abbrev pub invariant-loop-i : goal.invariant-loop-i
invariant-loop-i g l = length l.sums.sums.columns ≡ length l.initial.sums.sums.columns
