use Rattle.std.proofs.Common.{◌≡◌, length}
use Rattle.npp_tests.proofs.named.take_for_choice.Given as goal

-- the sums keep their columns
abbrev pub invariant-loop-row : goal.invariant-loop-row
invariant-loop-row g l = length l.sums.sums.columns ≡ length l.initial.sums.sums.columns
