use Rattle.std.proofs.Common.{◌≡◌, length}
use Rattle.npp_simplex.proofs.long_words.zero_long_words.Given as goal

abbrev pub invariant-loop-i : goal.invariant-loop-i
invariant-loop-i l = length l.list.items ≡ l._i
