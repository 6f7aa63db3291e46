use Rattle.std.proofs.Common.{◌≡◌, length}
use Rattle.npp_simplex.proofs.room.zeros.Given as goal

abbrev pub invariant-loop-i : goal.invariant-loop-i
invariant-loop-i g l = length l.list.items ≡ l._i
