use Rattle.std.proofs.Common.{pos, ◌*ℤ◌}
use Rattle.npp_simplex.proofs.WordRows.{IsChangedBelow}
use Rattle.npp_simplex.proofs.long_words.scale_long.Given as goal

abbrev pub invariant-loop-j : goal.invariant-loop-j
invariant-loop-j l = IsChangedBelow l.initial.numbers l.numbers (λ k x. x *ℤ pos l.factor) l.j
