use Rattle.std.specs.Prelude.{neg_ℤ}
use Rattle.npp_simplex.proofs.WordRows.{IsChangedBelow}
use Rattle.npp_simplex.proofs.words.negate.Given as goal

abbrev pub invariant-loop-j : goal.invariant-loop-j
invariant-loop-j l = IsChangedBelow l.initial.numbers l.numbers (λ k x. neg_ℤ x) l.j
