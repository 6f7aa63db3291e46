use Rattle.std.specs.Prelude.{pos, int_div}
use Rattle.npp_simplex.proofs.WordRows.{IsChangedBelow}
use Rattle.npp_simplex.proofs.words.divide_each.Given as goal

abbrev pub invariant-loop-j : goal.invariant-loop-j
invariant-loop-j l = IsChangedBelow l.initial.numbers l.numbers (λ k x. int_div x (pos l.divisor.value)) l.j
