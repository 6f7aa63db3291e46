use Rattle.npp_simplex.specs.CommonForm.{number_in}
use Rattle.npp_simplex.proofs.WordRows.{IsChangedBelow}
use Rattle.npp_simplex.proofs.long_words.lengthen.Given as goal

abbrev pub invariant-loop-j : goal.invariant-loop-j
invariant-loop-j l = IsChangedBelow l.initial.numbers l.numbers (λ k x. number_in l.words k) l.j
