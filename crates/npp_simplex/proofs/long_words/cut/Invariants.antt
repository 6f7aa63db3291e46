use Rattle.npp_simplex.specs.CommonForm.{number_in}
use Rattle.npp_simplex.proofs.WordRows.{IsChangedBelow}
use Rattle.npp_simplex.proofs.long_words.cut.Given as goal

abbrev pub invariant-loop-j : goal.invariant-loop-j
invariant-loop-j l = IsChangedBelow l.initial.words l.words (λ k x. number_in l.numbers k) l.j
