use Rattle.std.proofs.Common.{◌≡◌, ◌+◌, map}
use Rattle.std.specs.List.{range_with_len}
use Rattle.npp_frac.specs.Rational.{negative}
use Rattle.npp_simplex.specs.Tableau.{cell}
use Rattle.npp_simplex.proofs.vectors.multipliers.Given as goal

abbrev pub invariant-loop-k : goal.invariant-loop-k
invariant-loop-k g l = map g.N.Exact.rational l.numbers.items ≡ map (λ k. negative (cell l.tableau l.goal (l.tableau.columns + k))) (range_with_len 0 l.k)
