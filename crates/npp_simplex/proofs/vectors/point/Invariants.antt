use Rattle.std.proofs.Common.{◌≡◌, ◌+◌, map}
use Rattle.std.specs.List.{range_with_len}
use Rattle.npp_simplex.specs.Tableau.{cell}
use Rattle.npp_simplex.specs.Vectors.{basic_row, basic_value}
use Rattle.npp_simplex.proofs.vectors.point.Given as goal

abbrev pub invariant-loop-j : goal.invariant-loop-j
invariant-loop-j g l = map g.N.Exact.rational l.numbers.items ≡ map (λ j. basic_value (λ i. cell l.tableau i (l.tableau.columns + l.tableau.rows + 1)) (basic_row l.basis j)) (range_with_len 0 l.j)
