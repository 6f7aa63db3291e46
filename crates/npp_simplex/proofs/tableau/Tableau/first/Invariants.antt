use Rattle.std.proofs.Common.{◌≡◌, ◌+◌, map}
use Rattle.std.specs.List.{range_with_len}
use Rattle.npp_lp.specs.Meaning.{linear_program}
use Rattle.npp_simplex.specs.Run.{first_cell}
use Rattle.npp_simplex.proofs.tableau.Tableau.first.Given as goal

abbrev pub invariant-loop-i : goal.invariant-loop-i
invariant-loop-i g l = l.lines.items ≡ map (λ i. map (first_cell (linear_program g.N.Exact.rational l.program) i) (range_with_len 0 (l.shape.columns + l.shape.rows + 2))) (range_with_len 0 l.i)
