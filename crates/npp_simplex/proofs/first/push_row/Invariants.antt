use Rattle.std.proofs.Common.{◌≡◌, ◌++◌, map}
use Rattle.std.specs.List.{range_with_len}
use Rattle.npp_lp.specs.Meaning.{linear_program}
use Rattle.npp_simplex.specs.Run.{first_cell}
use Rattle.npp_simplex.proofs.first.push_row.Given as goal

abbrev pub invariant-loop-j : goal.invariant-loop-j
invariant-loop-j g l = map g.N.Exact.rational l.cells.items ≡ map g.N.Exact.rational l.initial.cells.items ++ map (first_cell (linear_program g.N.Exact.rational l.program) l.i) (range_with_len 0 l.j)
