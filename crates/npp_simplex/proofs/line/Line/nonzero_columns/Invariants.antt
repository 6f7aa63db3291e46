use Rattle.std.proofs.Common.{◌≡◌, ◌≤◌, take}
use Rattle.npp_lp.specs.Programs.{at}
use Rattle.npp_simplex.specs.Steps.{nonzero_columns}
use Rattle.npp_simplex.proofs.line.Line.nonzero_columns.Given as goal

abbrev pub invariant-loop-j : goal.invariant-loop-j
invariant-loop-j g l = record {
  within : l.count ≤ l.j;
  columns : take l.count l.columns ≡ nonzero_columns (at l.self) l.j;
}
