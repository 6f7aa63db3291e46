use Rattle.std.proofs.Common.{◌+◌, ◌-◌, ◌≤◌, take, length, Some}
use Rattle.std.specs.List.{range_with_len}
use Rattle.npp_frac.specs.Fits.{limit_of}
use Rattle.npp_simplex.proofs.Refining.{StandsAt}
use Rattle.npp_simplex.proofs.ratio.refine_by_slacks.Given as goal

abbrev pub invariant-loop-left : goal.invariant-loop-left
invariant-loop-left g l = record {
  within : l.left ≤ length l.candidates;
  from : l.from ≤ l.tableau.columns + l.tableau.rows;
  stands : StandsAt (Some (limit_of g.N.Exact.WIDTH)) l.entering.stage l.tableau l.entering.column (range_with_len l.tableau.columns l.tableau.rows) l.initial.candidates l.from (l.tableau.columns + l.tableau.rows) (take l.left l.candidates);
}

abbrev pub decreases-loop-left : goal.decreases-loop-left
decreases-loop-left g l = l.tableau.columns + l.tableau.rows - l.from
