use Rattle.npp_frac.specs.Fits.{limit_of}
use Rattle.npp_simplex.proofs.Pivoting.{HasPivotedUpTo}
use Rattle.npp_simplex.proofs.tableau.Tableau.pivot.Given as goal

abbrev pub invariant-loop-i : goal.invariant-loop-i
invariant-loop-i g l = HasPivotedUpTo (limit_of g.N.Exact.WIDTH) l.fn.self l.self l.row l.column l.i
