use Rattle.std.proofs.Common.{map}
use Rattle.npp_frac.specs.Rational.{◌/ℚ◌}
use Rattle.npp_frac.specs.Fits.{limit_of, fits_div}
use Rattle.npp_lp.specs.Programs.{at}
use Rattle.npp_simplex.proofs.Rows.{IsReplacedUpTo}
use Rattle.npp_simplex.proofs.row.divide.Given as goal

abbrev pub invariant-loop-j : goal.invariant-loop-j
invariant-loop-j g l = IsReplacedUpTo g.N.Exact.rational l.initial.row l.row (λ k. at (map g.N.Exact.rational l.initial.row) k /ℚ g.N.Exact.rational l.divisor) (λ k. fits_div (limit_of g.N.Exact.WIDTH) (at (map g.N.Exact.rational l.initial.row) k) (g.N.Exact.rational l.divisor)) l.j
