use Rattle.std.proofs.Common.{◌≡◌, None, map}
use Rattle.npp_frac.specs.Fits.{limit_of}
use Rattle.npp_lp.specs.Verdict.{first_below}
use Rattle.npp_lp.specs.PrimalVerdict.{row_fault}
use Rattle.npp_lp.specs.Meaning.{linear_program}
use Rattle.npp_lp.proofs.primal.check_primal.Given as goal

-- no row so far has a fault
abbrev pub invariant-loop-row : goal.invariant-loop-row
invariant-loop-row g l =
    first_below l.row (row_fault (limit_of g.N.Exact.WIDTH) (linear_program g.N.Exact.rational l.program) (map g.N.Exact.rational l.x)) ≡ None
