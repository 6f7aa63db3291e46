use Rattle.std.proofs.Common.{◌≡◌, None, map}
use Rattle.npp_frac.specs.Fits.{limit_of}
use Rattle.npp_lp.specs.Verdict.{first_below}
use Rattle.npp_lp.specs.FarkasVerdict.{column_fault}
use Rattle.npp_lp.specs.Meaning.{linear_program}
use Rattle.npp_lp.proofs.farkas.check_farkas.Given as goal

-- no column so far has a fault
abbrev pub invariant-loop-column : goal.invariant-loop-column
invariant-loop-column g l =
    first_below l.column (column_fault (limit_of g.N.Exact.WIDTH) (linear_program g.N.Exact.rational l.program) (map g.N.Exact.rational l.y)) ≡ None
