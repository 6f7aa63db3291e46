use Rattle.std.proofs.Common.{take}
use Rattle.npp_frac.specs.Fits.{limit_of}
use Rattle.npp_lp.specs.Meaning.{linear_program}
use Rattle.npp_lp.specs.Sparse.{multipliers_meant}
use Rattle.npp_lp.specs.RunningSums.{sums_meant, AreSumsOf}
use Rattle.npp_lp.proofs.sparse.sum_rows.Given as goal

-- the rows that are named so far are taken
abbrev pub invariant-loop-place : goal.invariant-loop-place
invariant-loop-place g l =
    AreSumsOf (limit_of g.N.Exact.WIDTH) (linear_program g.N.Exact.rational l.program) (multipliers_meant g.N.Exact.rational (take l.place l.multipliers)) (sums_meant g.N.Exact.rational l.sums)
