use Rattle.std.proofs.Common.{◌≡◌, Ok, map}
use Rattle.npp_frac.specs.Fits.{limit_of}
use Rattle.npp_lp.specs.Programs.{at, row_of}
use Rattle.npp_lp.specs.Duals.{coefficient}
use Rattle.npp_lp.specs.Sums.{checked_sum}
use Rattle.npp_lp.specs.Meaning.{linear_program}
use Rattle.npp_lp.proofs.sums.column_sum.Given as goal

-- the rows so far give the sum so far
abbrev pub invariant-loop-row : goal.invariant-loop-row
invariant-loop-row g l =
    checked_sum (limit_of g.N.Exact.WIDTH) l.row (λ i. coefficient (row_of (linear_program g.N.Exact.rational l.program) i).terms l.column) (at (map g.N.Exact.rational l.y)) ≡ Ok (g.N.Exact.rational l.sum)
