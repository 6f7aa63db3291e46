use Rattle.std.proofs.Common.{◌≡◌, Ok, map}
use Rattle.npp_frac.specs.Fits.{limit_of}
use Rattle.npp_lp.specs.Programs.{at}
use Rattle.npp_lp.specs.Sums.{checked_sum}
use Rattle.npp_lp.proofs.sums.product_sum.Given as goal

-- the products so far give the sum so far
abbrev pub invariant-loop-place : goal.invariant-loop-place
invariant-loop-place g l = checked_sum (limit_of g.N.Exact.WIDTH) l.place (at (map g.N.Exact.rational l.a)) (at (map g.N.Exact.rational l.b)) ≡ Ok (g.N.Exact.rational l.sum)
