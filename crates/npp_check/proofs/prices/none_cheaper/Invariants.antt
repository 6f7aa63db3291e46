use Rattle.std.proofs.Common.{map}
use Rattle.npp_frac.specs.Fits.{limit_of}
use Rattle.npp_check.proofs.PathPriceLemmas.{NoneFrom}
use Rattle.npp_check.proofs.prices.none_cheaper.Given as goal

-- the paths from here on are still to be compared
abbrev pub invariant-loop-path : goal.invariant-loop-path
invariant-loop-path g l = NoneFrom (limit_of g.N.Exact.WIDTH) (map g.N.Exact.rational l.tolls) (g.N.Exact.rational l.printed) l.paths l.path-index
