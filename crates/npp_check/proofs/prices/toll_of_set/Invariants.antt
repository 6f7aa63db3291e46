use Rattle.std.proofs.Common.{map}
use Rattle.npp_frac.specs.Fits.{limit_of}
use Rattle.npp_check.proofs.PathPriceLemmas.{SumsFrom}
use Rattle.npp_check.proofs.prices.toll_of_set.Given as goal

-- the tolls from here on are still to be added
abbrev pub invariant-loop-toll : goal.invariant-loop-toll
invariant-loop-toll g l = SumsFrom (limit_of g.N.Exact.WIDTH) (map g.N.Exact.rational l.tolls) l.set l.toll (g.N.Exact.rational l.sum)
