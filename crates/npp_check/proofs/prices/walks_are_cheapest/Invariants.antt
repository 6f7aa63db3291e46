use Rattle.std.proofs.Common.{map}
use Rattle.npp_frac.specs.Fits.{limit_of}
use Rattle.npp_check.proofs.PathPriceLemmas.{WalksFrom}
use Rattle.npp_check.proofs.prices.walks_are_cheapest.Given as goal

-- the walks from here on are still to be judged
abbrev pub invariant-loop-k : goal.invariant-loop-k
invariant-loop-k g l = WalksFrom g.N.Exact.rational (limit_of g.N.Exact.WIDTH) (map g.N.Exact.rational l.tolls) l.covers l.lines l.k
