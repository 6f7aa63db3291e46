use Rattle.std.proofs.Common.{map}
use Rattle.npp_frac.specs.Fits.{limit_of}
use Rattle.npp_inverse.proofs.TakenLaws.{IsTaken}
use Rattle.npp_inverse.proofs.offer.taken_offer.Given as goal

abbrev pub invariant-loop-path : goal.invariant-loop-path
invariant-loop-path g l = IsTaken (limit_of g.N.Exact.WIDTH) l.table (map g.N.Exact.rational l.tolls) l.k l.path l.taken.path (g.N.Exact.rational l.taken.toll) (g.N.Exact.rational l.taken.price)
