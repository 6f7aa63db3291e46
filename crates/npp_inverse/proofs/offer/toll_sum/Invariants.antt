use Rattle.std.proofs.Common.{length, map}
use Rattle.npp_frac.specs.Fits.{limit_of}
use Rattle.npp_net.specs.TollSets.{tolls_of}
use Rattle.npp_inverse.proofs.TollLaws.{AreLeft}
use Rattle.npp_inverse.proofs.offer.toll_sum.Given as goal

abbrev pub invariant-loop-toll : goal.invariant-loop-toll
invariant-loop-toll g l = AreLeft (limit_of g.N.Exact.WIDTH) (length l.tolls) (map g.N.Exact.rational l.tolls) (tolls_of l.fn.set) (g.N.Exact.rational l.sum) l.toll-iterator
