use Rattle.npp_leaf.proofs.PointLaws.{AreSplit}
use Rattle.npp_leaf.proofs.point.shares_of.Given as goal

abbrev pub invariant-loop-k : goal.invariant-loop-k
invariant-loop-k g l = AreSplit g.N.Exact.rational l.index.parts l.x l.k l.shares.items l.rest
