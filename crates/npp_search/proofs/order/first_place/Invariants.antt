use Rattle.std.proofs.Common.{◌<◌, length}
use Rattle.npp_search.proofs.ScanLaws.{IsFirstBelow}
use Rattle.npp_search.proofs.order.first_place.Given as goal

-- the node at the place so far comes first among those that were seen
abbrev pub invariant-loop-place : goal.invariant-loop-place
invariant-loop-place g l = (l.best < length l.live) × IsFirstBelow g.R.Order.comes_first (g.met.R.Order.comes_after_itself) (g.met.R.Order.goes_on) l.live l.best l.place
