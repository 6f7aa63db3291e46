use Rattle.std.proofs.Common.{◌<◌, length}
use Rattle.npp_search.proofs.DivisionLaws.{HasMostBelow}
use Rattle.npp_search.proofs.division.by_count.Given as goal

-- it has the most paths of the commodities that were seen
abbrev pub invariant-loop-k : goal.invariant-loop-k
invariant-loop-k l = (l.most < length l.parts) × HasMostBelow l.parts l.k l.most
