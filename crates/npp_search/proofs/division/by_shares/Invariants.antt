use Rattle.std.proofs.Common.{map}
use Rattle.npp_search.specs.Scan.{IsCandidate}
use Rattle.npp_search.proofs.DivisionLaws.{HasLeastBelow}
use Rattle.npp_search.proofs.division.by_shares.Given as goal

-- of the commodities that were seen and have several paths it has the least greatest share
abbrev pub invariant-loop-k : goal.invariant-loop-k
invariant-loop-k g l =
    HasLeastBelow l.parts (map (map g.N.Exact.rational) l.shares) l.k l.least.commodity
    × IsCandidate g.N.Exact.rational (map (map g.N.Exact.rational) l.shares) l.least.commodity l.least
