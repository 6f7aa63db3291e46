use Rattle.std.proofs.Common.{◌<◌, length, map}
use Rattle.npp_search.proofs.DivisionLaws.{HasGreatestBelow}
use Rattle.npp_search.proofs.division.greatest.Given as goal

-- there stands the greatest of the numbers that were seen
abbrev pub invariant-loop-place : goal.invariant-loop-place
invariant-loop-place g l = (l.best < length l.numbers) × HasGreatestBelow (map g.N.Exact.rational l.numbers) l.place l.best
