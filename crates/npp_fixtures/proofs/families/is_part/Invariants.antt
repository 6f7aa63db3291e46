use Rattle.std.proofs.Common.{◌<◌, take, All}
use Rattle.std.specs.List.{AllPairs}
use Rattle.npp_fixtures.proofs.families.is_part.Given as goal

-- so far the paths rise and are in range
abbrev pub invariant-loop-i : goal.invariant-loop-i
invariant-loop-i l = AllPairs (λ p q. p < q) (take l.i l.part) × All (λ p. p < l.count) (take l.i l.part)
