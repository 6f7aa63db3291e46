use Rattle.std.proofs.Common.{◌≡◌}
use Rattle.npp_cover.specs.Paths.{ranks_at}
use Rattle.npp_cover.proofs.paths.ranks_at.Given as goal

abbrev pub invariant-loop-number : goal.invariant-loop-number
invariant-loop-number l = l.ranks.items ≡ ranks_at l.labels l.node.0 l.number
