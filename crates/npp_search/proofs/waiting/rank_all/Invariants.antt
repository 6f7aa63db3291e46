use Rattle.std.proofs.Common.{◌≡◌, ◌++◌, length}
use Rattle.std.specs.List.Sorted.{IsPermutation}
use Rattle.npp_search.proofs.waiting.rank_all.Given as goal

-- no node was lost
abbrev pub invariant-loop-node : goal.invariant-loop-node
invariant-loop-node l = (l.ranked.order ≡ l.fn.order) × IsPermutation (l.fn.ranked.nodes ++ l.fn.listed) (l.ranked.nodes ++ l.listed)

abbrev pub decreases-loop-node : goal.decreases-loop-node
decreases-loop-node l = length l.listed
