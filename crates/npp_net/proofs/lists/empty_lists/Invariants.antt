use Rattle.std.proofs.Common.{◌≡◌, ◌≤◌, ◌-◌, [], All, vec_len}
use Rattle.npp_net.proofs.lists.empty_lists.Given as goal

abbrev pub invariant-loop-alloc : goal.invariant-loop-alloc
invariant-loop-alloc g l = All (λ list. list.items ≡ []) l.lists.items × (vec_len l.lists ≤ l.nodes)

abbrev pub decreases-loop-alloc : goal.decreases-loop-alloc
decreases-loop-alloc g l = l.nodes - vec_len l.lists
