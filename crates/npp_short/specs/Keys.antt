-- The keys of the queue of nodes.
use Rattle.std.specs.Prelude.{ℕ}
use Rattle.std.specs.Ordering.{nat_cmp, ordering_then}
use Rattle.std.specs.declared.cmp.Ordering.{Ordering}
use Rattle.std.specs.declared.cmp.Reverse.{Reverse}
use Rattle.npp_net.specs.declared.types.NodeId.{NodeId}
use Rattle.npp_short.specs.declared.reach.Reach.{Reach}

-- the node and the reach of a key, which has the cost, the number of arcs and the node
abbrev pub waiting_of : Reverse (ℕ × ℕ × ℕ) → NodeId × Reach
waiting_of k = (record { 0 = k.0.2 }, record { cost = k.0.0; arcs = k.0.1 })

-- the order of the heap, which gives its greatest: by cost, number of arcs and node, turned round
abbrev pub key_cmp : Reverse (ℕ × ℕ × ℕ) → Reverse (ℕ × ℕ × ℕ) → Ordering
key_cmp x y = ordering_then (ordering_then (nat_cmp y.0.0 x.0.0) (nat_cmp y.0.1 x.0.1)) (nat_cmp y.0.2 x.0.2)
