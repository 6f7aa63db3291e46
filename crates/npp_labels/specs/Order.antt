-- The order in which labels that wait are taken.
use Rattle.std.specs.Prelude.{◌≡◌, ◌≤◌}
use Rattle.std.specs.Ordering.{nat_cmp, ordering_then}
use Rattle.std.specs.declared.cmp.Ordering.{Ordering}
use Rattle.std.specs.declared.cmp.Reverse.{Reverse}
use Rattle.npp_labels.specs.declared.pending.Pending.{Pending}

-- what waits under a key of the heap
abbrev pub waiting_of : Reverse Pending → Pending
waiting_of k = k.0

-- the order of the heap, which gives its greatest: that of the fields, turned round
abbrev pub key_cmp : Reverse Pending → Reverse Pending → Ordering
key_cmp x y =
    ordering_then (nat_cmp y.0.bound x.0.bound)
    (ordering_then (nat_cmp y.0.size x.0.size)
    (ordering_then (nat_cmp y.0.cost x.0.cost)
    (ordering_then (nat_cmp y.0.node x.0.node)
    (ordering_then (nat_cmp y.0.set x.0.set)
    (ordering_then (nat_cmp y.0.parent x.0.parent) (ordering_then (nat_cmp y.0.arc x.0.arc) (nat_cmp y.0.left x.0.left)))))))

-- a lower bound, or the same and no more tolls
pub record IsNoLater (p q : Pending) : Type 0 where
  pub bound : p.bound ≤ q.bound
  pub size : p.bound ≡ q.bound → p.size ≤ q.size
