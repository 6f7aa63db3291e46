use Rattle.std.proofs.lemmas.List.Sorted.{IsPermutation-map}
use Rattle.npp_labels.specs.Order.{waiting_of}
use Rattle.npp_labels.proofs.OrderLemmas.{greatest_is_first}
use Rattle.npp_labels.proofs.queue.Queue.pop.Goals as goal

pub returns : goal.returns
returns c =
    let told = c.in_ok-first.ensures in
    rw (← c.self.view_is) (
      IsPermutation-map waiting_of _ _ told.permutation,
      greatest_is_first c.in_ok-first.field-0 _ (told.heap_order c.self.invariant).1,
    )
