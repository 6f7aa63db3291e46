use Rattle.std.proofs.lemmas.List.Sorted.{IsPermutation-map}
use Rattle.npp_short.specs.Keys.{waiting_of}
use Rattle.npp_short.proofs.KeyOrder.{greatest_is_nearest}
use Rattle.npp_short.proofs.queue.Queue.pop.Goals as goal

pub returns : goal.returns
returns c =
    let told = c.in_ok-cost.ensures in
    rw (← c.self.view_is) (
      IsPermutation-map waiting_of _ _ told.permutation,
      greatest_is_nearest c.in_ok-cost.field-0 _ (told.heap_order c.self.invariant).1,
    )
