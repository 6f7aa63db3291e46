use Rattle.std.proofs.lemmas.List.Sorted.{IsPermutation-map}
use Rattle.npp_labels.specs.Order.{waiting_of}
use Rattle.npp_labels.proofs.queue.Queue.push.Goals as goal

pub returns : goal.returns
returns c = rw (← c.self.view_is) (IsPermutation-map waiting_of _ _ c.in_ok-push.ensures.permutation)
