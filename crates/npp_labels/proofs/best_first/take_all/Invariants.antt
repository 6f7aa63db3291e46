use Rattle.std.proofs.Common.{◌≡◌, ◌-◌, length}
use Rattle.npp_short.specs.Reach.{cost_at}
use Rattle.npp_labels.proofs.Searching.{IsSearching}
use Rattle.npp_labels.proofs.best_first.take_all.Given as goal

abbrev pub invariant-loop-family : goal.invariant-loop-family
invariant-loop-family l =
    (l.family.nodes ≡ l.instance.nodes) × IsSearching l.instance l.fn.pair l.free (cost_at l.potentials) l.needed l.family.labels l.pending

abbrev pub decreases-loop-family : goal.decreases-loop-family
decreases-loop-family l = 65536 - length l.family.labels
