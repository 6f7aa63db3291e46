use Rattle.std.proofs.Common.{◌≡◌, ◌<◌, ◌++◌, length, reverse}
use Rattle.npp_cover.specs.Paths.{walk_of}
use Rattle.npp_cover.proofs.paths.walk_of.Given as goal

-- the walk is what is left from here back to the start, and then the arcs so far from the last one back
abbrev pub invariant-loop-arc : goal.invariant-loop-arc
invariant-loop-arc l =
    (l.at < length l.labels) × (walk_of l.labels l.fn.number ≡ walk_of l.labels l.at ++ reverse l.arcs.items)

abbrev pub decreases-loop-arc : goal.decreases-loop-arc
decreases-loop-arc l = l.at
