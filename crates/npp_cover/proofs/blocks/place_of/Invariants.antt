use Rattle.std.proofs.Common.{◌≤◌, length}
use Rattle.npp_cover.proofs.blocks.place_of.Given as goal

abbrev pub invariant-loop-after : goal.invariant-loop-after
invariant-loop-after l = l.after ≤ length l.blocks

abbrev pub decreases-loop-after : goal.decreases-loop-after
decreases-loop-after l = l.after
