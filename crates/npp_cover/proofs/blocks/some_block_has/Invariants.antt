use Rattle.std.proofs.Common.{◌≡◌, ◌≤◌, false, drop, length}
use Rattle.npp_cover.specs.Blocks.{blocks_answer}
use Rattle.npp_cover.proofs.blocks.some_block_has.Given as goal

-- none of the blocks from here on has such a pair
abbrev pub invariant-loop-after : goal.invariant-loop-after
invariant-loop-after l = (l.after ≤ length l.blocks) × (blocks_answer (drop l.after l.blocks) l.tolls l.cost ≡ false)

abbrev pub decreases-loop-after : goal.decreases-loop-after
decreases-loop-after l = l.after
