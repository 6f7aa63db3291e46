use Rattle.slab.specs.Slab.{slab_len}
use Rattle.npp_tree.proofs.FreezeLaws.{IsFreezing}
use Rattle.npp_tree.proofs.grow.GrowTree.freeze.Given as goal

-- what was taken out are the first nodes of the tree, and the rest is still there
abbrev pub invariant-loop-key : goal.invariant-loop-key
invariant-loop-key g l = IsFreezing g.N.Exact.rational l.nodes l.waiting.items l.frozen.items l.fn.self

abbrev pub decreases-loop-key : goal.decreases-loop-key
decreases-loop-key g l = slab_len l.nodes
