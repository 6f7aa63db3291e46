use Rattle.std.proofs.Common.{take, All}
use Rattle.npp_tree.specs.Items.{HasShortLists}
use Rattle.npp_leaf_tests.proofs.certificates.are_short.Given as goal

-- the lists of the items so far are short
abbrev pub invariant-loop-item : goal.invariant-loop-item
invariant-loop-item g l = All HasShortLists (take l.item-index l.items)
