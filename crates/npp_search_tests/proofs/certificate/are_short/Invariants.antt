use Rattle.std.proofs.Common.{take, All}
use Rattle.npp_tree.specs.Items.{HasShortLists}
use Rattle.npp_search_tests.proofs.certificate.are_short.Given as goal

abbrev pub invariant-loop-item : goal.invariant-loop-item
invariant-loop-item l = All HasShortLists (take l.item-index l.items)
