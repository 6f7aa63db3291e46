use Rattle.std.proofs.Common.{All}
use Rattle.npp_tree.specs.Items.{HasShortLists}
use Rattle.npp_certificate_tests.proofs.items.items_of.Given as goal

-- the lists of the items so far are short
abbrev pub invariant-loop-line : goal.invariant-loop-line
invariant-loop-line g l = All HasShortLists l.items.items
