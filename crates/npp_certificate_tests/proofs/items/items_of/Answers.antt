use Rattle.std.proofs.Common.{List, All, sym, subst}
use Rattle.npp_tree.specs.declared.item.Item.{Item}
use Rattle.npp_tree.specs.Items.{HasShortLists}
use Rattle.npp_certificate_tests.proofs.ItemLemmas.{short_with_last}
use Rattle.npp_certificate_tests.proofs.items.items_of.Goals as goal

pub loop-line-preserved : goal.loop-line-preserved
loop-line-preserved g c =
    subst (λ (items : List (Item g.row.N.Denot)). All HasShortLists items) (sym c.in_ok-push.ensures.items)
    (short_with_last c.loop-line.items.items c.in_ok-item.item c.loop-line.invariant c.in_ok-item.ensures)
