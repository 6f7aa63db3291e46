use Rattle.std.proofs.Common.{List, All, subst}
use Rattle.std.proofs.lemmas.List.{take_all}
use Rattle.std.proofs.lemmas.List.Elements.{All-more}
use Rattle.npp_tree.specs.declared.item.Item.{Item}
use Rattle.npp_tree.specs.Items.{HasShortLists}
use Rattle.npp_leaf_tests.proofs.certificates.are_short.Goals as goal

pub loop-item-preserved : goal.loop-item-preserved
loop-item-preserved g c =
    let short = λ (x : Item g.row.N.Denot). HasShortLists x in
    All-more short c.args.items.now c.loop-item.item-index c.item-item.result c.loop-item-test.true c.loop-item.invariant
    (subst short c.item-item.is (c.is_short.ensures c.if-not-is_short.false))

pub returns : goal.returns
returns g c = λ t.
    subst (λ (xs : List (Item g.row.N.Denot)). All HasShortLists xs) (take_all c.loop-item.item-index c.args.items.now c.loop-item-test.false) c.loop-item.invariant
