use Rattle.std.proofs.Common.{All, subst}
use Rattle.std.proofs.lemmas.List.{take_all}
use Rattle.std.proofs.lemmas.List.Elements.{All-more}
use Rattle.npp_tree.specs.Items.{HasShortLists}
use Rattle.npp_search_tests.proofs.certificate.are_short.Goals as goal

pub loop-item-preserved : goal.loop-item-preserved
loop-item-preserved c =
    All-more HasShortLists c.args.items.now c.loop-item.item-index c.item-item.result c.loop-item-test.true c.loop-item.invariant
    (subst HasShortLists c.item-item.is (c.is_short.ensures c.if-not-is_short.false))

pub returns : goal.returns
returns c = λ t.
    subst (λ xs. All HasShortLists xs) (take_all c.loop-item.item-index c.args.items.now c.loop-item-test.false) c.loop-item.invariant
