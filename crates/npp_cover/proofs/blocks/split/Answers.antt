use Rattle.std.proofs.Common.{◌≡◌, List, subst, sym}
use Rattle.npp_cover.specs.declared.blocks.Pair.{Pair}
use Rattle.npp_cover.specs.declared.blocks.Block.{Block}
use Rattle.npp_cover.specs.Blocks.{AllHave, AreKeyed, SameAnswers, IsParted}
use Rattle.npp_cover.proofs.BlockLemmas.{split_answers}
use Rattle.npp_cover.proofs.PartLemmas.{keyed_with, split_keyed, keyed_at, get_or_at}
use Rattle.npp_cover.proofs.blocks.split.Goals as goal

pub returns-in_ok-push-clause-answers : goal.returns-in_ok-push-clause-answers
returns-in_ok-push-clause-answers c =
    let parts : IsParted c.in-Some.toll.0 c.index-block.result.now.pairs.items c.in_ok-with.field-0.with.items c.in_ok-with.field-0.without.items =
    subst (λ (xs : List Pair). IsParted c.in-Some.toll.0 xs c.in_ok-with.field-0.with.items c.in_ok-with.field-0.without.items) c.deref-in-Some.ensures.value c.in_ok-with.ensures in
    subst (λ (xs : List Block). SameAnswers c.args.blocks.now.items xs) (sym c.in_ok-push.ensures.items)
    (split_answers c.args.blocks.now.items c.args.at c.index-block.result.now (record { key = c.index_mut.result.now.key; pairs = c.in_ok-with.field-0.without })
    (record { key = c.with-key.result; pairs = c.in_ok-with.field-0.with }) c.requires.at c.index-block.ensures parts.answers)

pub returns-in_ok-push-clause-keyed : goal.returns-in_ok-push-clause-keyed
returns-in_ok-push-clause-keyed c =
    let parts : IsParted c.in-Some.toll.0 c.index-block.result.now.pairs.items c.in_ok-with.field-0.with.items c.in_ok-with.field-0.without.items =
    subst (λ (xs : List Pair). IsParted c.in-Some.toll.0 xs c.in_ok-with.field-0.with.items c.in_ok-with.field-0.without.items) c.deref-in-Some.ensures.value c.in_ok-with.ensures in
    let had = keyed_at c.args.blocks.now.items c.args.at c.index-block.result.now c.requires.keyed c.requires.at c.index-block.ensures in
    let same : c.index_mut.result.now ≡ c.index-block.result.now = get_or_at c.args.blocks.now.items c.args.at c.index_mut.result.now c.index-block.result.now c.requires.at
    c.index_mut.ensures.value c.index-block.ensures in
    let stays : AllHave c.index_mut.result.now.key c.in_ok-with.field-0.without.items =
    subst (λ (b : Block). AllHave b.key c.in_ok-with.field-0.without.items) (sym same) (parts.keys_without c.index-block.result.now.key had) in
    subst (λ (xs : List Block). AreKeyed xs) (sym c.in_ok-push.ensures.items)
    (split_keyed c.args.blocks.now.items c.args.at (record { key = c.index_mut.result.now.key; pairs = c.in_ok-with.field-0.without })
    (record { key = c.with-key.result; pairs = c.in_ok-with.field-0.with }) c.requires.keyed stays
    (keyed_with c.index-block.result.now.key c.with-key.result c.in-Some.toll.0 c.index-block.result.now.pairs.items c.in_ok-with.field-0.with.items c.in_ok-with.field-0.without.items
    c.with-key.ensures.others had parts))
