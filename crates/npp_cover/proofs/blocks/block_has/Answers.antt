use Rattle.std.proofs.Common.{sym, ◌∙◌}
use Rattle.std.proofs.lemmas.Bool.{false≢true}
use Rattle.npp_cover.proofs.BlockLemmas.{apart}
use Rattle.npp_cover.proofs.blocks.block_has.Goals as goal

pub returns-else-is_within : goal.returns-else-is_within
returns-else-is_within c =
    c.if-is_within.false
    ∙ sym (apart c.args.block.now.key c.args.tolls c.args.cost c.args.block.now.pairs.items c.requires
    (λ within. false≢true (sym c.if-is_within.false ∙ c.is_within.ensures.1 within)))
