use Rattle.npp_cover.proofs.BlockLemmas.{puts_at}
use Rattle.npp_cover.proofs.blocks.put_at.Goals as goal

pub returns-clause-answers : goal.returns-clause-answers
returns-clause-answers c =
    puts_at c.args.blocks.now.items c.args.at c.index_mut-block.result.now (record { key = c.index_mut-block.result.now.key; pairs = c.put_pair.new.pairs }) c.args.pair
    c.requires.at c.index_mut-block.ensures.value c.in_ok-more.ensures.answers
