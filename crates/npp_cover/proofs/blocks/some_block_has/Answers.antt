use Rattle.std.proofs.Common.{◌-◌, sym, ◌∙◌, arith}
use Rattle.npp_cover.proofs.BlockLemmas.{none_from}
use Rattle.npp_cover.proofs.blocks.some_block_has.Goals as goal

pub loop-after-preserved : goal.loop-after-preserved
loop-after-preserved c = (
  omega (arith, c.loop-after.invariant.0),
  none_from c.args.blocks.now (c.loop-after.after - 1) c.loop-after.after c.args.tolls c.args.cost c.index-blocks-after.result (omega (arith, c.loop-after-test.true))
      (omega (arith, c.loop-after.invariant.0, c.loop-after-test.true)) c.index-blocks-after.is (sym c.block_has.ensures ∙ c.if-block_has.false) c.loop-after.invariant.1,
)
