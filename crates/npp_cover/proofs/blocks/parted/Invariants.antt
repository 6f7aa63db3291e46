use Rattle.npp_cover.proofs.PartLemmas.{ArePartedSoFar}
use Rattle.npp_cover.proofs.blocks.parted.Given as goal

abbrev pub invariant-loop-pair : goal.invariant-loop-pair
invariant-loop-pair l = ArePartedSoFar l.toll.0 l.pairs l.pair-index l.with.items l.without.items
