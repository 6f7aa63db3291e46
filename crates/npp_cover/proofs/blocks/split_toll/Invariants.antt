use Rattle.std.proofs.Common.{◌<◌, IfSome}
use Rattle.npp_cover.proofs.blocks.split_toll.Given as goal

abbrev pub invariant-loop-number : goal.invariant-loop-number
invariant-loop-number l = IfSome l.chosen (λ t. t.0 < 128)
