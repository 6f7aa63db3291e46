use Rattle.std.proofs.Common.{◌≡◌, map, take}
use Rattle.npp_rows.specs.Meaning.{multiplier_value}
use Rattle.npp_leaf.specs.PositiveMultipliers.{positive_multipliers}
use Rattle.npp_leaf.proofs.positive.positive_multipliers.Given as goal

abbrev pub invariant-loop-i : goal.invariant-loop-i
invariant-loop-i g l = map (multiplier_value g.N.Exact.rational) l.named.items ≡ positive_multipliers (take l.i l.rows) (take l.i (map g.N.Exact.rational l.values))
