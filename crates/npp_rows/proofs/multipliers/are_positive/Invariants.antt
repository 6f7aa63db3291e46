use Rattle.std.proofs.Common.{◌≡◌, true, take}
use Rattle.std.specs.List.{list_all}
use Rattle.npp_frac.specs.Rational.{zero_ℚ, is_less}
use Rattle.npp_rows.specs.declared.names.Multiplier.{Multiplier}
use Rattle.npp_rows.proofs.multipliers.are_positive.Given as goal

abbrev pub invariant-loop-multiplier : goal.invariant-loop-multiplier
invariant-loop-multiplier g l = list_all (λ (y : Multiplier g.row.N.Denot). is_less zero_ℚ (g.N.Exact.rational y.value)) (take l.multiplier-index l.multipliers) ≡ true
