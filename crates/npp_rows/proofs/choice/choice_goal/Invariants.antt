use Rattle.std.proofs.Common.{◌≡◌, map}
use Rattle.std.specs.List.{range_with_len}
use Rattle.npp_rows.specs.declared.names.ColumnName.TheVariants.{Toll}
use Rattle.npp_rows.specs.Inverse.{revenue_goal}
use Rattle.npp_rows.proofs.choice.choice_goal.Given as goal

abbrev pub invariant-loop-toll : goal.invariant-loop-toll
invariant-loop-toll g l = map g.N.Exact.rational l.goal.items ≡ map (λ a. revenue_goal l.table l.choice (Toll a)) (range_with_len 0 l.toll)
