use Rattle.std.proofs.Common.{◌≡◌, map}
use Rattle.npp_rows.specs.Relax.{paid_goal}
use Rattle.npp_rows.proofs.RelaxedGoals.{columns_below}
use Rattle.npp_rows.proofs.relaxed.goal_of.Given as goal

abbrev pub invariant-loop-k : goal.invariant-loop-k
invariant-loop-k g l = map g.N.Exact.rational l.goal.items ≡ map (paid_goal l.index.paths) (columns_below l.index.paths l.index.parts l.k)
