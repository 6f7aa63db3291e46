use Rattle.std.proofs.Common.{ℕ, ◌<◌}
use Rattle.npp_search.specs.Rule.{HasSeveral}
use Rattle.npp_search.proofs.division.first_several.Given as goal

-- no commodity that was seen has several paths
abbrev pub invariant-loop-k : goal.invariant-loop-k
invariant-loop-k l = (j : ℕ) → j < l.k → HasSeveral l.parts j → ⊥
