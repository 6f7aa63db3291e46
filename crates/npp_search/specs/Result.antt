-- What a search from a node is asked, and what its answer stands for.
use Rattle.std.specs.Prelude.{ℕ, map, option_map}
use Rattle.npp_frac.specs.Rational.{Rational}
use Rattle.npp_frac.specs.Wide.{value_of_wide}
use Rattle.npp_tree.specs.Bounds.{BoundValue}
use Rattle.npp_tree.specs.Family.{Family}
use Rattle.npp_tree.specs.Outcome.{entry_value}
use Rattle.npp_leaf.specs.Found.{best_value}
use Rattle.npp_search.specs.declared.grown.Grown.{Grown}
use Rattle.npp_search.specs.Grown.{Task, GrownValue}

abbrev pub task_of : Family → BoundValue → Rational → ℕ → Task
task_of family bound lower budget = record { family = family; bound = bound; lower = lower; budget = budget }

abbrev pub grown_value : {N : Type 0} → (N → Rational) → Grown N → GrownValue
grown_value value g = record {
  opened = g.opened;
  entries = map (entry_value value) g.tree.nodes;
  lower = value_of_wide g.lower;
  best = option_map (best_value value) g.best;
}
