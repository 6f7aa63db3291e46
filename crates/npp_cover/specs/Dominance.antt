-- What a table of labels answers: whether one of those put in dominates.
use Rattle.std.specs.Prelude.{◌≡◌, ℕ, ◌<◌, Bool, List, [], ◌∷◌, ◌++◌, length, slice_index_or}
use Rattle.npp_cover.specs.declared.label.Label.{Label}
use Rattle.npp_cover.specs.declared.blocks.Pair.{Pair}
use Rattle.npp_cover.specs.Blocks.{some_no_worse}
use Rattle.npp_cover.specs.Fault.{is_dominated}

-- what a table holds: for each node the sets and costs of labels there
abbrev pub TableValue : Type 0
TableValue = List (List Pair)

-- how many nodes a table has
abbrev pub nodes_of : TableValue → ℕ
nodes_of table = length table

-- whether a label in the table, at v, has a set within this one and a cost not above
abbrev pub answer_of : TableValue → ℕ → ℕ → ℕ → Bool
answer_of table v s cost = some_no_worse (slice_index_or table v []) s cost

-- at each node it answers whether one of these labels dominates
pub record AnswersFor (labels : List Label) (table : TableValue) : Type 0 where
  pub each : (v s cost : ℕ) → v < nodes_of table → answer_of table v s cost ≡ is_dominated labels v s cost

-- one label was put in: with whichever labels before, it now answers for these and this one
pub record PutsIn (l : Label) (old new : TableValue) : Type 0 where
  pub nodes : nodes_of new ≡ nodes_of old
  pub answers : (labels : List Label) → AnswersFor labels old → AnswersFor (labels ++ l ∷ []) new
