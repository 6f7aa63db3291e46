use Rattle.std.proofs.Common.{◌≡◌, take}
use Rattle.npp_cover.specs.Dominance.{nodes_of, AnswersFor}
use Rattle.npp_cover.proofs.closed.table_of.Given as goal

-- the labels so far are in the table
abbrev pub invariant-loop-label : goal.invariant-loop-label
invariant-loop-label l = (nodes_of l.table ≡ l.fn.nodes) × AnswersFor (take l.label-index l.labels) l.table
