-- The outcome of a search over all useful paths: what it prints, its two values and its status.
use Rattle.std.specs.Prelude.{◌≡◌, ◌↔◌, ◌≤◌, ◌+◌, ◌*◌, ℕ, true, List, [], Contains, None, pos}
use Rattle.npp_frac.specs.Rational.{Rational, whole, ◌≤ℚ◌}
use Rattle.npp_rows.specs.declared.mark.Mark.{Mark}
use Rattle.npp_rows.specs.Parts.{IsAllowed, all_paths, is_full}
use Rattle.npp_rows.specs.Basic.{basic_of}
use Rattle.npp_rows.specs.Response.{Reply, reply}
use Rattle.npp_inverse.specs.Work.{AtMark, IsQuiet}
use Rattle.npp_tree.specs.declared.node.Evidence.TheVariants.{Basic}
use Rattle.npp_tree.specs.declared.outcome.Status.TheVariants.{Optimal, Budget, Overflow}
use Rattle.npp_tree.specs.Bounds.{BoundValue, At, at_whole, IsAbove}
use Rattle.npp_tree.specs.Family.{Family, choice_count}
use Rattle.npp_tree.specs.Outcome.{OutcomeValue}
use Rattle.npp_tree.specs.Tree.{Node, Placed, preorder, nodes_below, IsTreeBound}
use Rattle.npp_start.specs.Start.{start_tolls}
use Rattle.npp_start.specs.Walks.{reply_lines}
use Rattle.npp_search.specs.Problem.{Problem, work_on}
use Rattle.npp_search.specs.Grown.{Task, Growth, IsGrown, IsBestFirst, Earns, IsLive, OfTree, nodes_of}

-- ---- where a search begins

-- what the first tolls earn: the best under which each commodity takes its first useful path, and zero tolls where the program
-- of that choice is not quiet
abbrev pub start_value : Problem → Rational
start_value P = (reply P.paths (start_tolls P.limit P.paths)).revenue

-- the basic bound of an instance: that of all its useful paths
abbrev pub whole_bound : Problem → BoundValue
whole_bound P = at_whole (basic_of P.paths (all_paths P.paths))

-- the search over all paths for more than the start value
abbrev pub whole_task : Problem → ℕ → Task
whole_task P budget = record { family = all_paths P.paths; bound = whole_bound P; lower = start_value P; budget = budget }

-- ---- the outcome

-- the printed tolls are from 0 to the caps, the reply to them earns the lower value, and the lines are those of the reply
pub record IsReport (P : Problem) (o : OutcomeValue) : Type 0 where
  pub response : Reply
  pub earns : Earns P o.lower (record { tolls = o.tolls; reply = response })
  pub lines : o.paths ≡ reply_lines P.paths response

-- some node is live
abbrev pub SomeIsLive : List (Placed Node) → Rational → Type 0
SomeIsLive nodes lower = (p : Placed Node) × Contains nodes p × IsLive lower p

-- Optimal exactly where the two values are equal; Budget exactly where a node is live, and then the budget is spent; so Overflow
-- in the remaining case
pub record IsStatus (nodes : List (Placed Node)) (budget : ℕ) (o : OutcomeValue) : Type 0 where
  pub optimal : (o.status ≡ Optimal) ↔ (o.lower ≡ o.upper)
  pub stopped : (o.status ≡ Budget) ↔ SomeIsLive nodes o.lower
  pub spent : o.status ≡ Budget → o.opened ≡ budget

-- the outcome shows what a search grew
pub record Shows (P : Problem) (budget : ℕ) (nodes : List (Placed Node)) (g : Growth) (o : OutcomeValue) : Type 0 where
  pub entries : o.entries ≡ preorder g.tree
  pub opened : o.opened ≡ g.opened
  pub lower : o.lower ≡ g.lower
  pub cuts : o.cuts ≡ []
  pub report : IsReport P o
  pub upper : IsTreeBound o.entries (At o.upper)
  pub status : IsStatus nodes budget o

-- a grown outcome: it shows what was grown from all paths
pub record IsGrownOutcome (P : Problem) (budget : ℕ) (o : OutcomeValue) : Type 0 where
  pub growth : Growth
  pub grown : IsGrown P (whole_task P budget) growth
  pub shows : Shows P budget (nodes_of P (whole_task P budget) growth) growth o

-- it is grown best first
abbrev pub IsOutcomeBestFirst : Problem → OutcomeValue → Type 0
IsOutcomeBestFirst P o = OfTree o.entries (λ tree. IsBestFirst (nodes_below P.paths (all_paths P.paths) (whole_bound P) tree) o.lower)

-- ---- what follows from it

-- the inverse program of each choice is quiet
abbrev pub AreAllQuiet : Problem → Type 0
AreAllQuiet P = (family : Family) → IsAllowed P.paths family → is_full family ≡ true → IsQuiet (work_on P family)

-- Optimal must come where the budget reaches twice the number of choices less one, and all their programs are quiet
abbrev pub MustBeOptimal : Problem → ℕ → OutcomeValue → Type 0
MustBeOptimal P budget o = 2 * choice_count (all_paths P.paths) ≤ budget + 1 → AreAllQuiet P → o.status ≡ Optimal

-- a leaf above the lower value is then a full choice with the mark of its program
pub record IsLoudChoice (P : Problem) (p : Placed Node) : Type 0 where
  pub full : is_full p.family ≡ true
  pub mark : Mark
  pub marked : p.node.evidence ≡ Basic mark
  pub loud : work_on P p.family ≡ AtMark mark

-- where no node is live, each leaf above the lower value is a full choice that is not quiet
abbrev pub LeavesAreLoud : Problem → List (Placed Node) → Rational → Type 0
LeavesAreLoud P nodes lower = (p : Placed Node) → Contains nodes p → p.division ≡ None → IsAbove p.node.bound lower → IsLoudChoice P p

-- under Overflow
abbrev pub OverflowIsLoud : Problem → OutcomeValue → Type 0
OverflowIsLoud P o = o.status ≡ Overflow → OfTree o.entries (λ tree. LeavesAreLoud P (nodes_below P.paths (all_paths P.paths) (whole_bound P) tree) o.lower)

-- the lower value is at least the start value, and the upper value at most the basic bound
pub record IsBetween (P : Problem) (o : OutcomeValue) : Type 0 where
  pub floor : start_value P ≤ℚ o.lower
  pub ceiling : o.upper ≤ℚ whole (pos (basic_of P.paths (all_paths P.paths)))
