-- What a search grew from a node: the points that each turn keeps, and those that hold where it ends.
use Rattle.std.specs.Prelude.{◌≡◌, ◌⊎◌, ℕ, ◌*◌, ◌<◌, ◌≤◌, ◌↔◌, true, false, List, length, count_by, Contains, Option, Some, None, IfSome, IfNone, MatchOption, MatchBool}
use Rattle.npp_frac.specs.Rational.{Rational, ◌≤ℚ◌, ◌<ℚ◌}
use Rattle.npp_rows.specs.declared.mark.Mark.{Mark}
use Rattle.npp_rows.specs.Parts.{is_full}
use Rattle.npp_rows.specs.Named.{numbered}
use Rattle.npp_rows.specs.Response.{Reply}
use Rattle.npp_inverse.specs.Work.{Ending, AtPoint, AtMark}
use Rattle.npp_inverse.specs.Best.{AreWithinCaps}
use Rattle.npp_tree.specs.declared.node.Evidence.{Evidence}
use Rattle.npp_tree.specs.declared.node.Evidence.TheVariants.{Basic}
use Rattle.npp_tree.specs.Bounds.{BoundValue, IsAbove, IsUpTo, IsAtMost}
use Rattle.npp_tree.specs.Evidence.{IsOfKind}
use Rattle.npp_tree.specs.Family.{Family, Division, Divides, choice_count}
use Rattle.npp_tree.specs.Points.{tolls_of}
use Rattle.npp_tree.specs.Tree.{was_opened, bound_after, Node, Tree, Placed, Entry, nodes_below, preorder}
use Rattle.npp_leaf.specs.Found.{BestTolls}
use Rattle.npp_leaf.specs.Passes.{Passes, IsOptimal}
use Rattle.npp_search.specs.Problem.{Problem, program_of, work_on, reply_to}
use Rattle.npp_search.specs.Rule.{IsByRule, shares_found}

-- what a search is asked: to open at most so many nodes below a family and a bound, and to find more than a lower value
pub record Task : Type 0 where
  pub family : Family
  pub bound : BoundValue
  pub lower : Rational
  pub budget : ℕ

-- what it grew: the tree, how many nodes it opened, the greatest value that it found, and the tolls that earn it where that is
-- more than was given
pub record Growth : Type 0 where
  pub tree : Tree Node
  pub opened : ℕ
  pub lower : Rational
  pub best : Option BestTolls

abbrev pub nodes_of : Problem → Task → Growth → List (Placed Node)
nodes_of P task g = nodes_below P.paths task.family task.bound g.tree

-- ---- one node

-- the evidence of an opened node: its multipliers pass the check of the node's program, and its value is the optimum; a mark
-- stands exactly where the work on that program ends with it, and then there is no value
pub record IsEvidence (P : Problem) (family : Family) (e : Evidence Rational) (value : Option BoundValue) : Type 0 where
  pub kind : IsOfKind (is_full family) e
  pub marked : (m : Mark) → (e ≡ Basic m) ↔ (work_on P family ≡ AtMark m)
  pub passes : Passes P.limit (program_of P family) e value
  pub optimum : IfSome value (IsOptimal (numbered (program_of P family)))

-- a node that is split: into parts of what it allows, as the rule says, at a bound above the given lower value
pub record IsSplit (P : Problem) (task : Task) (p : Placed Node) (d : Division) : Type 0 where
  pub divides : Divides p.family d
  pub rule : IsByRule p.family (shares_found P p.family) d
  pub above : IsAbove p.node.bound task.lower

-- an opened leaf: its bound is at most the lower value, or it is a full choice
abbrev pub IsSettled : Rational → Placed Node → Type 0
IsSettled lower p = IsUpTo p.node.bound lower ⊎ (is_full p.family ≡ true)

-- a node that was opened: only at a bound above the given lower value
pub record IsOpenedNode (P : Problem) (task : Task) (lower : Rational) (p : Placed Node) : Type 0 where
  pub above : IsAbove p.before task.lower
  pub value : Option BoundValue
  pub evidence : IsEvidence P p.family p.node.evidence value
  pub bound : p.node.bound ≡ bound_after p.before value
  pub split : IfSome p.division (IsSplit P task p)
  pub leaf : IfNone p.division (IsSettled lower p)

-- a node that was not opened: a leaf
pub record IsUnopenedNode (p : Placed Node) : Type 0 where
  pub bound : p.node.bound ≡ p.before
  pub leaf : p.division ≡ None

abbrev pub IsNode : Problem → Task → Rational → Placed Node → Type 0
IsNode P task lower p = MatchBool (was_opened p) (IsOpenedNode P task lower p) (IsUnopenedNode p)

-- ---- the lower value

-- what work earns that ends so: the revenue of the reply to the tolls of the program's point, where there is one
pub record EarnsBy (P : Problem) (e : Ending) (v : Rational) : Type 0 where
  pub columns : List Rational
  pub multipliers : List Rational
  pub goal : Rational
  pub ends : e ≡ AtPoint columns multipliers goal
  pub response : Reply
  pub replied : reply_to P (tolls_of P.paths columns) ≡ Some response
  pub revenue : v ≡ response.revenue

-- what the opening of a node earned
pub record Earned (P : Problem) (p : Placed Node) (v : Rational) : Type 0 where
  pub opened : was_opened p ≡ true
  pub work : EarnsBy P (work_on P p.family) v

-- the greatest of a value and of those that the nodes earned
pub record IsGreatestEarned (P : Problem) (nodes : List (Placed Node)) (given v : Rational) : Type 0 where
  pub given_less : given ≤ℚ v
  pub nodes_less : (p : Placed Node) (w : Rational) → Contains nodes p → Earned P p w → w ≤ℚ v
  pub attained : (v ≡ given) ⊎ ((p : Placed Node) × Contains nodes p × Earned P p v)

-- tolls from 0 to the caps, with the reply to them, that earn this much
pub record Earns (P : Problem) (v : Rational) (b : BestTolls) : Type 0 where
  pub size : length b.tolls ≡ length P.paths.caps
  pub capped : AreWithinCaps P.paths b.tolls
  pub replied : reply_to P b.tolls ≡ Some b.reply
  pub revenue : b.reply.revenue ≡ v

-- and more than the given value
pub record EarnsMore (P : Problem) (given v : Rational) (b : BestTolls) : Type 0 where
  pub more : given <ℚ v
  pub earns : Earns P v b

-- ---- the whole

-- the points that hold after each turn of a search
pub record IsGrowing (P : Problem) (task : Task) (g : Growth) : Type 0 where
  pub nodes : (p : Placed Node) → Contains (nodes_of P task g) p → IsNode P task g.lower p
  pub opened : g.opened ≡ count_by was_opened (nodes_of P task g)
  pub within_budget : g.opened ≤ task.budget
  pub lower : IsGreatestEarned P (nodes_of P task g) task.lower g.lower
  pub best : MatchOption g.best (g.lower ≡ task.lower) (EarnsMore P task.lower g.lower)

-- a node that may still be opened: its bound is above the lower value
pub record IsLive (lower : Rational) (p : Placed Node) : Type 0 where
  pub unopened : was_opened p ≡ false
  pub above : IsAbove p.node.bound lower

abbrev pub NoneIsLive : List (Placed Node) → Rational → Type 0
NoneIsLive nodes lower = (p : Placed Node) → Contains nodes p → IsLive lower p → ⊥

-- a search ends where its budget is spent or no node is live
pub record IsGrown (P : Problem) (task : Task) (g : Growth) : Type 0 where
  pub growing : IsGrowing P task g
  pub ended : (g.opened ≡ task.budget) ⊎ NoneIsLive (nodes_of P task g) g.lower

-- best first: no node was opened whose bound before was less than that of a node that is live
abbrev pub IsBestFirst : List (Placed Node) → Rational → Type 0
IsBestFirst nodes lower = (p q : Placed Node) → Contains nodes p → Contains nodes q → was_opened p ≡ true → IsLive lower q
    → IsAtMost q.node.bound p.before

-- ---- what a search from a node answers

-- its tree is the nodes of a certificate
pub record GrownValue : Type 0 where
  pub opened : ℕ
  pub entries : List Entry
  pub lower : Rational
  pub best : Option BestTolls

-- the same with its tree
abbrev pub growth_with : GrownValue → Tree Node → Growth
growth_with g tree = record { tree = tree; opened = g.opened; lower = g.lower; best = g.best }

-- these are the nodes of a tree, in preorder, of which a fact holds
abbrev pub OfTree : List Entry → (Tree Node → Type 0) → Type 0
OfTree entries F = (tree : Tree Node) × (entries ≡ preorder tree) × F tree

-- it is grown as the task asks
abbrev pub IsGrownFrom : Problem → Task → GrownValue → Type 0
IsGrownFrom P task g = OfTree g.entries (λ tree. IsGrown P task (growth_with g tree))

-- it is grown best first
abbrev pub IsGrownBestFirst : Problem → Task → GrownValue → Type 0
IsGrownBestFirst P task g = OfTree g.entries (λ tree. IsBestFirst (nodes_below P.paths task.family task.bound tree) g.lower)

-- there are fewer nodes than twice the choices of the family
abbrev pub HasFewNodes : Family → List Entry → Type 0
HasFewNodes family entries = length entries < 2 * choice_count family
