-- One turn of a search: a live node is opened, the lower value may rise, and the node may be split.
use Rattle.std.specs.Prelude.{◌≡◌, ◌⊎◌, ◌+◌, ◌<◌, true, false, List, count_by, Contains, Option, IfSome, IfNone, MatchOption}
use Rattle.npp_frac.specs.Rational.{Rational, ◌≤ℚ◌}
use Rattle.npp_tree.specs.Bounds.{BoundValue, IsAbove, IsAtMost}
use Rattle.npp_tree.specs.Family.{Division, Divides}
use Rattle.npp_search.specs.Problem.{Problem}
use Rattle.npp_search.specs.Rule.{IsByRule, shares_found}
use Rattle.npp_tree.specs.Tree.{Node, Placed, bound_after, was_opened}
use Rattle.npp_search.specs.Grown.{Task, Growth, IsEvidence, IsSettled, IsUnopenedNode, IsLive, Earned, EarnsMore, nodes_of}

-- among the nodes of a tree, one is now opened; children below it may have joined
pub record Opens (old new : List (Placed Node)) (was now : Placed Node) (children : List (Placed Node)) : Type 0 where
  pub there : Contains old was
  pub here : Contains new now
  pub each : (q : Placed Node) → Contains new q → (q ≡ now) ⊎ (Contains children q ⊎ Contains old q)
  pub kept : (q : Placed Node) → Contains old q → (q ≡ was) ⊎ Contains new q
  pub count : count_by was_opened new ≡ count_by was_opened old + 1
  pub family : now.family ≡ was.family
  pub before : now.before ≡ was.before
  pub opened : was_opened now ≡ true

-- the value is raised to what the node earned, where that is more
pub record IsRaised (P : Problem) (now : Placed Node) (old new : Rational) : Type 0 where
  pub no_less : old ≤ℚ new
  pub earned : (v : Rational) → Earned P now v → v ≤ℚ new
  pub by : (new ≡ old) ⊎ Earned P now new

-- a node is split as the rule says, at a bound above the value
pub record SplitsAbove (P : Problem) (lower : Rational) (p : Placed Node) (d : Division) : Type 0 where
  pub divides : Divides p.family d
  pub rule : IsByRule p.family (shares_found P p.family) d
  pub above : IsAbove p.node.bound lower

-- the children of a node are leaves that were not opened, and their bounds are at most its own
pub record IsChild (p q : Placed Node) : Type 0 where
  pub unopened : was_opened q ≡ false
  pub leaf : IsUnopenedNode q
  pub bound : IsAtMost q.node.bound p.node.bound

pub record IsTurn (P : Problem) (task : Task) (old new : Growth) : Type 0 where
  pub was : Placed Node
  pub now : Placed Node
  pub children : List (Placed Node)
  pub opens : Opens (nodes_of P task old) (nodes_of P task new) was now children
  pub live : IsLive old.lower was
  pub room : old.opened < task.budget
  pub opened : new.opened ≡ old.opened + 1
  pub value : Option BoundValue
  pub evidence : IsEvidence P now.family now.node.evidence value
  pub bound : now.node.bound ≡ bound_after now.before value
  pub lower : IsRaised P now old.lower new.lower
  pub best : MatchOption new.best (new.lower ≡ task.lower) (EarnsMore P task.lower new.lower)
  pub split : IfSome now.division (SplitsAbove P new.lower now)
  pub leaf : IfNone now.division (IsSettled new.lower now)
  pub each_child : (q : Placed Node) → Contains children q → IsChild now q

-- the node that is opened has the greatest bound of those that are live
abbrev pub OpensGreatest : List (Placed Node) → Rational → Placed Node → Type 0
OpensGreatest nodes lower was = (q : Placed Node) → Contains nodes q → IsLive lower q → IsAtMost q.node.bound was.node.bound
