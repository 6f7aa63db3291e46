-- The order in which nodes that wait are taken.
use Rattle.std.specs.Prelude.{◌≡◌, ℕ, Bool, List, All, Option}
use Rattle.std.specs.Ordering.{nat_cmp, on, flip_args, then_cmp, as_partial_cmp, eq_by_cmp}
use Rattle.std.proofs.Common.{Ordering}
use Rattle.npp_frac.specs.Rational.{rational_cmp}
use Rattle.npp_frac.specs.Wide.{value_of_wide}
use Rattle.npp_search.specs.declared.picker.OpenNode.{OpenNode}
use Rattle.npp_search.specs.declared.picker.NodeOrder.{NodeOrder}
use Rattle.npp_search.specs.declared.picker.NodeOrder.TheVariants.{GreatestBound, GreatestDepth}
use Rattle.npp_search.specs.declared.waiting.Waiting.{Waiting}
use Rattle.npp_search.specs.declared.ranked.Ranked.{Ranked}
use Rattle.npp_search.specs.Picker.{IsBetterBound, IsDeeper}

-- one node comes no later than another, by an order
abbrev pub IsNoLater : NodeOrder → OpenNode → OpenNode → Type 0
IsNoLater GreatestBound n m = IsBetterBound n m
IsNoLater GreatestDepth n m = IsDeeper n m

-- it comes no later than any of a list
abbrev pub IsFirst : NodeOrder → List Waiting → Waiting → Type 0
IsFirst order waiting w = All (λ v. IsNoLater order w.seen v.seen) waiting

-- ---- in a heap

-- the level of a node: what counts before its bound
abbrev pub level_of : NodeOrder → OpenNode → ℕ
level_of GreatestBound n = 0
level_of GreatestDepth n = n.depth

abbrev pub node_of : Ranked → Waiting
node_of r = r.node

-- it has the level of its node
abbrev pub IsAtLevel : NodeOrder → Ranked → Type 0
IsAtLevel order r = r.level ≡ level_of order r.node.seen

-- the nodes of a heap and their order
pub record RankingValue : Type 0 where
  pub order : NodeOrder
  pub nodes : List Waiting

-- the greater is the one of the greater level, then the one with the greater bound, and then the one that was made first
abbrev pub ranked_cmp : Ranked → Ranked → Ordering
ranked_cmp =
    then_cmp (on (λ (r : Ranked). r.level) nat_cmp)
    (then_cmp (on (λ (r : Ranked). value_of_wide r.node.seen.bound) rational_cmp) (flip_args (on (λ (r : Ranked). r.node.seen.number) nat_cmp)))

abbrev pub ranked_eq : Ranked → Ranked → Bool
ranked_eq = eq_by_cmp ranked_cmp

abbrev pub ranked_partial_cmp : Ranked → Ranked → Option Ordering
ranked_partial_cmp = as_partial_cmp ranked_cmp
