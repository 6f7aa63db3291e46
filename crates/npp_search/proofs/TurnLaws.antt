-- What each turn of a search keeps.
use Rattle.std.proofs.Common.{◌≡◌, inl, inr, ◌⊎◌, Bool, true, false, sym, ◌∙◌, subst, ap, arith, Contains, Option, Some, None}
use Rattle.std.specs.Prelude.{IfSome, IfNone, MatchBool}
use Rattle.std.proofs.lemmas.Bool.{cases_Bool, true≢false}
use Rattle.npp_frac.specs.Rational.{Rational, ◌≤ℚ◌}
use Rattle.npp_frac.specs.Order.{≤ℚ_trans}
use Rattle.npp_tree.specs.Bounds.{BoundValue, IsAbove, IsAtMost}
use Rattle.npp_tree.specs.Family.{Division, Divides}
use Rattle.npp_search.specs.Problem.{Problem}
use Rattle.npp_tree.specs.Tree.{Node, Placed, was_opened}
use Rattle.npp_search.specs.Grown.{Task, Growth, IsGrowing, IsNode, IsOpenedNode, IsUnopenedNode, IsSplit, IsSettled, IsLive, IsBestFirst, Earned, nodes_of}
use Rattle.npp_search.specs.Turn.{IsTurn, SplitsAbove, OpensGreatest}
use Rattle.npp_tree.proofs.CountLaws.{AreDivided}
use Rattle.npp_tree.proofs.TreeLaws.{after_below}
use Rattle.npp_tree.proofs.BoundLaws.{above_less, up_to_more, at_most_trans}

-- ---- the facts of one node

pub opened_node : (P : Problem) (task : Task) (lower : Rational) (p : Placed Node) → IsNode P task lower p → was_opened p ≡ true
    → IsOpenedNode P task lower p
opened_node P task lower p node e = subst (λ (b : Bool). MatchBool b (IsOpenedNode P task lower p) (IsUnopenedNode p)) e node

pub unopened_node : (P : Problem) (task : Task) (lower : Rational) (p : Placed Node) → IsNode P task lower p → was_opened p ≡ false
    → IsUnopenedNode p
unopened_node P task lower p node e = subst (λ (b : Bool). MatchBool b (IsOpenedNode P task lower p) (IsUnopenedNode p)) e node

from_opened : (P : Problem) (task : Task) (lower : Rational) (p : Placed Node) → was_opened p ≡ true → IsOpenedNode P task lower p
    → IsNode P task lower p
from_opened P task lower p e node = subst (λ (b : Bool). MatchBool b (IsOpenedNode P task lower p) (IsUnopenedNode p)) (sym e) node

from_unopened : (P : Problem) (task : Task) (lower : Rational) (p : Placed Node) → was_opened p ≡ false → IsUnopenedNode p
    → IsNode P task lower p
from_unopened P task lower p e node = subst (λ (b : Bool). MatchBool b (IsOpenedNode P task lower p) (IsUnopenedNode p)) (sym e) node

-- ---- the splits

divides_of : (P : Problem) (task : Task) (p : Placed Node) (o : Option Division) → IfSome o (IsSplit P task p) → IfSome o (Divides p.family)
divides_of P task p None h = tt
divides_of P task p (Some d) h = h.divides

none_divides : (p : Placed Node) (o : Option Division) → o ≡ None → IfSome o (Divides p.family)
none_divides p o e = subst (λ (x : Option Division). IfSome x (Divides p.family)) (sym e) tt

-- the splits of a growing tree are divisions
pub are_divided : (P : Problem) (task : Task) (g : Growth) → IsGrowing P task g → AreDivided (nodes_of P task g)
are_divided P task g growing p c = elim (cases_Bool (was_opened p)) [
  | inl opened ↦ (let node : IsOpenedNode P task g.lower p = subst (λ (b : Bool). MatchBool b (IsOpenedNode P task g.lower p) (IsUnopenedNode p)) opened (growing.nodes p c) in
      divides_of P task p p.division node.split)
  | inr closed ↦ (let node : IsUnopenedNode p = subst (λ (b : Bool). MatchBool b (IsOpenedNode P task g.lower p) (IsUnopenedNode p)) closed (growing.nodes p c) in
      none_divides p p.division node.leaf)
]

settled_more : (lower more : Rational) (p : Placed Node) (o : Option Division) → lower ≤ℚ more → IfNone o (IsSettled lower p) → IfNone o (IsSettled more p)
settled_more lower more p (Some d) h s = tt
settled_more lower more p None h (inl up_to) = inl (up_to_more p.node.bound lower more h up_to)
settled_more lower more p None h (inr full) = inr full

-- a node stays as it is where the lower value rises
node_rises : (P : Problem) (task : Task) (lower higher : Rational) (p : Placed Node) → lower ≤ℚ higher → IsNode P task lower p → IsNode P task higher p
node_rises P task lower higher p h node = elim (cases_Bool (was_opened p)) [
  | inl e ↦ (let n = opened_node P task lower p node e in
      from_opened P task higher p e (record {
        above = n.above;
        value = n.value;
        evidence = n.evidence;
        bound = n.bound;
        split = n.split;
        leaf = settled_more lower higher p p.division h n.leaf;
      }))
  | inr e ↦ from_unopened P task higher p e (unopened_node P task lower p node e)
]

split_given : (P : Problem) (task : Task) (lower : Rational) (p : Placed Node) (o : Option Division) → task.lower ≤ℚ lower → IfSome o (SplitsAbove P lower p) → IfSome o (IsSplit P task p)
split_given P task lower p None h s = tt
split_given P task lower p (Some d) h s = record { divides = s.divides; rule = s.rule; above = above_less p.node.bound lower task.lower h s.above }

-- ---- the whole

module _ (P : Problem) (task : Task) (old new : Growth) (growing : IsGrowing P task old) (turn : IsTurn P task old new) where
  was_node : IsUnopenedNode turn.was
  was_node = unopened_node P task old.lower turn.was (growing.nodes turn.was turn.opens.there) turn.live.unopened

  now_node : IsOpenedNode P task new.lower turn.now
  now_node = record {
    above = above_less turn.now.before old.lower task.lower growing.lower.given_less
        (subst (λ (b : BoundValue). IsAbove b old.lower) (was_node.bound ∙ sym turn.opens.before) turn.live.above);
    value = turn.value;
    evidence = turn.evidence;
    bound = turn.bound;
    split = split_given P task new.lower turn.now turn.now.division (≤ℚ_trans growing.lower.given_less turn.lower.no_less) turn.split;
    leaf = turn.leaf;
  }

  each_node : (q : Placed Node) → Contains (nodes_of P task new) q → IsNode P task new.lower q
  each_node q c = elim (turn.opens.each q c) [
    | inl same ↦ subst (λ (r : Placed Node). IsNode P task new.lower r) (sym same) (from_opened P task new.lower turn.now turn.opens.opened now_node)
    | inr other ↦ elim other [
      | inl child ↦ (let is = turn.each_child q child in from_unopened P task new.lower q is.unopened is.leaf)
      | inr before ↦ node_rises P task old.lower new.lower q turn.lower.no_less (growing.nodes q before)
    ]
  ]

  each_earned : (q : Placed Node) (v : Rational) → Contains (nodes_of P task new) q → Earned P q v → v ≤ℚ new.lower
  each_earned q v c e = elim (turn.opens.each q c) [
    | inl same ↦ turn.lower.earned v (subst (λ (r : Placed Node). Earned P r v) same e)
    | inr other ↦ elim other [
      | inl child ↦ absurd (true≢false (sym e.opened ∙ (turn.each_child q child).unopened))
      | inr before ↦ ≤ℚ_trans (growing.lower.nodes_less q v before e) turn.lower.no_less
    ]
  ]

  -- what earned the old value is still there
  kept_earner : (q : Placed Node) → Contains (nodes_of P task old) q → Earned P q old.lower → new.lower ≡ old.lower
      → (p : Placed Node) × Contains (nodes_of P task new) p × Earned P p new.lower
  kept_earner q c e same = elim (turn.opens.kept q c) [
    | inl is ↦ absurd (true≢false (sym e.opened ∙ (ap was_opened is ∙ turn.live.unopened)))
    | inr here ↦ (q, here, subst (λ (v : Rational). Earned P q v) (sym same) e)
  ]

  attained : (new.lower ≡ task.lower) ⊎ ((p : Placed Node) × Contains (nodes_of P task new) p × Earned P p new.lower)
  attained = elim turn.lower.by [
    | inr e ↦ inr (turn.now, turn.opens.here, e)
    | inl same ↦ elim growing.lower.attained [
      | inl given ↦ inl (same ∙ given)
      | inr found ↦ inr (kept_earner found.0 found.1 found.2 same)
    ]
  ]

  -- the points are kept
  pub turn_keeps : IsGrowing P task new
  turn_keeps = record {
    nodes = each_node;
    opened = omega (arith, turn.opened, growing.opened, turn.opens.count);
    within_budget = omega (arith, turn.opened, turn.room);
    lower = record { given_less = ≤ℚ_trans growing.lower.given_less turn.lower.no_less; nodes_less = each_earned; attained = attained };
    best = turn.best;
  }

-- ---- best first

module _ (P : Problem) (task : Task) (old new : Growth) (growing : IsGrowing P task old) (turn : IsTurn P task old new)
    (first : IsBestFirst (nodes_of P task old) old.lower) (greatest : OpensGreatest (nodes_of P task old) old.lower turn.was) where
  still_live : (q : Placed Node) → IsLive new.lower q → IsLive old.lower q
  still_live q l = record { unopened = l.unopened; above = above_less q.node.bound new.lower old.lower turn.lower.no_less l.above }

  was_bound : turn.was.node.bound ≡ turn.now.before
  was_bound = (unopened_node P task old.lower turn.was (growing.nodes turn.was turn.opens.there) turn.live.unopened).bound ∙ sym turn.opens.before

  now_below : IsAtMost turn.now.node.bound turn.now.before
  now_below = subst (λ (b : BoundValue). IsAtMost b turn.now.before) (sym turn.bound) (after_below turn.now.before turn.value)

  -- what is at most the bound of the opened node before its opening is so for each node opened before
  below_before : (p : Placed Node) → Contains (nodes_of P task new) p → was_opened p ≡ true → (b : BoundValue) → IsAtMost b turn.now.before → IsAtMost b p.before
  below_before p c e b h = elim (turn.opens.each p c) [
    | inl same ↦ subst (λ (r : Placed Node). IsAtMost b r.before) (sym same) h
    | inr other ↦ elim other [
      | inl child ↦ absurd (true≢false (sym e ∙ (turn.each_child p child).unopened))
      | inr before ↦ at_most_trans b turn.now.before p.before h
          (subst (λ (d : BoundValue). IsAtMost d p.before) was_bound (first p turn.was before turn.opens.there e turn.live))
    ]
  ]

  pub best_first_kept : IsBestFirst (nodes_of P task new) new.lower
  best_first_kept p q in_p in_q e live = elim (turn.opens.each q in_q) [
    | inl same ↦ absurd (true≢false (sym (ap was_opened same ∙ turn.opens.opened) ∙ live.unopened))
    | inr other ↦ below_before p in_p e q.node.bound (elim other [
      | inl child ↦ at_most_trans q.node.bound turn.now.node.bound turn.now.before (turn.each_child q child).bound now_below
      | inr before ↦ subst (λ (d : BoundValue). IsAtMost q.node.bound d) was_bound (greatest q before (still_live q live))
    ])
  ]
