-- What is answered of a search that ended is a grown outcome.
use Rattle.std.proofs.Common.{◌≡◌, ◌⊎◌, inl, inr, ℕ, Bool, true, false, cond, List, [], ◌∷◌, refl, sym, ◌∙◌, subst, ap, Contains, Option, Some, None}
use Rattle.std.specs.Prelude.{MatchOption}
use Rattle.npp_frac.specs.Rational.{Rational}
use Rattle.npp_frac.specs.Order.{<ℚ_irrefl}
use Rattle.npp_frac.specs.Wide.{value_of_wide}
use Rattle.npp_tree.specs.Bounds.{BoundValue, At, IsAtMost}
use Rattle.npp_tree.specs.Keyed.{without_key, without_keys}
use Rattle.npp_tree.specs.Tree.{Node, Placed, Entry, preorder, tree_bound, IsTreeBound}
use Rattle.npp_tree.specs.Outcome.{OutcomeValue}
use Rattle.npp_tree.proofs.BoundLaws.{above_mono}
use Rattle.npp_tree.proofs.CountLaws.{in_head}
use Rattle.npp_tree.proofs.TreeLaws.{tree_bound_is, leaf_within}
use Rattle.npp_leaf.specs.Found.{BestTolls}
use Rattle.npp_search.specs.declared.state.State.{State}
use Rattle.npp_search.specs.declared.waiting.Waiting.{Waiting}
use Rattle.npp_search.specs.Problem.{Problem}
use Rattle.npp_rows.specs.PathModel.{PathModel}
use Rattle.npp_rows.specs.Response.{Reply, reply, reply_fits, fitting_reply}
use Rattle.npp_search.specs.Grown.{Earns, EarnsMore, Task, Growth, IsGrowing, IsLive, NoneIsLive, nodes_of}
use Rattle.npp_search.specs.Search.{growth_of, IsUnderWay}
use Rattle.npp_search.specs.Ending.{IsStatusBy, found_or}
use Rattle.npp_search.specs.Outcome.{IsReport, SomeIsLive, IsStatus, IsGrownOutcome, whole_task}
use Rattle.npp_search.proofs.TurnLaws.{unopened_node}
use Rattle.npp_search.proofs.ChildLaws.{not_empty}
use Rattle.npp_search.proofs.StepLaws.{without_in, with_key}

module _ (P : Problem) (task : Task) (g : Growth) (growing : IsGrowing P task g) where
  -- a live node is a leaf, whose bound is within that of the tree
  live_within : (p : Placed Node) → Contains (nodes_of P task g) p → IsLive g.lower p → IsAtMost p.node.bound (tree_bound g.tree)
  live_within p c live =
      leaf_within P.paths task.family task.bound g.tree p c (unopened_node P task g.lower p (growing.nodes p c) live.unopened).leaf

  -- where the two values are equal no node is live
  pub none_above : (upper : Rational) → tree_bound g.tree ≡ At upper → g.lower ≡ upper → NoneIsLive (nodes_of P task g) g.lower
  none_above upper same equal p c live =
      let most : IsAtMost p.node.bound (At g.lower) = subst (IsAtMost p.node.bound) (same ∙ ap At (sym equal)) (live_within p c live) in
      <ℚ_irrefl (above_mono p.node.bound (At g.lower) g.lower live.above most)

-- ---- what earns the lower value

-- what was found better earns it, and where nothing was found what was given
pub earner : (P : Problem) (given lower : Rational) (b : BestTolls) (o : Option BestTolls) → Earns P given b → MatchOption o (lower ≡ given) (EarnsMore P given lower) → Earns P lower (found_or b o)
earner P given lower b None earns same = subst (λ (q : Rational). Earns P q b) (sym same) earns
earner P given lower b (Some c) earns more = more.earns

-- a reply that fits is the reply
fitting_is : (limit : ℕ) (m : PathModel) (T : List Rational) (r : Reply) → fitting_reply limit m T ≡ Some r → r ≡ reply m T
fitting_is limit m T r e = by (reply_fits limit m T) e
  where
    by : (b : Bool) → cond b (Some (reply m T)) None ≡ Some r → r ≡ reply m T
    by true e = cc
    by false e = absurd (let clash : None ≡ Some r = e in cc)

pub reply_of_earns : (P : Problem) (v : Rational) (b : BestTolls) → Earns P v b → b.reply ≡ reply P.paths b.tolls
reply_of_earns P v b earns = fitting_is P.limit P.paths b.tolls b.reply earns.replied

-- ---- the status

-- some node waits exactly where one is live
module _ {N : Type 0} (value : N → Rational) (P : Problem) (task : Task) (first : Bool) (s : State N) (h : IsUnderWay value P task first s) where
  waits_some : (w : Waiting) → Contains s.waiting w → SomeIsLive (nodes_of P task (growth_of value s)) (value_of_wide s.lower)
  waits_some w c = let found = h.waiting.live w c in (without_key found.0, without_in value P task s found.0 found.1, found.3)

  some_waits : SomeIsLive (nodes_of P task (growth_of value s)) (value_of_wide s.lower) → (w : Waiting) × Contains s.waiting w
  some_waits l =
      let k = with_key value P task s l.0 l.1 in
      let found = h.waiting.all k.0 k.1 (subst (λ (x : Placed Node). IsLive (value_of_wide s.lower) x) (sym k.2) l.2) in
      (found.0, found.1)

first_waits : (ws : List Waiting) → (ws ≡ [] → ⊥) → (w : Waiting) × Contains ws w
first_waits [] none = absurd (none refl)
first_waits (w ∷ ws) none = (w, in_head w ws)

module _ {N : Type 0} (value : N → Rational) (P : Problem) (budget : ℕ) (first : Bool) (s : State N) (h : IsUnderWay value P (whole_task P budget) first s)
    (ended : (s.opened ≡ budget) ⊎ NoneIsLive (nodes_of P (whole_task P budget) (growth_of value s)) (value_of_wide s.lower))
    (o : OutcomeValue) (upper : tree_bound (without_keys s.tree) ≡ At o.upper) (lower : o.lower ≡ value_of_wide s.lower) (opened : o.opened ≡ s.opened) (by : IsStatusBy o.lower o.upper (s.waiting ≡ [] → ⊥) o.status) where
  abbrev nodes : List (Placed Node)
  nodes = nodes_of P (whole_task P budget) (growth_of value s)

  live_of_waits : (s.waiting ≡ [] → ⊥) → SomeIsLive nodes o.lower
  live_of_waits some =
      let w = first_waits s.waiting some in
      subst (λ (q : Rational). SomeIsLive nodes q) (sym lower) (waits_some value P (whole_task P budget) first s h w.0 w.1)

  waits_of_live : SomeIsLive nodes o.lower → s.waiting ≡ [] → ⊥
  waits_of_live l none =
      let w = some_waits value P (whole_task P budget) first s h (subst (λ (q : Rational). SomeIsLive nodes q) lower l) in
      not_empty w.0 (subst (λ (ws : List Waiting). Contains ws w.0) none w.1)

  apart_of_live : SomeIsLive nodes o.lower → o.lower ≡ o.upper → ⊥
  apart_of_live l equal =
      none_above P (whole_task P budget) (growth_of value s) h.growing o.upper upper (sym lower ∙ equal) l.0 l.1
      (subst (λ (q : Rational). IsLive q l.0) lower l.2)

  spent_of_live : SomeIsLive nodes o.lower → o.opened ≡ budget
  spent_of_live l = elim ended [
    | inl spent ↦ opened ∙ spent
    | inr none ↦ absurd (none l.0 l.1 (subst (λ (q : Rational). IsLive q l.0) lower l.2))
  ]

  pub is_status : IsStatus nodes budget o
  is_status = record {
    optimal = by.optimal;
    stopped = (λ e. live_of_waits (by.budget.0 e).1, λ l. by.budget.1 (apart_of_live l, waits_of_live l));
    spent = λ e. spent_of_live (live_of_waits (by.budget.0 e).1);
  }

  pub is_grown_outcome : o.entries ≡ preorder (without_keys s.tree) → o.cuts ≡ [] → IsReport P o → IsGrownOutcome P budget o
  is_grown_outcome entries cuts report = record {
    growth = growth_of value s;
    grown = record { growing = h.growing; ended = ended };
    shows = record {
      entries = entries;
      opened = opened;
      lower = lower;
      cuts = cuts;
      report = report;
      upper = subst (λ (b : BoundValue). IsTreeBound o.entries b) upper (subst (λ (es : List Entry). IsTreeBound es (tree_bound (without_keys s.tree))) (sym entries) (tree_bound_is (without_keys s.tree)));
      status = is_status;
    };
  }
