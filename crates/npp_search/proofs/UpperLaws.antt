-- The upper value of a grown outcome holds: no outcome of the instance earns more.
use Rattle.std.proofs.Common.{◌≡◌, inl, inr, ℕ, ◌+◌, ◌*◌, ◌<◌, ◌≤◌, ℤ, pos, ◌*ℤ◌, ◌≤ℤ◌, List, [], length, sym, subst, arith, Contains, Option, Some, None}
use Rattle.std.specs.Prelude.{IfSome}
use Rattle.std.proofs.lemmas.Bool.{cases_Bool}
use Rattle.std.proofs.lemmas.Int.{ints}
use borrow.Author.Differences.{up, down}
use Rattle.npp_frac.specs.Rational.{Rational, ratio, times_pos, ◌≤ℚ◌, Is-le, le-Is, Is-self, Is-ratio, Is-whole}
use Rattle.npp_net.specs.declared.types.ArcId.{ArcId}
use Rattle.npp_net.specs.Network.{Network}
use Rattle.npp_net.specs.Toll.{TollVector}
use Rattle.npp_net.specs.Outcome.{IsOutcome, IsUpperBound, revenue}
use Rattle.npp_cover.specs.Replaces.{CoverValue}
use Rattle.npp_labels.specs.Covers.{AreUsefulCovers}
use Rattle.npp_rows.specs.PathModel.{PathModel}
use Rattle.npp_rows.specs.Caps.{path_model}
use Rattle.npp_rows.specs.Response.{reply}
use Rattle.npp_rows.specs.TollVectors.{HasTolls}
use Rattle.npp_rows.specs.Piece.{walks_of as arcs_of}
use Rattle.npp_inverse.specs.Best.{AreWithinCaps}
use Rattle.npp_inverse.proofs.BestReplies.{best_reply}
use Rattle.npp_inverse.proofs.CoverLaws.{has_useful_paths, is_model}
use Rattle.npp_start.proofs.StartLaws.{capped_allowed}
use Rattle.npp_start.proofs.WalkLaws.{same_walks, is_reply_to}
use Rattle.npp_rows.specs.Parts.{IsAllowed, all_paths}
use Rattle.npp_rows.specs.Basic.{basic_of}
use Rattle.npp_rows.specs.Piece.{IsInPiece, earned, walks_of, AreValidCuts}
use Rattle.npp_rows.specs.Lowering.{AreClosedCovers, lowered}
use Rattle.npp_rows.specs.Promises.{IsModelOf}
use Rattle.npp_rows.proofs.CutLaws.{all_allowed}
use Rattle.npp_rows.proofs.LoweringLaws.{can_be_lowered}
use Rattle.npp_rows.proofs.BasicLaws.{basic_holds}
use Rattle.npp_tree.specs.Bounds.{BoundValue, At, at_whole, IsAtMost, IsWithin}
use Rattle.npp_tree.specs.Family.{Family}
use Rattle.npp_tree.specs.Tree.{Node, Placed, tree_bound, was_opened}
use Rattle.npp_tree.proofs.BoundLaws.{at_most_refl}
use Rattle.npp_tree.proofs.TreeLaws.{tree_below, after_below, within_tree, within_after, IsWithinValue}
use Rattle.npp_leaf.specs.Passes.{BoundsPiece}
use Rattle.npp_leaf.proofs.LeafLaws.{optimum_bounds}
use Rattle.npp_search.specs.Problem.{Problem, problem_of}
use Rattle.npp_search.specs.Grown.{Task, Growth, IsGrowing, nodes_of}
use Rattle.npp_search.specs.Outcome.{whole_task}
use Rattle.npp_search.proofs.TurnLaws.{opened_node, unopened_node, are_divided}

no_cuts : (net : Network) (m : PathModel) → AreValidCuts net m []
no_cuts net m k d lt = absurd (omega (arith, lt))

-- what bounds a piece is not passed by an outcome of it
piece_within : (net : Network) (m : PathModel) (parts : Family) (value : Option BoundValue) (t : TollVector) (choice : List ℕ) → IfSome value (BoundsPiece net m parts)
    → IsInPiece net m parts t choice → IsWithinValue (earned net m t choice) value
piece_within net m parts None t choice h piece = tt
piece_within net m parts (Some b) t choice h piece = h t choice piece

-- an order of fractions as one of integers
below_cross : (z : ℤ) (n d den : ℕ) → n * den + down z * d ≤ up z * d + 0 * den → pos (n * den) ≤ℤ (z *ℤ pos d)
below_cross z n d den h = let both = times_pos z d in omega (arith, ints, both, h)

-- ---- what an outcome earns is within the bound of the tree

module _ (net : Network) (P : Problem) (closed : IsModelOf net P.paths) (task : Task) (g : Growth) (growing : IsGrowing P task g) (t : TollVector) (choice : List ℕ) where
  keeps : (p : Placed Node) → Contains (nodes_of P task g) p → IsAllowed P.paths p.family → IsInPiece net P.paths p.family t choice
      → IsWithin (earned net P.paths t choice) p.before → IsWithin (earned net P.paths t choice) p.node.bound
  keeps p c allowed piece h = elim (cases_Bool (was_opened p)) [
    | inl e ↦ (let n = opened_node P task g.lower p (growing.nodes p c) e in
        let bounds = optimum_bounds net P.paths p.family [] n.value closed allowed n.evidence.optimum (no_cuts net P.paths) in
        subst (IsWithin (earned net P.paths t choice)) (sym n.bound)
        (within_after (earned net P.paths t choice) p.before n.value h (piece_within net P.paths p.family n.value t choice bounds piece)))
    | inr e ↦ (let n = unopened_node P task g.lower p (growing.nodes p c) e in subst (IsWithin (earned net P.paths t choice)) (sym n.bound) h)
  ]

  below_basic : (parts : Family) → IsAllowed P.paths parts → IsInPiece net P.paths parts t choice → IsWithin (earned net P.paths t choice) (at_whole (basic_of P.paths parts))
  below_basic parts allowed piece =
      let below = basic_holds net P.paths parts closed allowed t choice piece in
      let positive : 0 < t.denominator = omega (arith, piece.outcome.vector.positive) in
      Is-le (Is-ratio (pos (revenue net.arcs t net.commodities (walks_of P.paths choice))) t.denominator positive) (Is-whole (pos (basic_of P.paths parts))) (omega (arith, below))

  -- an outcome of the task's family earns no more than the bound of the grown tree, if it does of the task's bound
  pub grown_holds : IsAllowed P.paths task.family → IsInPiece net P.paths task.family t choice → IsWithin (earned net P.paths t choice) task.bound
      → IsWithin (earned net P.paths t choice) (tree_bound g.tree)
  grown_holds allowed piece above =
      within_tree net P.paths t choice task.family task.bound g.tree allowed piece below_basic above (are_divided P task g growing) keeps

-- bounds fall along the tree
pub bounds_fall : (P : Problem) (task : Task) (g : Growth) → IsGrowing P task g → (p : Placed Node) → Contains (nodes_of P task g) p → IsAtMost p.node.bound p.before
bounds_fall P task g growing p c = elim (cases_Bool (was_opened p)) [
  | inl e ↦ (let n = opened_node P task g.lower p (growing.nodes p c) e in subst (λ (b : BoundValue). IsAtMost b p.before) (sym n.bound) (after_below p.before n.value))
  | inr e ↦ (let n = unopened_node P task g.lower p (growing.nodes p c) e in subst (λ (b : BoundValue). IsAtMost b p.before) (sym n.bound) (at_most_refl p.before))
]

-- the bound of the tree is at most that of the task
pub tree_within : (P : Problem) (task : Task) (g : Growth) → IsGrowing P task g → IsAtMost (tree_bound g.tree) task.bound
tree_within P task g growing = tree_below P.paths task.family task.bound g.tree (bounds_fall P task g growing)

-- ---- the search over all paths of an instance

module _ (limit : ℕ) (net : Network) (covers : List CoverValue) (closed : AreClosedCovers net covers) (budget : ℕ) (g : Growth)
    (growing : IsGrowing (problem_of limit net covers) (whole_task (problem_of limit net covers) budget) g) where
  abbrev P : Problem
  P = problem_of limit net covers

  abbrev task : Task
  task = whole_task (problem_of limit net covers) budget

  model_is : IsModelOf net (path_model net covers)
  model_is = is_model net covers closed

  -- no outcome of the instance earns more than the bound of the tree
  pub outcome_within : (t : TollVector) (walks : List (List ArcId)) → IsOutcome net t walks
      → IsWithin (ratio (pos (revenue net.arcs t net.commodities walks)) t.denominator) (tree_bound g.tree)
  outcome_within t walks outcome =
      let m : PathModel = path_model net covers in
      let low = can_be_lowered net covers closed t walks outcome in
      let piece = low.1.piece in
      let allowed = all_allowed net m (lowered m t) low.0 piece in
      let within = grown_holds net P model_is task g growing (lowered m t) low.0 allowed piece
      (below_basic net P model_is task g growing (lowered m t) low.0 (all_paths m) allowed piece) in
      subst (λ (n : ℕ). IsWithin (ratio (pos n) t.denominator) (tree_bound g.tree)) low.1.revenue within

  -- and so what tolls from 0 to the caps earn is within it
  pub earned_within : AreUsefulCovers net.arcs net.commodities covers → (T : List Rational) → length T ≡ length (path_model net covers).caps → AreWithinCaps (path_model net covers) T
      → IsWithin (reply (path_model net covers) T).revenue (tree_bound g.tree)
  earned_within useful T size capped =
      let m : PathModel = path_model net covers in
      let allowed = capped_allowed net covers T closed size capped in
      let said = is_reply_to net m T model_is useful (has_useful_paths net covers closed) size allowed in
      let t : TollVector = said.common.0 in
      let has : HasTolls T t = said.common.1 in
      let best = best_reply net m T t model_is size has (has_useful_paths net covers closed) in
      let over = said.over t has in
      let outcome : IsOutcome net t (arcs_of m (reply m T).paths) = subst (IsOutcome net t) (same_walks m (reply m T)) over.earned.outcome in
      subst (λ (q : Rational). IsWithin q (tree_bound g.tree)) best.earned (outcome_within t (arcs_of m (reply m T).paths) outcome)

  -- a bound of the tree that is a number bounds the instance
  pub bounds_instance : (q : Rational) → tree_bound g.tree ≡ At q → IsUpperBound net q.num q.den
  bounds_instance q same = record {
    positive = (let above = q.positive in omega (arith, above));
    above = λ t walks outcome.
        let within : ratio (pos (revenue net.arcs t net.commodities walks)) t.denominator ≤ℚ q =
        subst (λ (b : BoundValue). IsWithin (ratio (pos (revenue net.arcs t net.commodities walks)) t.denominator) b) same (outcome_within t walks outcome) in
        let positive : 0 < t.denominator = (let least = outcome.vector.positive in omega (arith, least)) in
        below_cross q.num (revenue net.arcs t net.commodities walks) t.denominator q.den (le-Is (Is-ratio (pos (revenue net.arcs t net.commodities walks)) t.denominator positive) (Is-self q) within);
  }
