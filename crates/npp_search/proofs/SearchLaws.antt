-- What holds of the outcome of a search over all paths.
use Rattle.std.proofs.Common.{◌≡◌, ◌⊎◌, ℕ, Bool, true, List, [], sym, ◌∙◌, subst, ap}
use Rattle.std.specs.Prelude.{Result, Ok, Err, IfOk}
use Rattle.npp_frac.specs.Rational.{Rational, ◌≤ℚ◌}
use Rattle.npp_frac.specs.Wide.{value_of_wide}
use Rattle.npp_net.specs.Network.{Network}
use Rattle.npp_net.specs.Outcome.{IsUpperBound}
use Rattle.npp_cover.specs.Replaces.{CoverValue}
use Rattle.npp_labels.specs.Covers.{AreUsefulCovers}
use Rattle.npp_rows.specs.Caps.{path_model}
use Rattle.npp_rows.specs.Parts.{IsAllowed, all_paths}
use Rattle.npp_rows.specs.PathModel.{PathModel}
use Rattle.npp_rows.specs.Basic.{basic_of}
use Rattle.npp_rows.specs.Response.{Reply, reply}
use Rattle.npp_rows.proofs.WholeLaws.{covers_allowed}
use Rattle.npp_inverse.proofs.CoverLaws.{has_useful_paths}
use Rattle.npp_tree.specs.declared.outcome.Status.TheVariants.{Budget, Overflow}
use Rattle.npp_tree.specs.Bounds.{BoundValue, At, at_whole, IsAbove, IsAtMost, IsWithin}
use Rattle.npp_tree.specs.Keyed.{without_keys}
use Rattle.npp_tree.specs.Tree.{Entry, preorder, tree_bound, nodes_below}
use Rattle.npp_tree.specs.declared.outcome.Outcome.{Outcome}
use Rattle.npp_tree.specs.Family.{Family}
use Rattle.npp_tree.specs.Outcome.{OutcomeValue, outcome_value}
use Rattle.npp_start.specs.Start.{start_tolls}
use Rattle.npp_leaf.specs.Found.{BestTolls}
use Rattle.npp_start.specs.Allowed.{AreAllowed}
use Rattle.npp_start.specs.Walks.{IsReplyTo}
use Rattle.npp_start.proofs.StartLaws.{capped_allowed}
use Rattle.npp_start.proofs.CoverShape.{are_closed}
use Rattle.npp_search.specs.declared.state.State.{State}
use Rattle.npp_search.specs.Problem.{Problem, problem_of}
use Rattle.npp_search.specs.Grown.{Task, Earns, IsLive, NoneIsLive, IsBestFirst, HasFewNodes, nodes_of}
use Rattle.npp_search.specs.Search.{growth_of, IsUnderWay}
use Rattle.npp_search.specs.Ending.{IsStatusBy}
use Rattle.npp_search.specs.Outcome.{IsReport, IsGrownOutcome, IsOutcomeBestFirst, IsBetween, OverflowIsLoud, MustBeOptimal, start_value, whole_bound, whole_task}
use Rattle.npp_search.proofs.StartLaws.{few_grown}
use Rattle.npp_search.proofs.EndLaws.{leaves_are_loud}
use Rattle.npp_search.proofs.FaithLaws.{faithful}
use Rattle.npp_search.proofs.Optimality.{must_be_optimal}
use Rattle.npp_search.proofs.UpperLaws.{tree_within, bounds_instance, earned_within}
use Rattle.npp_search.proofs.OutcomeLaws.{reply_of_earns, is_status, is_grown_outcome}

module _ {N : Type 0} (value : N → Rational) (limit : ℕ) (net : Network) (covers : List CoverValue) (useful : AreUsefulCovers net.arcs net.commodities covers) (budget : ℕ) (first : Bool) (s : State N)
    (h : IsUnderWay value (problem_of limit net covers) (whole_task (problem_of limit net covers) budget) first s)
    (ended : (s.opened ≡ budget) ⊎ NoneIsLive (nodes_of (problem_of limit net covers) (whole_task (problem_of limit net covers) budget) (growth_of value s)) (value_of_wide s.lower))
    (o : OutcomeValue) (upper : tree_bound (without_keys s.tree) ≡ At o.upper) (lower : o.lower ≡ value_of_wide s.lower) (opened : o.opened ≡ s.opened)
    (status : IsStatusBy o.lower o.upper (s.waiting ≡ [] → ⊥) o.status) (entries : o.entries ≡ preorder (without_keys s.tree)) (cuts : o.cuts ≡ []) (report : IsReport (problem_of limit net covers) o) where
  abbrev P : Problem
  P = problem_of limit net covers

  allowed : IsAllowed (path_model net covers) (all_paths (path_model net covers))
  allowed = covers_allowed net covers (are_closed net covers useful)

  pub search_grown : IsGrownOutcome (problem_of limit net covers) budget o
  search_grown = is_grown_outcome value P budget first s h ended o upper lower opened status entries cuts report

  pub search_bound : IsUpperBound net o.upper.num o.upper.den
  search_bound = bounds_instance limit net covers (are_closed net covers useful) budget (growth_of value s) h.growing o.upper upper

  pub search_tolls : AreAllowed net o.tolls
  search_tolls = let earns = report.earns in capped_allowed net covers o.tolls (are_closed net covers useful) earns.size earns.capped

  -- the lower value is earned, and so it is at most the upper one
  sound : o.lower ≤ℚ o.upper
  sound =
      let earns = report.earns in
      let within = earned_within limit net covers (are_closed net covers useful) budget (growth_of value s) h.growing useful o.tolls earns.size earns.capped in
      subst (λ (b : BoundValue). IsWithin o.lower b) upper (subst (λ (q : Rational). IsWithin q (tree_bound (without_keys s.tree))) (sym (ap (λ (r : Reply). r.revenue) (reply_of_earns P o.lower (record { tolls = o.tolls; reply = report.response }) earns)) ∙ earns.revenue) within)

  pub search_between : IsBetween (problem_of limit net covers) o
  search_between = record {
    floor = subst (λ (q : Rational). start_value P ≤ℚ q) (sym lower) h.growing.lower.given_less;
    ceiling = subst (λ (b : BoundValue). IsAtMost b (whole_bound P)) upper (tree_within P (whole_task P budget) (growth_of value s) h.growing);
  }

  pub search_optimal : MustBeOptimal (problem_of limit net covers) budget o
  search_optimal = must_be_optimal P (faithful P (has_useful_paths net covers (are_closed net covers useful))) budget o search_grown allowed sound

  none_under_overflow : o.status ≡ Overflow → NoneIsLive (nodes_of P (whole_task P budget) (growth_of value s)) (value_of_wide s.lower)
  none_under_overflow over p c live =
      let is = is_status value P budget first s h ended o upper lower opened status in
      let budget_is : o.status ≡ Budget = is.stopped.1 (p, c, subst (λ (q : Rational). IsLive q p) (sym lower) live) in
      absurd (let clash : Overflow ≡ Budget = sym over ∙ budget_is in cc)

  pub search_loud : OverflowIsLoud (problem_of limit net covers) o
  search_loud over = (
    without_keys s.tree,
    entries,
    λ p c leaf above.
        leaves_are_loud P (faithful P (has_useful_paths net covers (are_closed net covers useful))) (whole_task P budget) (growth_of value s) allowed h.growing (none_under_overflow over) p c leaf
        (subst (λ (q : Rational). IsAbove p.node.bound q) lower above),
  )

  pub search_few : HasFewNodes (all_paths (path_model net covers)) o.entries
  search_few = subst (λ (es : List Entry). HasFewNodes (all_paths (path_model net covers)) es) (sym entries) (few_grown P (whole_task P budget) (growth_of value s) allowed h.growing)

  pub search_best_first : first ≡ true → IsOutcomeBestFirst (problem_of limit net covers) o
  search_best_first e = (
    without_keys s.tree,
    entries,
    subst (λ (q : Rational). IsBestFirst (nodes_below P.paths (all_paths P.paths) (whole_bound P) (without_keys s.tree)) q) (sym lower) (h.best_first e),
  )

-- ---- the search that the code begins

-- what the code asks for is the search over all paths for more than the first tolls earn
pub asks_whole : (limit : ℕ) (net : Network) (covers : List CoverValue) (m : PathModel) (family : Family) (b : BoundValue) (low : Rational) (response : Reply) (T : List Rational) (budget : ℕ)
    → m ≡ path_model net covers → family ≡ all_paths m → b ≡ at_whole (basic_of (path_model net covers) family) → low ≡ response.revenue → response ≡ reply m T → T ≡ start_tolls limit m
    → (let task : Task = record { family = family; bound = b; lower = low; budget = budget } in task ≡ whole_task (problem_of limit net covers) budget)
asks_whole limit net covers m family b low response T budget table is_all is_bound is_low is_reply is_start =
    let all : family ≡ all_paths (path_model net covers) = is_all ∙ ap all_paths table in
    let bound : b ≡ whole_bound (problem_of limit net covers) = is_bound ∙ ap (λ (f : Family). at_whole (basic_of (path_model net covers) f)) all in
    let start : low ≡ start_value (problem_of limit net covers) =
    is_low ∙ (ap (λ (r : Reply). r.revenue) is_reply ∙ (ap (λ (t : List Rational). (reply m t).revenue) is_start ∙ ap (λ (n : PathModel). (reply n (start_tolls limit n)).revenue) table)) in
    λ i. record { family = all i; bound = bound i; lower = start i; budget = budget }

-- all that is said of an outcome
pub record HoldsOf (limit : ℕ) (net : Network) (covers : List CoverValue) (budget : ℕ) (first : Bool) (o : OutcomeValue) : Type 0 where
  pub grown : IsGrownOutcome (problem_of limit net covers) budget o
  pub lower : IsReplyTo net o.tolls o.paths o.lower
  pub upper : IsUpperBound net o.upper.num o.upper.den
  pub between : IsBetween (problem_of limit net covers) o
  pub optimal : MustBeOptimal (problem_of limit net covers) budget o
  pub loud : OverflowIsLoud (problem_of limit net covers) o
  pub few : HasFewNodes (all_paths (path_model net covers)) o.entries
  pub best_first : first ≡ true → IsOutcomeBestFirst (problem_of limit net covers) o

-- whatever the code answers
pub answered : {N E : Type 0} (value : N → Rational) (limit : ℕ) (net : Network) (covers : List CoverValue) → AreUsefulCovers net.arcs net.commodities covers → (budget : ℕ) (first : Bool) (s : State N)
    → IsUnderWay value (problem_of limit net covers) (whole_task (problem_of limit net covers) budget) first s
    → (s.opened ≡ budget) ⊎ NoneIsLive (nodes_of (problem_of limit net covers) (whole_task (problem_of limit net covers) budget) (growth_of value s)) (value_of_wide s.lower)
    → (r : Result (Outcome N) E) → IfOk r (λ o. (outcome_value value o).entries ≡ preorder (without_keys s.tree)) → IfOk r (λ o. tree_bound (without_keys s.tree) ≡ At (outcome_value value o).upper)
    → IfOk r (λ o. (outcome_value value o).lower ≡ value_of_wide s.lower) → IfOk r (λ o. (outcome_value value o).opened ≡ s.opened) → IfOk r (λ o. (outcome_value value o).cuts ≡ [])
    → IfOk r (λ o. IsReport (problem_of limit net covers) (outcome_value value o))
    → IfOk r (λ o. AreAllowed net (outcome_value value o).tolls → IsReplyTo net (outcome_value value o).tolls (outcome_value value o).paths (outcome_value value o).lower)
    → IfOk r (λ o. IsStatusBy (outcome_value value o).lower (outcome_value value o).upper (s.waiting ≡ [] → ⊥) o.status) → IfOk r (λ o. HoldsOf limit net covers budget first (outcome_value value o))
answered value limit net covers useful budget first s h ended (Err e) entries upper lower opened cuts report reply status = tt
answered value limit net covers useful budget first s h ended (Ok o) entries upper lower opened cuts report reply status =
    let x = outcome_value value o in
    record {
      grown = search_grown value limit net covers useful budget first s h ended x upper lower opened status entries cuts report;
      lower = reply (search_tolls value limit net covers useful budget first s h ended x upper lower opened status entries cuts report);
      upper = search_bound value limit net covers useful budget first s h ended x upper lower opened status entries cuts report;
      between = search_between value limit net covers useful budget first s h ended x upper lower opened status entries cuts report;
      optimal = search_optimal value limit net covers useful budget first s h ended x upper lower opened status entries cuts report;
      loud = search_loud value limit net covers useful budget first s h ended x upper lower opened status entries cuts report;
      few = search_few value limit net covers useful budget first s h ended x upper lower opened status entries cuts report;
      best_first = search_best_first value limit net covers useful budget first s h ended x upper lower opened status entries cuts report;
    }

-- tolls that earn the lower value show that it is within the bound of the tree
pub lower_within : {N : Type 0} (value : N → Rational) (limit : ℕ) (net : Network) (covers : List CoverValue) → AreUsefulCovers net.arcs net.commodities covers → (budget : ℕ) (first : Bool) (s : State N)
    → IsUnderWay value (problem_of limit net covers) (whole_task (problem_of limit net covers) budget) first s
    → (b : BestTolls) → Earns (problem_of limit net covers) (value_of_wide s.lower) b → IsWithin (value_of_wide s.lower) (tree_bound (without_keys s.tree))
lower_within value limit net covers useful budget first s h b earns =
    subst (λ (q : Rational). IsWithin q (tree_bound (without_keys s.tree))) (sym (ap (λ (r : Reply). r.revenue) (reply_of_earns (problem_of limit net covers) (value_of_wide s.lower) b earns)) ∙ earns.revenue)
    (earned_within limit net covers (are_closed net covers useful) budget (growth_of value s) h.growing useful b.tolls earns.size earns.capped)
