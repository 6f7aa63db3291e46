-- Optimal must come where the budget reaches the number of nodes that a tree can have and each inverse program is quiet.
use Rattle.std.proofs.Common.{◌≡◌, inl, inr, ℕ, suc, ◌+◌, ◌*◌, ◌<◌, ◌≤◌, Bool, true, false, List, [], ◌∷◌, length, refl, sym, ◌∙◌, subst, ap, arith, Contains}
use Rattle.std.specs.Prelude.{filter, count_by}
use Rattle.std.proofs.lemmas.List.Sums.{length-filter}
use Rattle.npp_frac.specs.Rational.{Rational, ◌≤ℚ◌, ◌<ℚ◌}
use Rattle.npp_frac.specs.Order.{≤ℚ_antisymm, ≤ℚ_or_>}
use Rattle.npp_tree.specs.Bounds.{BoundValue, At, IsAbove}
use Rattle.npp_tree.specs.Family.{choice_count}
use Rattle.npp_rows.specs.Parts.{IsAllowed, all_paths}
use Rattle.npp_search.specs.Problem.{Problem, work_on}
use Rattle.npp_tree.specs.Tree.{Node, Placed, Entry, preorder, was_opened}
use Rattle.npp_search.specs.Grown.{Task, Growth, IsGrown, NoneIsLive, nodes_of}
use Rattle.npp_tree.specs.Outcome.{OutcomeValue}
use Rattle.npp_search.specs.Outcome.{IsGrownOutcome, MustBeOptimal, whole_task}
use Rattle.npp_tree.proofs.CountLaws.{few_nodes, one_more}
use Rattle.npp_tree.proofs.FamilyLaws.{families, has_choice, entry_stands}
use Rattle.npp_search.proofs.TurnLaws.{are_divided}
use Rattle.npp_search.proofs.EndLaws.{IsFaithful, loud_or_quiet, leaves_are_loud}

all_kept : {X : Type 0} (xs : List X) → length (filter (λ _. true) xs) ≡ length xs
all_kept [] = refl
all_kept (x ∷ xs) = ap suc (all_kept xs)

-- a test that an element fails passes fewer than all
fewer_pass : {X : Type 0} (f : X → Bool) (xs : List X) (x : X) → Contains xs x → f x ≡ false → count_by f xs < length xs
fewer_pass f xs x c e =
    let less = one_more f (λ _. true) (λ y h. refl) xs x c e refl in
    omega (arith, less, all_kept xs, length-filter f xs)

-- with such a budget no node stays live
pub none_live : (P : Problem) (task : Task) (g : Growth) → IsGrown P task g → IsAllowed P.paths task.family
    → 2 * choice_count task.family ≤ task.budget + 1 → NoneIsLive (nodes_of P task g) g.lower
none_live P task g grown family enough p c live = elim grown.ended [
  | inr none ↦ none p c live
  | inl spent ↦ (let few = few_nodes (λ n. n.bound) P.paths task.family task.bound g.tree (has_choice P.paths task.family family) (are_divided P task g grown.growing) in
      let less = fewer_pass was_opened (nodes_of P task g) p c live.unopened in
      absurd (omega (arith, few, less, grown.growing.opened, spent, enough)))
]

-- where the budget is enough, all inverse programs are quiet and the lower value is at most the upper one, the two are equal
pub must_be_optimal : (P : Problem) → IsFaithful P → (budget : ℕ) (o : OutcomeValue) → IsGrownOutcome P budget o
    → IsAllowed P.paths (all_paths P.paths) → o.lower ≤ℚ o.upper → MustBeOptimal P budget o
must_be_optimal P faithful budget o is family sound enough quiet =
    let task = whole_task P budget in
    let none = none_live P task is.growth is.grown family enough in
    let loud = leaves_are_loud P faithful task is.growth family is.grown.growing none in
    let top = is.shows.upper.attained in
    let entry : Contains (preorder is.growth.tree) top.0 = subst (λ (es : List Entry). Contains es top.0) is.shows.entries top.1 in
    let stands = entry_stands P.paths task.family task.bound is.growth.tree top.0 entry in
    let p : Placed Node = stands.0 in
    let bound : p.node.bound ≡ At o.upper = ap (λ (n : Node). n.bound) stands.1.node ∙ top.3 in
    let family_of = families (λ n. n.bound) P.paths task.family task.bound is.growth.tree family (are_divided P task is.growth is.grown.growing) p stands.1.among in
    let not_below : o.lower <ℚ o.upper → ⊥ = λ less.
    let above : IsAbove p.node.bound is.growth.lower = subst (λ (b : BoundValue). IsAbove b is.growth.lower) (sym bound) (subst (λ (q : Rational). q <ℚ o.upper) is.shows.lower less) in
    let l = loud p stands.1.among (stands.1.division ∙ top.2) above in
    loud_or_quiet (work_on P p.family) l.mark (quiet p.family family_of l.full) l.loud in
    elim (≤ℚ_or_> o.upper o.lower) [
      | inl up_to ↦ is.shows.status.optimal.1 (≤ℚ_antisymm sound up_to)
      | inr less ↦ absurd (not_below less)
    ]
