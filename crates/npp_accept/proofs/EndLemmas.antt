-- The head agrees with the tree at the last line: the opened nodes, the bound of the tree and the status are those of the head.
use Rattle.std.proofs.Common.{◌≡◌, ◌∙◌, ap, sym, subst, refl, ℕ, Bool, true, false, not, cond, ◌==◌, List, ◌++◌, Some, Ok, arith, eq-eqb}
use Rattle.std.specs.Prelude.{count_by, ◌↔◌}
use Rattle.std.proofs.lemmas.Bool.{false≢true, false_from_ne_true}
use Rattle.std.proofs.lemmas.List.Sums.{sum_by-cons, sum_by-append}
use Rattle.npp_frac.specs.Fits.{limit_of}
use Rattle.npp_frac.specs.Order.{≤ℚ_antisymm}
use Rattle.npp_frac.specs.Rational.{Rational, ◌≤ℚ◌}
use Rattle.npp_net.specs.Network.{Network}
use Rattle.npp_cover.specs.Replaces.{CoverValue}
use Rattle.npp_rows.specs.PathModel.{PathModel}
use Rattle.npp_tree.specs.declared.item.Item.TheVariants as item
use Rattle.npp_tree.specs.declared.outcome.Status.{Status}
use Rattle.npp_tree.specs.declared.outcome.Status.TheVariants.{Optimal, Budget, Overflow}
use Rattle.npp_tree.specs.Bounds.{BoundValue, Empty, At, IsAtMost}
use Rattle.npp_tree.specs.Family.{Family, first_of, second_of}
use Rattle.npp_tree.specs.Outcome.{OutcomeValue}
use Rattle.npp_tree.specs.Tree.{Node, Tree, Leaf, Split, Placed, Entry, place, was_opened, nodes_below, preorder, opened_in, tree_bound, IsTreeBound}
use Rattle.npp_tree.proofs.TreeLaws.{tree_bound_is}
use Rattle.npp_search.specs.Problem.{Problem, problem_of}
use Rattle.npp_search.specs.Outcome.{IsGrownOutcome, whole_task}
use Rattle.npp_check.specs.declared.refusal.Rule.{Rule}
use Rattle.npp_check.specs.declared.refusal.Rule.TheVariants as rule
use Rattle.npp_check.specs.EndLine.{Head, is_at, is_optimal, agree, end_line}
use Rattle.npp_check.specs.Rules.{broken_if, same}
use Rattle.npp_check.proofs.RuleLemmas.{same_is}
use Rattle.npp_accept.proofs.Passes.{same_self}

-- ---- how many nodes are opened

pub opened_placed : (m : PathModel) (family : Family) (parent : BoundValue) (tree : Tree Node) → count_by was_opened (nodes_below m family parent tree) ≡ opened_in tree
opened_placed m family parent (Leaf n) = omega arith
opened_placed m family parent (Split n d first second) =
    let f : Placed Node → ℕ = λ p. cond (was_opened p) 1 0 in
    let left : List (Placed Node) = nodes_below m (first_of family d) n.bound first in
    let right : List (Placed Node) = nodes_below m (second_of family d) n.bound second in
    omega (
      arith,
      sum_by-cons f (place m family parent n (Some d)) (left ++ right),
      sum_by-append f left right,
      opened_placed m (first_of family d) n.bound first,
      opened_placed m (second_of family d) n.bound second,
    )

-- ---- the bound of the tree

antisymm : (b c : BoundValue) → IsAtMost b c → IsAtMost c b → b ≡ c
antisymm Empty Empty h k = refl
antisymm Empty (At w) h k = absurd k
antisymm (At v) Empty h k = absurd h
antisymm (At v) (At w) h k = ap At (numbers h k)
  where
    numbers : v ≤ℚ w → w ≤ℚ v → v ≡ w
    numbers h k = ≤ℚ_antisymm h k

-- entries have one greatest bound of a leaf
one_bound : (entries : List Entry) (b c : BoundValue) → IsTreeBound entries b → IsTreeBound entries c → b ≡ c
one_bound entries b c h k =
    antisymm b c
    (subst (λ (x : BoundValue). IsAtMost x c) h.attained.3 (k.greatest h.attained.0 h.attained.1 h.attained.2))
    (subst (λ (x : BoundValue). IsAtMost x b) k.attained.3 (h.greatest k.attained.0 k.attained.1 k.attained.2))

-- ---- the status

-- the status is Optimal exactly where both values are equal
agrees : (s : Status) (lower upper : Rational) → (s ≡ Optimal) ↔ (lower ≡ upper) → agree (is_optimal s) (same lower upper) ≡ true
agrees Optimal lower upper h = subst (λ (q : Rational). same lower q ≡ true) (h.0 refl) (same_self lower)
agrees Budget lower upper h = ap not (false_from_ne_true (same lower upper) (λ e. let clash : Budget ≡ Optimal = h.1 (same_is lower upper e) in cc))
agrees Overflow lower upper h = ap not (false_from_ne_true (same lower upper) (λ e. let clash : Overflow ≡ Optimal = h.1 (same_is lower upper e) in cc))

-- ---- the last line

all_hold : (a b c : Bool) (r s t : Rule) → a ≡ true → b ≡ true → c ≡ true → broken_if {X = Unit {0}} (not a) r (broken_if (not b) s (broken_if (not c) t (Ok tt))) ≡ Ok tt
all_hold true true true r s t e f g = refl
all_hold true true false r s t e f g = absurd (false≢true g)
all_hold true false c r s t e f g = absurd (false≢true f)
all_hold false b c r s t e f g = absurd (false≢true e)

-- what the head says of an outcome
abbrev pub head_of : OutcomeValue → Head
head_of o = record { status = o.status; lower = o.lower; upper = o.upper; opened = o.opened }

end_says : (head : Head) (opened : ℕ) (bound : BoundValue) → head.opened ≡ opened → bound ≡ At head.upper → (head.status ≡ Optimal) ↔ (head.lower ≡ head.upper)
    → end_line head opened bound item.End ≡ Ok tt
end_says head opened bound count top status =
    all_hold (head.opened == opened) (is_at bound head.upper) (agree (is_optimal head.status) (same head.lower head.upper)) rule.Opened rule.Upper rule.Status
    (eq-eqb head.opened opened count)
    (subst (λ (b : BoundValue). is_at b head.upper ≡ true) (sym top) (same_self head.upper))
    (agrees head.status head.lower head.upper status)

pub grown_end_says : (width budget : ℕ) (net : Network) (covers : List CoverValue) (o : OutcomeValue)
    → (is : IsGrownOutcome (problem_of (limit_of width) net covers) budget o)
    → end_line (head_of o) (opened_in is.growth.tree) (tree_bound is.growth.tree) item.End ≡ Ok tt
grown_end_says width budget net covers o is =
    let P : Problem = problem_of (limit_of width) net covers in
    let tree : Tree Node = is.growth.tree in
    let count : o.opened ≡ opened_in tree =
    is.shows.opened ∙ is.grown.growing.opened ∙ opened_placed P.paths (whole_task P budget).family (whole_task P budget).bound tree in
    let upper : IsTreeBound (preorder tree) (At o.upper) = subst (λ (entries : List Entry). IsTreeBound entries (At o.upper)) is.shows.entries is.shows.upper in
    end_says (head_of o) (opened_in tree) (tree_bound tree) count (one_bound (preorder tree) (tree_bound tree) (At o.upper) (tree_bound_is tree) upper) is.shows.status.optimal
