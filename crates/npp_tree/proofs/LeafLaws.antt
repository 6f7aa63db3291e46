-- The bound of a tree is the greatest bound of a leaf among the entries of its certificate.
use Rattle.std.proofs.Common.{◌≡◌, ℕ, ◌+◌, ◌<◌, cond, List, [], ◌∷◌, ◌++◌, length, map, take, get_or, refl, ap, sym, ◌∙◌}
use Rattle.std.proofs.lemmas.List.{take_more, map-append}
use Rattle.npp_frac.specs.Rational.{Rational}
use Rattle.npp_tree.specs.declared.node.Branch.{Branch}
use Rattle.npp_tree.specs.declared.node.Branch.TheVariants as branch
use Rattle.npp_tree.specs.declared.node.CertNode.{CertNode}
use Rattle.npp_tree.specs.Bounds.{BoundValue, Empty, bound_value, greater}
use Rattle.npp_tree.specs.Outcome.{division_of, entry_value}
use Rattle.npp_tree.specs.Tree.{Node, Tree, Leaf, Split, Entry, preorder, tree_bound, is_leaf, leaf_bound, leaves_bound}
use Rattle.npp_tree.proofs.GreaterLaws.{empty-greater, greater-empty, greater_assoc}

pub leaves_bound-append : (xs ys : List Entry) → leaves_bound (xs ++ ys) ≡ greater (leaves_bound xs) (leaves_bound ys)
leaves_bound-append [] ys = sym (empty-greater (leaves_bound ys))
leaves_bound-append (x ∷ xs) ys =
    ap (λ (b : BoundValue). greater (leaf_bound x) b) (leaves_bound-append xs ys) ∙ greater_assoc (leaf_bound x) (leaves_bound xs) (leaves_bound ys)

-- one entry more
pub leaves_bound-push : (xs : List Entry) (x : Entry) → leaves_bound (xs ++ x ∷ []) ≡ greater (leaves_bound xs) (leaf_bound x)
leaves_bound-push xs x =
    leaves_bound-append xs (x ∷ []) ∙ ap (λ (b : BoundValue). greater (leaves_bound xs) b) (greater-empty (leaf_bound x))

pub leaves_bound-preorder : (tree : Tree Node) → leaves_bound (preorder tree) ≡ tree_bound tree
leaves_bound-preorder (Leaf n) = greater-empty n.bound
leaves_bound-preorder (Split n d first second) =
    empty-greater (leaves_bound (preorder first ++ preorder second))
    ∙ leaves_bound-append (preorder first) (preorder second)
    ∙ ap (λ (b : BoundValue). greater b (leaves_bound (preorder second))) (leaves_bound-preorder first)
    ∙ ap (λ (b : BoundValue). greater (tree_bound first) b) (leaves_bound-preorder second)

-- ---- entries of a certificate of the code

abbrev bound_below : {N : Type 0} → (N → Rational) → List (CertNode N) → ℕ → BoundValue
bound_below value nodes i = leaves_bound (map (entry_value value) (take i nodes))

-- the greatest bound of a leaf, with one node more
pub bound_below_more : {N : Type 0} (value : N → Rational) (nodes : List (CertNode N)) (i : ℕ) (n : CertNode N) → i < length nodes → n ≡ get_or nodes i n
    → bound_below value nodes (i + 1) ≡ greater (bound_below value nodes i) (leaf_bound (entry_value value n))
bound_below_more value nodes i n lt is =
    ap (λ ns. leaves_bound (map (entry_value value) ns)) (take_more nodes i n lt)
    ∙ ap leaves_bound (map-append (entry_value value) (take i nodes) (get_or nodes i n ∷ []))
    ∙ leaves_bound-push (map (entry_value value) (take i nodes)) (entry_value value (get_or nodes i n))
    ∙ ap (λ x. greater (bound_below value nodes i) (leaf_bound (entry_value value x))) (sym is)

-- a leaf counts by its bound
pub leaf_counts : {N : Type 0} (value : N → Rational) (n : CertNode N) → n.branch ≡ branch.Leaf → leaf_bound (entry_value value n) ≡ bound_value n.bound
leaf_counts value n e = ap (λ b. cond (is_leaf (division_of b)) (bound_value n.bound) Empty) e

-- and a node that is split does not
pub split_counts : {N : Type 0} (value : N → Rational) (n : CertNode N) → (n.branch ≡ branch.Leaf → ⊥) → leaf_bound (entry_value value n) ≡ Empty
split_counts value n e = by_branch n.branch refl
  where
    by_branch : (b : Branch) → n.branch ≡ b → cond (is_leaf (division_of b)) (bound_value n.bound) Empty ≡ Empty
    by_branch branch.Leaf same = absurd (e same)
    by_branch (branch.Split k part) same = refl
