-- Trees of branch and bound, and what is handed down in them from the root.
use Rattle.std.specs.Prelude.{◌≡◌, ℕ, ◌+◌, if◌then◌else◌, Bool, true, false, List, [], ◌∷◌, ◌++◌, Contains, Option, Some, None}
use Rattle.npp_frac.specs.Rational.{Rational}
use Rattle.npp_rows.specs.PathModel.{PathModel}
use Rattle.npp_rows.specs.Basic.{basic_of}
use Rattle.npp_tree.specs.declared.node.Evidence.{Evidence}
use Rattle.npp_tree.specs.Bounds.{BoundValue, Empty, at_whole, lesser, greater, IsAtMost}
use Rattle.npp_tree.specs.Family.{Family, Division, first_of, second_of}
use Rattle.npp_tree.specs.Evidence.{is_opened}

-- what a tree keeps of a node
pub record Node : Type 0 where
  pub evidence : Evidence Rational
  pub bound : BoundValue

-- a tree: a leaf, or a node that is split by a division, with its first and its second child
pub data Tree (A : Type 0) : Type 0 where
  Leaf : A → Tree A
  Split : A → Division → Tree A → Tree A → Tree A

-- ---- what is handed down

-- a node where it stands: the family that it allows, its bound before it is opened, and how it is split, if it is
pub record Placed (A : Type 0) : Type 0 where
  pub family : Family
  pub before : BoundValue
  pub node : A
  pub division : Option Division

-- the bound of a node before it is opened: the lesser of its parent's bound and the basic bound
abbrev pub bound_before : PathModel → Family → BoundValue → BoundValue
bound_before m family parent = lesser parent (at_whole (basic_of m family))

-- and after: the value of its evidence where that is less
abbrev pub bound_after : BoundValue → Option BoundValue → BoundValue
bound_after before None = before
bound_after before (Some value) = lesser before value

abbrev pub place : {A : Type 0} → PathModel → Family → BoundValue → A → Option Division → Placed A
place m family parent node division = record {
  family = family;
  before = bound_before m family parent;
  node = node;
  division = division;
}

-- the nodes of a tree in preorder, below a parent of this bound. A child has a part of its parent's family, and its parent's bound
abbrev pub placed : {A : Type 0} → (A → BoundValue) → PathModel → Family → BoundValue → Tree A → List (Placed A)
placed bound m family parent (Leaf a) = place m family parent a None ∷ []
placed bound m family parent (Split a d first second) =
    place m family parent a (Some d) ∷ placed bound m (first_of family d) (bound a) first ++ placed bound m (second_of family d) (bound a) second

-- the nodes of a tree
abbrev pub nodes_below : PathModel → Family → BoundValue → Tree Node → List (Placed Node)
nodes_below m family parent tree = placed (λ n. n.bound) m family parent tree

abbrev pub was_opened : Placed Node → Bool
was_opened p = is_opened p.node.evidence

-- ---- the nodes of a certificate

pub record Entry : Type 0 where
  pub node : Node
  pub division : Option Division

-- those of a tree, in preorder
abbrev pub preorder : Tree Node → List Entry
preorder (Leaf n) = record { node = n; division = None } ∷ []
preorder (Split n d first second) = record { node = n; division = Some d } ∷ preorder first ++ preorder second

-- ---- how many nodes were opened

abbrev pub opened_count : Evidence Rational → ℕ
opened_count e = if is_opened e then 1 else 0

abbrev pub opened_in : Tree Node → ℕ
opened_in (Leaf n) = opened_count n.evidence
opened_in (Split n d first second) = opened_count n.evidence + opened_in first + opened_in second

-- whether a node is not split
abbrev pub is_leaf : Option Division → Bool
is_leaf None = true
is_leaf (Some d) = false

-- ---- the bound of a tree: the greatest bound of a leaf

abbrev pub tree_bound : Tree Node → BoundValue
tree_bound (Leaf n) = n.bound
tree_bound (Split n d first second) = greater (tree_bound first) (tree_bound second)

-- the bound of a leaf; no other entry counts
abbrev pub leaf_bound : Entry → BoundValue
leaf_bound e = if is_leaf e.division then e.node.bound else Empty

-- the greatest bound of a leaf among the entries of a certificate, and Empty where there is none
abbrev pub leaves_bound : List Entry → BoundValue
leaves_bound [] = Empty
leaves_bound (e ∷ entries) = greater (leaf_bound e) (leaves_bound entries)

-- a leaf has it, and no leaf a greater one
pub record IsTreeBound (entries : List Entry) (b : BoundValue) : Type 0 where
  pub attained : (e : Entry) × Contains entries e × (e.division ≡ None) × (e.node.bound ≡ b)
  pub greatest : (e : Entry) → Contains entries e → e.division ≡ None → IsAtMost e.node.bound b

-- ---- a tree in the place of a node

-- the tree with another in the place of the node at an address: false leads to the first child, true to the second
abbrev pub grafted : {A : Type 0} → Tree A → List Bool → Tree A → Tree A
grafted tree [] other = other
grafted (Leaf a) (side ∷ address) other = Leaf a
grafted (Split a d first second) (false ∷ address) other = Split a d (grafted first address other) second
grafted (Split a d first second) (true ∷ address) other = Split a d first (grafted second address other)
