-- How a tree stands in a slab: each node under its key, with the keys of its children. No public clause cites this.
use Rattle.std.specs.Prelude.{◌≡◌, ℕ, zero, suc, ◌+◌, ◌<◌, max, List, [], ◌∷◌, ◌++◌, Option, Some, None}
use Rattle.npp_frac.specs.Rational.{Rational}
use Rattle.slab.specs.Slab.{Slab, get, slab_len, Updates}
use Rattle.npp_tree.specs.declared.grow.GrowNode.{GrowNode}
use Rattle.npp_tree.specs.declared.grow.Below.{Below}
use Rattle.npp_tree.specs.declared.grow.Below.TheVariants as below
use Rattle.npp_tree.specs.declared.node.Branch.{Branch}
use Rattle.npp_tree.specs.declared.node.Branch.TheVariants as branch
use Rattle.npp_tree.specs.declared.node.CertNode.{CertNode}
use Rattle.npp_tree.specs.Bounds.{bound_value, Empty}
use Rattle.npp_tree.specs.Evidence.{evidence_value}
use Rattle.npp_tree.specs.Family.{Division}
use Rattle.npp_tree.specs.Tree.{Tree, Leaf, Split}
use Rattle.npp_tree.specs.Keyed.{Held, HasKeys, unopened}

-- a node of the slab with its key
abbrev pub held_of : {N : Type 0} → (N → Rational) → ℕ → GrowNode N → Held
held_of value key g = record { key = key; node = record { evidence = evidence_value value g.evidence; bound = bound_value g.bound } }

module _ {N : Type 0} (value : N → Rational) where
  -- a leaf under its key
  pub record IsLeafIn (look : ℕ → Option (GrowNode N)) (h : Held) (key : ℕ) : Type 0 where
    pub node : GrowNode N
    pub there : look key ≡ Some node
    pub same : h ≡ held_of value key node
    pub leaf : node.below ≡ below.Leaf

  -- a node that is split under its key, with what is to be of the keys of its children
  pub record IsSplitIn (look : ℕ → Option (GrowNode N)) (h : Held) (d : Division) (First Second : ℕ → Type 0) (key : ℕ) : Type 0 where
    pub node : GrowNode N
    pub there : look key ≡ Some node
    pub same : h ≡ held_of value key node
    pub one : ℕ
    pub other : ℕ
    pub split : node.below ≡ below.Children d.commodity d.part one other
    pub first : First one
    pub second : Second other

  -- the tree stands in the slab, its root under this key
  abbrev pub Stands : (ℕ → Option (GrowNode N)) → Tree Held → ℕ → Type 0
  Stands look (Leaf h) key = IsLeafIn look h key
  Stands look (Split h d first second) key = IsSplitIn look h d (Stands look first) (Stands look second) key

  -- ---- the tree that is read from the slab

  abbrev pub tree_from : (ℕ → Tree Held) → Held → Below → Tree Held
  tree_from sub h below.Leaf = Leaf h
  tree_from sub h (below.Children k part one other) = Split h (record { commodity = k; part = part }) (sub one) (sub other)

  abbrev pub tree_of : (ℕ → Tree Held) → ℕ → Option (GrowNode N) → Tree Held
  tree_of sub key None = Leaf (unopened key Empty)
  tree_of sub key (Some g) = tree_from sub (held_of value key g) g.below

  -- the tree under a key, by so many steps down at most
  abbrev pub tree_at : ℕ → (ℕ → Option (GrowNode N)) → ℕ → Tree Held
  tree_at zero look key = Leaf (unopened key Empty)
  tree_at (suc n) look key = tree_of (λ k. tree_at n look k) key (look key)

  -- the whole tree of a slab: it has as many steps as the slab has nodes
  abbrev pub whole_tree : Slab (GrowNode N) → ℕ → Tree Held
  whole_tree slab root = tree_at (slab_len slab) (λ k. get slab k) root

-- the most splits above a leaf
abbrev pub height : {A : Type 0} → Tree A → ℕ
height (Leaf a) = 0
height (Split a d first second) = max (height first) (height second) + 1

-- the slab holds the tree
pub record IsHeld {N : Type 0} (value : N → Rational) (slab : Slab (GrowNode N)) (root : ℕ) (tree : Tree Held) : Type 0 where
  pub stands : Stands value (λ k. get slab k) tree root
  pub keys : HasKeys tree
  pub low : height tree < slab_len slab

-- ---- a node that is taken out

-- what comes below a node, without the keys of its children
abbrev pub branch_of : Below → Branch
branch_of below.Leaf = branch.Leaf
branch_of (below.Children k part one other) = branch.Split k part

-- the keys of the children as they are put on a stack: the first child's on top
abbrev pub stacked : Below → List ℕ
stacked below.Leaf = []
stacked (below.Children k part one other) = other ∷ one ∷ []

-- the node as one of a certificate
abbrev pub cert_node : {N : Type 0} → GrowNode N → CertNode N
cert_node g = record { evidence = g.evidence; branch = branch_of g.below; bound = g.bound }

-- a node is taken out of the slab, and the keys of its children are put on the stack
pub record Takes {N : Type 0} (old new : Slab (GrowNode N)) (key : ℕ) (before after : List ℕ) (taken : CertNode N) : Type 0 where
  pub node : GrowNode N
  pub there : get old key ≡ Some node
  pub gone : Updates old new key None
  pub fewer : slab_len new + 1 ≡ slab_len old
  pub stack : after ≡ before ++ stacked node.below
  pub given : taken ≡ cert_node node
