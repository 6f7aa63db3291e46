-- Trees under construction: each node has a key by which it is named.
use Rattle.std.specs.Prelude.{◌≡◌, ℕ, ◌≤◌, ◌≢◌, Bool, true, false, List, [], ◌∷◌, ◌++◌, Contains, if◌then◌else◌, nat_eq, count_by}
use Rattle.npp_tree.specs.declared.node.Evidence.TheVariants.{Unopened}
use Rattle.npp_tree.specs.Bounds.{BoundValue}
use Rattle.npp_tree.specs.Evidence.{is_opened}
use Rattle.npp_tree.specs.Family.{Division}
use Rattle.npp_tree.specs.Tree.{Node, Tree, Leaf, Split, Placed}

-- a node with its key
pub record Held : Type 0 where
  pub key : ℕ
  pub node : Node

-- the tree with another thing at each node
abbrev pub on_nodes : {A B : Type 0} → (A → B) → Tree A → Tree B
on_nodes f (Leaf a) = Leaf (f a)
on_nodes f (Split a d first second) = Split (f a) d (on_nodes f first) (on_nodes f second)

-- what stands at the nodes, in preorder
abbrev pub in_order : {A : Type 0} → Tree A → List A
in_order (Leaf a) = a ∷ []
in_order (Split a d first second) = a ∷ in_order first ++ in_order second

-- what stands at the leaves
abbrev pub leaves_in : {A : Type 0} → Tree A → List A
leaves_in (Leaf a) = a ∷ []
leaves_in (Split a d first second) = leaves_in first ++ leaves_in second

-- the tree without its keys
abbrev pub without_keys : Tree Held → Tree Node
without_keys tree = on_nodes (λ h. h.node) tree

-- a node where it stands, without its key
abbrev pub without_key : Placed Held → Placed Node
without_key p = record { family = p.family; before = p.before; node = p.node.node; division = p.division }

-- ---- keys

-- the key of the root
abbrev pub root_key : Tree Held → ℕ
root_key (Leaf h) = h.key
root_key (Split h d first second) = h.key

-- how many nodes have this key
abbrev pub key_count : Tree Held → ℕ → ℕ
key_count tree key = count_by (λ h. nat_eq h.key key) (in_order tree)

-- no key is that of two nodes
abbrev pub HasKeys : Tree Held → Type 0
HasKeys tree = (key : ℕ) → key_count tree key ≤ 1

-- two keys that differ, and that no node has
pub record AreFresh (tree : Tree Held) (a b : ℕ) : Type 0 where
  pub first : key_count tree a ≡ 0
  pub second : key_count tree b ≡ 0
  pub apart : a ≢ b

-- some leaf has this key, and was opened or not
pub record IsLeafAt (tree : Tree Held) (name : ℕ) (opened : Bool) : Type 0 where
  pub leaf : Held
  pub among : Contains (leaves_in tree) leaf
  pub key : leaf.key ≡ name
  pub state : is_opened leaf.node.evidence ≡ opened

abbrev pub IsUnopenedLeaf : Tree Held → ℕ → Type 0
IsUnopenedLeaf tree key = IsLeafAt tree key false

abbrev pub IsOpenedLeaf : Tree Held → ℕ → Type 0
IsOpenedLeaf tree key = IsLeafAt tree key true

-- ---- how a tree grows

-- a node that was made and not opened, with its bound
abbrev pub unopened : ℕ → BoundValue → Held
unopened key bound = record { key = key; node = record { evidence = Unopened; bound = bound } }

-- the tree with this in the place of the leaf of its key
abbrev pub settled : Tree Held → Held → Tree Held
settled (Leaf a) h = if nat_eq a.key h.key then Leaf h else Leaf a
settled (Split a d first second) h = Split a d (settled first h) (settled second h)

-- the tree with two children below the leaf of this key
abbrev pub split_at : Tree Held → ℕ → Division → Held → Held → Tree Held
split_at (Leaf a) key d first second = if nat_eq a.key key then Split a d (Leaf first) (Leaf second) else Leaf a
split_at (Split a e left right) key d first second = Split a e (split_at left key d first second) (split_at right key d first second)
