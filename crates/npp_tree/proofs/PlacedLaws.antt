-- The nodes of a tree under construction after one of them is settled or split.
use Rattle.std.proofs.Common.{◌≡◌, inl, inr, ℕ, Bool, true, false, cond, nat_eq, List, [], ◌∷◌, ◌++◌, map, refl, sym, ◌∙◌, ap, ap₂, subst, arith, Some, None, Contains}
use Rattle.std.specs.Prelude.{◌&&◌, is_none, flat_map}
use Rattle.std.proofs.lemmas.Bool.{eq-eqb}
use Rattle.std.proofs.lemmas.Grind.{flat_map-append}
use Rattle.std.proofs.lemmas.List.Elements.{Contains-append_left, Contains-append_right, Contains-append_cases}
use Rattle.std.proofs.lemmas.List.{map-append}
use Rattle.npp_tree.specs.Bounds.{BoundValue}
use Rattle.npp_tree.specs.Family.{Family, Division, first_of, second_of}
use Rattle.npp_rows.specs.PathModel.{PathModel}
use Rattle.npp_tree.specs.Tree.{Node, Tree, Leaf, Split, Placed, place, placed, nodes_below}
use Rattle.npp_tree.proofs.CountLaws.{in_head, in_cases}
use Rattle.npp_tree.specs.Keyed.{Held, settled, split_at, in_order, leaves_in, without_key, without_keys}

abbrev pub bound_of : Held → BoundValue
bound_of h = h.node.bound

-- whether it is the leaf of this key
abbrev pub is_leaf_at : ℕ → Placed Held → Bool
is_leaf_at key p = is_none p.division && nat_eq p.node.key key

-- the nodes that stand in the place of a node after the leaf of a key is settled
abbrev pub settle_in : Held → Placed Held → List (Placed Held)
settle_in h p = cond (is_leaf_at h.key p) (record p { node = h } ∷ []) (p ∷ [])

-- and after the leaf of a key is split
abbrev pub split_in : PathModel → ℕ → Division → Held → Held → Placed Held → List (Placed Held)
split_in m key d first second p = cond (is_leaf_at key p)
    (record p { division = Some d } ∷ place m (first_of p.family d) p.node.node.bound first None ∷ place m (second_of p.family d) p.node.node.bound second None ∷ [])
    (p ∷ [])

settled_leaf : (m : PathModel) (family : Family) (parent : BoundValue) (a h : Held) (b : Bool)
    → placed bound_of m family parent (cond b (Leaf h) (Leaf a)) ≡ cond b (place m family parent h None ∷ []) (place m family parent a None ∷ []) ++ []
settled_leaf m family parent a h true = refl
settled_leaf m family parent a h false = refl

pub placed-settled : (m : PathModel) (family : Family) (parent : BoundValue) (tree : Tree Held) (h : Held)
    → placed bound_of m family parent (settled tree h) ≡ flat_map (settle_in h) (placed bound_of m family parent tree)
placed-settled m family parent (Leaf a) h = settled_leaf m family parent a h (nat_eq a.key h.key)
placed-settled m family parent (Split a d first second) h =
    ap (λ ps. place m family parent a (Some d) ∷ ps)
    (ap₂ (λ xs ys. xs ++ ys) (placed-settled m (first_of family d) a.node.bound first h) (placed-settled m (second_of family d) a.node.bound second h)
    ∙ sym (flat_map-append (settle_in h) (placed bound_of m (first_of family d) a.node.bound first) (placed bound_of m (second_of family d) a.node.bound second)))

split_leaf : (m : PathModel) (family : Family) (parent : BoundValue) (a : Held) (d : Division) (first second : Held) (b : Bool)
    → placed bound_of m family parent (cond b (Split a d (Leaf first) (Leaf second)) (Leaf a))
    ≡ cond b (place m family parent a (Some d) ∷ place m (first_of family d) a.node.bound first None ∷ place m (second_of family d) a.node.bound second None ∷ [])
    (place m family parent a None ∷ []) ++ []
split_leaf m family parent a d first second true = refl
split_leaf m family parent a d first second false = refl

pub placed-split_at : (m : PathModel) (family : Family) (parent : BoundValue) (tree : Tree Held) (key : ℕ) (d : Division) (first second : Held)
    → placed bound_of m family parent (split_at tree key d first second) ≡ flat_map (split_in m key d first second) (placed bound_of m family parent tree)
placed-split_at m family parent (Leaf a) key d first second = split_leaf m family parent a d first second (nat_eq a.key key)
placed-split_at m family parent (Split a e left right) key d first second =
    ap (λ ps. place m family parent a (Some e) ∷ ps)
    (ap₂ (λ xs ys. xs ++ ys) (placed-split_at m (first_of family e) a.node.bound left key d first second) (placed-split_at m (second_of family e) a.node.bound right key d first second)
    ∙ sym (flat_map-append (split_in m key d first second) (placed bound_of m (first_of family e) a.node.bound left) (placed bound_of m (second_of family e) a.node.bound right)))

-- ---- without keys

pub placed-on_nodes : (m : PathModel) (family : Family) (parent : BoundValue) (tree : Tree Held)
    → nodes_below m family parent (without_keys tree) ≡ map without_key (placed bound_of m family parent tree)
placed-on_nodes m family parent (Leaf a) = refl
placed-on_nodes m family parent (Split a d first second) =
    ap (λ ps. place m family parent a.node (Some d) ∷ ps)
    (ap₂ (λ xs ys. xs ++ ys) (placed-on_nodes m (first_of family d) a.node.bound first) (placed-on_nodes m (second_of family d) a.node.bound second)
    ∙ sym (map-append without_key (placed bound_of m (first_of family d) a.node.bound first) (placed bound_of m (second_of family d) a.node.bound second)))

pub in_order-placed : (m : PathModel) (family : Family) (parent : BoundValue) (tree : Tree Held) → in_order tree ≡ map (λ p. p.node) (placed bound_of m family parent tree)
in_order-placed m family parent (Leaf a) = refl
in_order-placed m family parent (Split a d first second) =
    ap (λ hs. a ∷ hs)
    (ap₂ (λ xs ys. xs ++ ys) (in_order-placed m (first_of family d) a.node.bound first) (in_order-placed m (second_of family d) a.node.bound second)
    ∙ sym (map-append (λ p. p.node) (placed bound_of m (first_of family d) a.node.bound first) (placed bound_of m (second_of family d) a.node.bound second)))

-- ---- leaves

-- a node that is not split is a leaf of the tree
pub leaf_among : (m : PathModel) (family : Family) (parent : BoundValue) (tree : Tree Held) (p : Placed Held) → Contains (placed bound_of m family parent tree) p → p.division ≡ None
    → Contains (leaves_in tree) p.node
leaf_among m family parent (Leaf a) p c leaf = elim (in_cases _ p [] c) [
  | inl same ↦ subst (λ (h : Held). Contains (a ∷ []) h) (ap (λ (x : Placed Held). x.node) same) (in_head a [])
  | inr none ↦ (let lt = none.1 in absurd (omega arith))
]
leaf_among m family parent (Split a d first second) p c leaf =
    let left = placed bound_of m (first_of family d) a.node.bound first in
    let right = placed bound_of m (second_of family d) a.node.bound second in
    elim (in_cases _ p (left ++ right) c) [
      | inl same ↦ absurd (not_both (ap (λ (x : Placed Held). x.division) same ∙ leaf))
      | inr rest ↦ elim (Contains-append_cases left right p rest) [
        | inl on_left ↦ Contains-append_left (leaves_in first) (leaves_in second) p.node (leaf_among m (first_of family d) a.node.bound first p on_left leaf)
        | inr on_right ↦ Contains-append_right (leaves_in first) (leaves_in second) p.node (leaf_among m (second_of family d) a.node.bound second p on_right leaf)
      ]
    ]
  where
    not_both : Some d ≡ None → ⊥
    not_both e = cc

-- what a leaf is settled with is a leaf
pub settled_among : (tree : Tree Held) (h l : Held) → Contains (leaves_in tree) l → l.key ≡ h.key → Contains (leaves_in (settled tree h)) h
settled_among (Leaf a) h l c same = elim (in_cases a l [] c) [
  | inl here ↦ subst (λ (b : Bool). Contains (leaves_in (cond b (Leaf h) (Leaf a))) h) (sym (eq-eqb a.key h.key (ap (λ (x : Held). x.key) here ∙ same))) (in_head h [])
  | inr none ↦ (let lt = none.1 in absurd (omega arith))
]
settled_among (Split a d first second) h l c same = elim (Contains-append_cases (leaves_in first) (leaves_in second) l c) [
  | inl left ↦ Contains-append_left (leaves_in (settled first h)) (leaves_in (settled second h)) h (settled_among first h l left same)
  | inr right ↦ Contains-append_right (leaves_in (settled first h)) (leaves_in (settled second h)) h (settled_among second h l right same)
]
