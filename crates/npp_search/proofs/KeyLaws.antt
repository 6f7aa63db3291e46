-- A leaf that is named by its key is opened, and maybe split: what that does to the nodes of the tree.
use Rattle.std.proofs.Common.{◌≡◌, ◌≢◌, inl, inr, ℕ, ◌≤◌, Bool, true, false, cond, nat_eq, List, [], ◌∷◌, ◌++◌, map, refl, sym, ◌∙◌, subst, ap, arith, Contains, Some, None}
use Rattle.std.specs.Prelude.{is_none, flat_map, sum_by, count_by}
use Rattle.std.proofs.lemmas.Bool.{ne_eqb, eq-eqb, and_right, and_from}
use Rattle.std.proofs.lemmas.List.{map-append}
use Rattle.std.proofs.lemmas.List.Sums.{sum_by-cons, sum_by-append}
use Rattle.npp_rows.specs.PathModel.{PathModel}
use Rattle.npp_tree.specs.Bounds.{BoundValue}
use Rattle.npp_tree.specs.Family.{Family, Division, first_of, second_of}
use Rattle.npp_tree.specs.Evidence.{is_opened}
use Rattle.npp_tree.specs.Tree.{Node, Tree, Leaf, Split, Placed, place, placed, nodes_below, was_opened}
use Rattle.npp_tree.specs.Keyed.{Held, HasKeys, key_count, settled, split_at, without_key, without_keys}
use Rattle.npp_tree.proofs.CountLaws.{in_cases}
use Rattle.npp_tree.proofs.KeyedLaws.{one_at, one_at_own, key_count-leaf, key_count-split}
use Rattle.npp_tree.proofs.PlacedLaws.{bound_of, is_leaf_at, settle_in, split_in, placed-settled, placed-split_at, placed-on_nodes}
use Rattle.npp_search.specs.Turn.{Opens}
use Rattle.npp_search.proofs.OpensLaws.{around, flat_one, opens_from}

-- ---- keys

-- how many of the nodes have the key
abbrev pub held_count : List (Placed Held) → ℕ → ℕ
held_count nodes key = sum_by (λ p. one_at key p.node) nodes

pub held_count-placed : (m : PathModel) (family : Family) (parent : BoundValue) (tree : Tree Held) (key : ℕ)
    → held_count (placed bound_of m family parent tree) key ≡ key_count tree key
held_count-placed m family parent (Leaf a) key = omega (arith, key_count-leaf a key, sum_by-cons (λ (p : Placed Held). one_at key p.node) (place m family parent a None) [])
held_count-placed m family parent (Split a d first second) key =
    let f : Placed Held → ℕ = λ p. one_at key p.node in
    let left = placed bound_of m (first_of family d) a.node.bound first in
    let right = placed bound_of m (second_of family d) a.node.bound second in
    omega (
      arith,
      key_count-split a d first second key,
      sum_by-cons f (place m family parent a (Some d)) (left ++ right),
      sum_by-append f left right,
      held_count-placed m (first_of family d) a.node.bound first key,
      held_count-placed m (second_of family d) a.node.bound second key,
    )

-- where none of the nodes has a key, each has another
pub none_has : (nodes : List (Placed Held)) (key : ℕ) → held_count nodes key ≡ 0 → (q : Placed Held) → Contains nodes q → q.node.key ≢ key
none_has [] key none q c same = (let lt = c.1 in absurd (omega arith))
none_has (p ∷ nodes) key none q c same =
    let sum = sum_by-cons (λ (r : Placed Held). one_at key r.node) p nodes in
    elim (in_cases p q nodes c) [
      | inl here ↦ (let one = one_at_own key p.node (ap (λ (r : Placed Held). r.node.key) here ∙ same) in absurd (omega (arith, sum, none, one)))
      | inr rest ↦ none_has nodes key (omega (arith, sum, none)) q rest same
    ]

-- of nodes with keys of their own, all others than one have another key than it
pub others_apart : (front back : List (Placed Held)) (p : Placed Held) → held_count (front ++ p ∷ back) p.node.key ≤ 1
    → (held_count front p.node.key ≡ 0) × (held_count back p.node.key ≡ 0)
others_apart front back p few =
    let f : Placed Held → ℕ = λ q. one_at p.node.key q.node in
    let one = one_at_own p.node.key p.node refl in
    let both = sum_by-append f front (p ∷ back) in
    let sum = sum_by-cons f p back in
    (omega (arith, few, one, both, sum), omega (arith, few, one, both, sum))

-- ---- what stands for a node of another key, and for the leaf of the key

not_leaf : (key : ℕ) (q : Placed Held) → q.node.key ≢ key → is_leaf_at key q ≡ false
not_leaf key q apart = and_right (is_none q.division) (nat_eq q.node.key key) (ne_eqb q.node.key key apart)

is_leaf : (key : ℕ) (q : Placed Held) → q.division ≡ None → q.node.key ≡ key → is_leaf_at key q ≡ true
is_leaf key q leaf same = and_from (is_none q.division) (nat_eq q.node.key key) (ap is_none leaf) (eq-eqb q.node.key key same)

settle_other : (h : Held) (q : Placed Held) → q.node.key ≢ h.key → settle_in h q ≡ q ∷ []
settle_other h q apart = ap (λ b. cond b (record q { node = h } ∷ []) (q ∷ [])) (not_leaf h.key q apart)

settle_here : (h : Held) (q : Placed Held) → q.division ≡ None → q.node.key ≡ h.key → settle_in h q ≡ record q { node = h } ∷ []
settle_here h q leaf same = ap (λ b. cond b (record q { node = h } ∷ []) (q ∷ [])) (is_leaf h.key q leaf same)

-- the nodes of the tree before and after a leaf is settled, round the leaf
pub record Settles (m : PathModel) (family : Family) (parent : BoundValue) (tree : Tree Held) (h : Held) (p : Placed Held) : Type 0 where
  pub front : List (Placed Held)
  pub back : List (Placed Held)
  pub old : placed bound_of m family parent tree ≡ front ++ p ∷ back
  pub new : placed bound_of m family parent (settled tree h) ≡ front ++ record p { node = h } ∷ back
  pub before : (q : Placed Held) → Contains front q → q.node.key ≢ h.key
  pub after : (q : Placed Held) → Contains back q → q.node.key ≢ h.key

pub settles : (m : PathModel) (family : Family) (parent : BoundValue) (tree : Tree Held) (h : Held) (p : Placed Held) → HasKeys tree
    → Contains (placed bound_of m family parent tree) p → p.division ≡ None → p.node.key ≡ h.key → Settles m family parent tree h p
settles m family parent tree h p keys c leaf same =
    let r = around (placed bound_of m family parent tree) p c in
    let few : held_count (r.0 ++ p ∷ r.1) p.node.key ≤ 1 =
    subst (λ (ps : List (Placed Held)). held_count ps p.node.key ≤ 1) r.2.same
    (subst (λ (n : ℕ). n ≤ 1) (sym (held_count-placed m family parent tree p.node.key)) (keys p.node.key)) in
    let apart = others_apart r.0 r.1 p few in
    let before : (q : Placed Held) → Contains r.0 q → q.node.key ≢ h.key = λ q d e. none_has r.0 p.node.key apart.0 q d (e ∙ sym same) in
    let after : (q : Placed Held) → Contains r.1 q → q.node.key ≢ h.key = λ q d e. none_has r.1 p.node.key apart.1 q d (e ∙ sym same) in
    record {
      front = r.0;
      back = r.1;
      old = r.2.same;
      new = placed-settled m family parent tree h ∙ (ap (flat_map (settle_in h)) r.2.same
          ∙ (flat_one (settle_in h) r.0 r.1 p (λ q d. settle_other h q (before q d)) (λ q d. settle_other h q (after q d))
          ∙ ap (λ ps. r.0 ++ (ps ++ r.1)) (settle_here h p leaf same)));
      before = before;
      after = after;
    }

-- a leaf that was not opened is settled: it is the one that is opened
pub opens_settled : (m : PathModel) (family : Family) (parent : BoundValue) (tree : Tree Held) (h : Held) (p : Placed Held) → Settles m family parent tree h p
    → is_opened p.node.node.evidence ≡ false → is_opened h.node.evidence ≡ true
    → Opens (nodes_below m family parent (without_keys tree)) (nodes_below m family parent (without_keys (settled tree h)))
    (without_key p) (without_key (record p { node = h })) []
opens_settled m family parent tree h p s closed opened =
    let front = map without_key s.front in
    let back = map without_key s.back in
    let now : Placed Held = record p { node = h } in
    let old : nodes_below m family parent (without_keys tree) ≡ front ++ without_key p ∷ back =
    placed-on_nodes m family parent tree ∙ (ap (map without_key) s.old ∙ map-append without_key s.front (p ∷ s.back)) in
    let new : nodes_below m family parent (without_keys (settled tree h)) ≡ front ++ without_key now ∷ back =
    placed-on_nodes m family parent (settled tree h) ∙ (ap (map without_key) s.new ∙ map-append without_key s.front (now ∷ s.back)) in
    let opens : Opens (front ++ without_key p ∷ back) (front ++ without_key now ∷ ([] ++ back)) (without_key p) (without_key now) [] =
    opens_from front back [] (without_key p) (without_key now) refl refl closed opened refl in
    subst (λ (ps : List (Placed Node)). Opens ps (nodes_below m family parent (without_keys (settled tree h))) (without_key p) (without_key now) []) (sym old)
    (subst (λ (ps : List (Placed Node)). Opens (front ++ without_key p ∷ back) ps (without_key p) (without_key now) []) (sym new) opens)

-- ---- and split

abbrev pub one_if : Bool → ℕ
one_if b = cond b 1 0

abbrev pub one_if_opened : Placed Node → ℕ
one_if_opened p = one_if (was_opened p)

-- the two children of a node
abbrev pub children_of : PathModel → Placed Held → Division → Held → Held → List (Placed Held)
children_of m p d first second =
    place m (first_of p.family d) p.node.node.bound first None ∷ place m (second_of p.family d) p.node.node.bound second None ∷ []

abbrev pub with_children : PathModel → Placed Held → Division → Held → Held → List (Placed Held)
with_children m p d first second = record p { division = Some d } ∷ children_of m p d first second

split_other : (m : PathModel) (key : ℕ) (d : Division) (first second : Held) (q : Placed Held) → q.node.key ≢ key → split_in m key d first second q ≡ q ∷ []
split_other m key d first second q apart = ap (λ b. cond b (with_children m q d first second) (q ∷ [])) (not_leaf key q apart)

split_here : (m : PathModel) (key : ℕ) (d : Division) (first second : Held) (q : Placed Held) → q.division ≡ None → q.node.key ≡ key
    → split_in m key d first second q ≡ with_children m q d first second
split_here m key d first second q leaf same = ap (λ b. cond b (with_children m q d first second) (q ∷ [])) (is_leaf key q leaf same)

-- the nodes of the tree after the leaf is settled and split
pub placed_split : (m : PathModel) (family : Family) (parent : BoundValue) (tree : Tree Held) (h : Held) (p : Placed Held) (d : Division) (first second : Held)
    (s : Settles m family parent tree h p) → p.division ≡ None
    → placed bound_of m family parent (split_at (settled tree h) h.key d first second)
    ≡ s.front ++ record p { node = h; division = Some d } ∷ (children_of m (record p { node = h }) d first second ++ s.back)
placed_split m family parent tree h p d first second s leaf =
    let now : Placed Held = record p { node = h } in
    placed-split_at m family parent (settled tree h) h.key d first second ∙ (ap (flat_map (split_in m h.key d first second)) s.new
    ∙ (flat_one (split_in m h.key d first second) s.front s.back now
    (λ q c. split_other m h.key d first second q (s.before q c)) (λ q c. split_other m h.key d first second q (s.after q c))
    ∙ ap (λ ps. s.front ++ (ps ++ s.back)) (split_here m h.key d first second now leaf refl)))

-- a leaf that was not opened is settled and split: it is the one that is opened, with two children
pub opens_split : (m : PathModel) (family : Family) (parent : BoundValue) (tree : Tree Held) (h : Held) (p : Placed Held) (d : Division) (first second : Held)
    → Settles m family parent tree h p → p.division ≡ None → is_opened p.node.node.evidence ≡ false → is_opened h.node.evidence ≡ true
    → is_opened first.node.evidence ≡ false → is_opened second.node.evidence ≡ false
    → Opens (nodes_below m family parent (without_keys tree))
    (nodes_below m family parent (without_keys (split_at (settled tree h) h.key d first second)))
    (without_key p) (without_key (record p { node = h; division = Some d })) (map without_key (children_of m (record p { node = h }) d first second))
opens_split m family parent tree h p d first second s leaf closed opened closed_first closed_second =
    let front = map without_key s.front in
    let back = map without_key s.back in
    let now : Placed Held = record p { node = h } in
    let split : Placed Held = record p { node = h; division = Some d } in
    let children = map without_key (children_of m now d first second) in
    let grown : Tree Held = split_at (settled tree h) h.key d first second in
    let old : nodes_below m family parent (without_keys tree) ≡ front ++ without_key p ∷ back =
    placed-on_nodes m family parent tree ∙ (ap (map without_key) s.old ∙ map-append without_key s.front (p ∷ s.back)) in
    let held = placed_split m family parent tree h p d first second s leaf in
    let new : nodes_below m family parent (without_keys grown) ≡ front ++ without_key split ∷ (children ++ back) =
    placed-on_nodes m family parent grown ∙ (ap (map without_key) held ∙ map-append without_key s.front (split ∷ (children_of m now d first second ++ s.back))) in
    let none : count_by was_opened children ≡ 0 = none_opened (without_key (place m (first_of now.family d) now.node.node.bound first None))
    (without_key (place m (second_of now.family d) now.node.node.bound second None)) closed_first closed_second in
    let opens : Opens (front ++ without_key p ∷ back) (front ++ without_key split ∷ (children ++ back)) (without_key p) (without_key split) children =
    opens_from front back children (without_key p) (without_key split) refl refl closed opened none in
    subst (λ (ps : List (Placed Node)). Opens ps (nodes_below m family parent (without_keys grown)) (without_key p) (without_key split) children) (sym old)
    (subst (λ (ps : List (Placed Node)). Opens (front ++ without_key p ∷ back) ps (without_key p) (without_key split) children) (sym new) opens)
  where
    none_opened : (a b : Placed Node) → was_opened a ≡ false → was_opened b ≡ false → count_by was_opened (a ∷ b ∷ []) ≡ 0
    none_opened a b e f =
        let one : one_if_opened a ≡ 0 = ap (λ (t : Bool). one_if t) e in
        let two : one_if_opened b ≡ 0 = ap (λ (t : Bool). one_if t) f in
        omega (arith, one, two, sum_by-append one_if_opened (a ∷ []) (b ∷ []))

-- ---- both cases

-- the nodes of a tree before and after one of them is opened: where they stand, with their keys
pub record OpensAt (m : PathModel) (family : Family) (parent : BoundValue) (old new : Tree Held) (p now : Placed Held) (children : List (Placed Held)) : Type 0 where
  pub front : List (Placed Held)
  pub back : List (Placed Held)
  pub was : placed bound_of m family parent old ≡ front ++ p ∷ back
  pub is : placed bound_of m family parent new ≡ front ++ now ∷ (children ++ back)
  pub before : (q : Placed Held) → Contains front q → q.node.key ≢ p.node.key
  pub after : (q : Placed Held) → Contains back q → q.node.key ≢ p.node.key
  pub opens : Opens (nodes_below m family parent (without_keys old)) (nodes_below m family parent (without_keys new)) (without_key p) (without_key now) (map without_key children)

module _ (m : PathModel) (family : Family) (parent : BoundValue) (tree : Tree Held) (h : Held) (p : Placed Held) (s : Settles m family parent tree h p)
    (leaf : p.division ≡ None) (same : p.node.key ≡ h.key) (closed : is_opened p.node.node.evidence ≡ false) (opened : is_opened h.node.evidence ≡ true) where
  pub settled_at : OpensAt m family parent tree (settled tree h) p (record p { node = h }) []
  settled_at = record {
    front = s.front;
    back = s.back;
    was = s.old;
    is = s.new;
    before = λ q c e. s.before q c (e ∙ same);
    after = λ q c e. s.after q c (e ∙ same);
    opens = opens_settled m family parent tree h p s closed opened;
  }

  pub split_there : (d : Division) (first second : Held) → is_opened first.node.evidence ≡ false → is_opened second.node.evidence ≡ false
      → OpensAt m family parent tree (split_at (settled tree h) h.key d first second) p (record p { node = h; division = Some d })
      (children_of m (record p { node = h }) d first second)
  split_there d first second closed_first closed_second = record {
    front = s.front;
    back = s.back;
    was = s.old;
    is = placed_split m family parent tree h p d first second s leaf;
    before = λ q c e. s.before q c (e ∙ same);
    after = λ q c e. s.after q c (e ∙ same);
    opens = opens_split m family parent tree h p d first second s leaf closed opened closed_first closed_second;
  }
