-- A tree in a slab: what is read from it, and how it stands after nodes are made, settled, split and taken out.
use Rattle.std.proofs.Common.{◌≡◌, inl, inr, ℕ, zero, suc, ◌+◌, ◌<◌, ◌≤◌, Bool, cond, max, List, [], ◌∷◌, length, refl, sym, ◌∙◌, subst, ap, ap₂, arith, Contains, Option, Some, None}
use Rattle.std.specs.Prelude.{slice_set, is_some}
use Rattle.std.proofs.lemmas.Bool.{cases_eq, eq-eqb, ne_eqb}
use Rattle.std.proofs.lemmas.List.Elements.{Contains-append_cases}
use Rattle.std.proofs.lemmas.List.Sums.{sum_by-set}
use Rattle.std.proofs.Math.Nat.{le-max_left, le-max_right}
use Rattle.npp_frac.specs.Rational.{Rational}
use Rattle.slab.specs.Slab.{Slab, get, slab_len, Updates, with_value}
use Rattle.slab.proofs.SlabLemmas.{ContainsKey-within, Updates-with_value}
use Rattle.npp_tree.specs.declared.grow.GrowNode.{GrowNode}
use Rattle.npp_tree.specs.declared.grow.Below.{Below}
use Rattle.npp_tree.specs.declared.grow.Below.TheVariants as below
use Rattle.npp_tree.specs.Family.{Division}
use Rattle.npp_tree.specs.Tree.{Tree, Leaf, Split}
use Rattle.npp_tree.specs.Keyed.{Held, leaves_in, key_count, HasKeys, AreFresh, settled, split_at}
use Rattle.npp_tree.specs.Arena.{held_of, IsLeafIn, IsSplitIn, Stands, tree_from, tree_of, tree_at, whole_tree, height, IsHeld}
use Rattle.npp_tree.proofs.CountLaws.{in_cases}
use Rattle.npp_tree.proofs.KeyedLaws.{one_at, one_at_own, one_at_other, one_at_most, key_count-leaf, key_count-split, HasKeys-settled, HasKeys-split_at}

not_own : (key : ℕ) (h : Held) → one_at key h ≡ 0 → h.key ≡ key → ⊥
not_own key h none same = let one = one_at_own key h same in absurd (omega (arith, one, none))

module _ {N : Type 0} (value : N → Rational) where
  -- ---- what is read

  pub tree_at-stands : (n : ℕ) (look : ℕ → Option (GrowNode N)) (t : Tree Held) (key : ℕ) → Stands value look t key → height t < n → tree_at value n look key ≡ t
  tree_at-stands zero look t key s low = absurd (omega arith)
  tree_at-stands (suc n) look (Leaf a) key s low =
      let sub : ℕ → Tree Held = λ k. tree_at value n look k in
      ap (tree_of value sub key) s.there ∙ (ap (tree_from value sub (held_of value key s.node)) s.leaf ∙ ap Leaf (sym s.same))
  tree_at-stands (suc n) look (Split a d first second) key s low =
      let sub : ℕ → Tree Held = λ k. tree_at value n look k in
      let left = le-max_left (height first) (height second) in
      let right = le-max_right (height first) (height second) in
      ap (tree_of value sub key) s.there ∙ (ap (tree_from value sub (held_of value key s.node)) s.split
      ∙ (ap₂ (λ t u. Split (held_of value key s.node) d t u) (tree_at-stands n look first s.one s.first (omega (arith, low, left)))
      (tree_at-stands n look second s.other s.second (omega (arith, low, right)))
      ∙ ap (λ h. Split h d first second) (sym s.same)))

  pub whole_is : (slab : Slab (GrowNode N)) (root : ℕ) (t : Tree Held) → IsHeld value slab root t → whole_tree value slab root ≡ t
  whole_is slab root t h = tree_at-stands (slab_len slab) (λ k. get slab k) t root h.stands h.low

  pub held_whole : (slab : Slab (GrowNode N)) (root : ℕ) (t : Tree Held) → IsHeld value slab root t → IsHeld value slab root (whole_tree value slab root)
  held_whole slab root t h = subst (λ (u : Tree Held). IsHeld value slab root u) (sym (whole_is slab root t h)) h

  -- ---- which keys matter

  -- where nothing stands there is no node of the tree
  pub vacant_key : (look : ℕ → Option (GrowNode N)) (k : ℕ) → look k ≡ None → (t : Tree Held) (key : ℕ) → Stands value look t key → key_count t k ≡ 0
  vacant_key look k none (Leaf a) key s = key_count-leaf a k ∙ one_at_other k a (λ e. let own = ap (λ (h : Held). h.key) s.same in let there = s.there in cc)
  vacant_key look k none (Split a d first second) key s =
      let here : one_at k a ≡ 0 = one_at_other k a (λ e. let own = ap (λ (h : Held). h.key) s.same in let there = s.there in cc) in
      omega (arith, key_count-split a d first second k, here, vacant_key look k none first s.one s.first, vacant_key look k none second s.other s.second)

  -- a tree stands where its nodes are kept
  pub stands_more : (look more : ℕ → Option (GrowNode N)) → ((k : ℕ) (g : GrowNode N) → look k ≡ Some g → more k ≡ Some g) → (t : Tree Held) (key : ℕ)
      → Stands value look t key → Stands value more t key
  stands_more look more kept (Leaf a) key s = record { node = s.node; there = kept key s.node s.there; same = s.same; leaf = s.leaf }
  stands_more look more kept (Split a d first second) key s = record {
    node = s.node;
    there = kept key s.node s.there;
    same = s.same;
    one = s.one;
    other = s.other;
    split = s.split;
    first = stands_more look more kept first s.one s.first;
    second = stands_more look more kept second s.other s.second;
  }

  -- and where another key changes
  pub stands_less : (look less : ℕ → Option (GrowNode N)) (k : ℕ) → ((j : ℕ) → (j ≡ k → ⊥) → less j ≡ look j) → (t : Tree Held) (key : ℕ) → key_count t k ≡ 0
      → Stands value look t key → Stands value less t key
  stands_less look less k others (Leaf a) key none s =
      let apart : key ≡ k → ⊥ = λ e. not_own k a (sym (key_count-leaf a k) ∙ none) (ap (λ (h : Held). h.key) s.same ∙ e) in
      record { node = s.node; there = others key apart ∙ s.there; same = s.same; leaf = s.leaf }
  stands_less look less k others (Split a d first second) key none s =
      let sum = key_count-split a d first second k in
      let apart : key ≡ k → ⊥ = λ e. not_own k a (omega (arith, sum, none)) (ap (λ (h : Held). h.key) s.same ∙ e) in
      record {
        node = s.node;
        there = others key apart ∙ s.there;
        same = s.same;
        one = s.one;
        other = s.other;
        split = s.split;
        first = stands_less look less k others first s.one (omega (arith, sum, none)) s.first;
        second = stands_less look less k others second s.other (omega (arith, sum, none)) s.second;
      }

  -- a leaf of the tree is a leaf of the slab
  pub leaf_stands : (look : ℕ → Option (GrowNode N)) (t : Tree Held) (key : ℕ) → Stands value look t key → (h : Held) → Contains (leaves_in t) h → IsLeafIn value look h h.key
  leaf_stands look (Leaf a) key s h c = elim (in_cases a h [] c) [
    | inl same ↦ subst (λ (x : Held). IsLeafIn value look x x.key) same (subst (λ (k : ℕ). IsLeafIn value look a k) (sym (ap (λ (x : Held). x.key) s.same)) s)
    | inr none ↦ (let lt = none.1 in absurd (omega arith))
  ]
  leaf_stands look (Split a d first second) key s h c = elim (Contains-append_cases (leaves_in first) (leaves_in second) h c) [
    | inl left ↦ leaf_stands look first s.one s.first h left
    | inr right ↦ leaf_stands look second s.other s.second h right
  ]

  -- ---- a leaf is settled

  module _ (look next : ℕ → Option (GrowNode N)) (k : ℕ) (g g' : GrowNode N) (was : look k ≡ Some g) (leaf : g.below ≡ below.Leaf) (now : next k ≡ Some g')
      (others : (j : ℕ) → (j ≡ k → ⊥) → next j ≡ look j) where
    -- a node that is split has another key
    not_split : (key one other : ℕ) (d : Division) (n : GrowNode N) → look key ≡ Some n → n.below ≡ below.Children d.commodity d.part one other → key ≡ k → ⊥
    not_split key one other d n there split e = not_both (sym leaf ∙ (ap (λ (m : GrowNode N). m.below) same ∙ split))
      where
        same : g ≡ n
        same = cc

        not_both : below.Leaf ≡ below.Children d.commodity d.part one other → ⊥
        not_both h = cc

    pub stands_settled : g'.below ≡ below.Leaf → (t : Tree Held) (key : ℕ) → Stands value look t key → Stands value next (settled t (held_of value k g')) key
    stands_settled leaf' (Leaf a) key s =
        let own : a.key ≡ key = ap (λ (h : Held). h.key) s.same in
        elim (cases_eq a.key k) [
          | inl same ↦ subst (λ (b : Bool). Stands value next (cond b (Leaf (held_of value k g')) (Leaf a)) key) (sym (eq-eqb a.key k same))
              (subst (λ (j : ℕ). IsLeafIn value next (held_of value k g') j) (sym same ∙ own) (record { node = g'; there = now; same = refl; leaf = leaf' }))
          | inr apart ↦ subst (λ (b : Bool). Stands value next (cond b (Leaf (held_of value k g')) (Leaf a)) key) (sym (ne_eqb a.key k apart))
              (record { node = s.node; there = others key (λ e. apart (own ∙ e)) ∙ s.there; same = s.same; leaf = s.leaf })
        ]
    stands_settled leaf' (Split a d first second) key s = record {
      node = s.node;
      there = others key (not_split key s.one s.other d s.node s.there s.split) ∙ s.there;
      same = s.same;
      one = s.one;
      other = s.other;
      split = s.split;
      first = stands_settled leaf' first s.one s.first;
      second = stands_settled leaf' second s.other s.second;
    }

    -- ---- a leaf is split: the node is the same but for what comes below it

    pub stands_split : (d : Division) (one other : ℕ) (f s : GrowNode N) → held_of value k g ≡ held_of value k g' → g'.below ≡ below.Children d.commodity d.part one other
        → next one ≡ Some f → f.below ≡ below.Leaf → next other ≡ Some s → s.below ≡ below.Leaf → (t : Tree Held) (key : ℕ) → Stands value look t key
        → Stands value next (split_at t k d (held_of value one f) (held_of value other s)) key
    stands_split d one other f s kept below' at_one leaf_one at_other leaf_other (Leaf a) key st =
        let own : a.key ≡ key = ap (λ (h : Held). h.key) st.same in
        let first = held_of value one f in
        let second = held_of value other s in
        elim (cases_eq a.key k) [
          | inl same ↦ (let node : a ≡ held_of value k g' = same_node a key st own same ∙ kept in
              subst (λ (b : Bool). Stands value next (cond b (Split a d (Leaf first) (Leaf second)) (Leaf a)) key) (sym (eq-eqb a.key k same))
              (subst (λ (j : ℕ). IsSplitIn value next a d (IsLeafIn value next first) (IsLeafIn value next second) j) (sym same ∙ own) (record {
                node = g';
                there = now;
                same = node;
                one = one;
                other = other;
                split = below';
                first = record { node = f; there = at_one; same = refl; leaf = leaf_one };
                second = record { node = s; there = at_other; same = refl; leaf = leaf_other };
              })))
          | inr apart ↦ subst (λ (b : Bool). Stands value next (cond b (Split a d (Leaf first) (Leaf second)) (Leaf a)) key) (sym (ne_eqb a.key k apart))
              (record { node = st.node; there = others key (λ e. apart (own ∙ e)) ∙ st.there; same = st.same; leaf = st.leaf })
        ]
      where
        same_node : (a : Held) (key : ℕ) (st : IsLeafIn value look a key) → a.key ≡ key → a.key ≡ k → a ≡ held_of value k g
        same_node a key st own same =
            let here : key ≡ k = sym own ∙ same in
            let node : st.node ≡ g = some_same (sym st.there ∙ (ap look here ∙ was)) in
            st.same ∙ ap₂ (λ j n. held_of value j n) here node
          where
            some_same : {n m : GrowNode N} → Some n ≡ Some m → n ≡ m
            some_same e = cc
    stands_split d one other f s kept below' at_one leaf_one at_other leaf_other (Split a e first second) key st = record {
      node = st.node;
      there = others key (not_split key st.one st.other e st.node st.there st.split) ∙ st.there;
      same = st.same;
      one = st.one;
      other = st.other;
      split = st.split;
      first = stands_split d one other f s kept below' at_one leaf_one at_other leaf_other first st.one st.first;
      second = stands_split d one other f s kept below' at_one leaf_one at_other leaf_other second st.other st.second;
    }
