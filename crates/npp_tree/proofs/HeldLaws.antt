-- What a slab holds after a tree is begun, and after a leaf is settled or split.
use Rattle.std.proofs.Common.{◌≡◌, inl, inr, ℕ, ◌+◌, ◌<◌, ◌≤◌, Bool, cond, max, List, [], length, refl, sym, ◌∙◌, subst, ap, arith, Option, Some, None}
use Rattle.std.specs.Prelude.{is_some, IsSome, slice_index_or}
use Rattle.std.proofs.lemmas.Bool.{cases_eq, eq-eqb, ne_eqb}
use Rattle.std.proofs.lemmas.List.Sums.{sum_by-set}
use Rattle.npp_frac.specs.Rational.{Rational}
use Rattle.slab.specs.Slab.{Slab, get, slab_len, Updates, with_value}
use Rattle.slab.proofs.SlabLemmas.{ContainsKey-within, Updates-with_value}
use Rattle.npp_tree.specs.declared.bound.Bound.{Bound}
use Rattle.npp_tree.specs.declared.node.Evidence.TheVariants.{Unopened}
use Rattle.npp_tree.specs.declared.grow.GrowNode.{GrowNode}
use Rattle.npp_tree.specs.declared.grow.Below.{Below}
use Rattle.npp_tree.specs.declared.grow.Below.TheVariants as below
use Rattle.npp_tree.specs.Bounds.{bound_value}
use Rattle.npp_tree.specs.Family.{Division}
use Rattle.npp_tree.specs.Tree.{Tree, Leaf, Split}
use Rattle.npp_tree.specs.Keyed.{Held, key_count, HasKeys, AreFresh, IsLeafAt, settled, split_at, unopened}
use Rattle.npp_tree.specs.Arena.{held_of, IsLeafIn, Stands, height, IsHeld}
use Rattle.npp_tree.proofs.KeyedLaws.{one_at_most, key_count-leaf, HasKeys-settled, HasKeys-split_at}
use Rattle.npp_tree.proofs.ArenaLaws.{vacant_key, stands_more, leaf_stands, stands_settled, stands_split}

-- ---- heights

height_leaf : (b : Bool) (t u : Tree Held) (n : ℕ) → height t ≤ n → height u ≤ n → height (cond b t u) ≤ n
height_leaf Bool.true t u n h k = h
height_leaf Bool.false t u n h k = k

height-settled : (t : Tree Held) (h : Held) → height (settled t h) ≤ height t
height-settled (Leaf a) h = height_leaf _ (Leaf h) (Leaf a) 0 (omega arith) (omega arith)
height-settled (Split a d first second) h = omega (arith, height-settled first h, height-settled second h)

height-split_at : (t : Tree Held) (k : ℕ) (d : Division) (one other : Held) → height (split_at t k d one other) ≤ height t + 1
height-split_at (Leaf a) k d one other = height_leaf _ (Split a d (Leaf one) (Leaf other)) (Leaf a) 1 (omega arith) (omega arith)
height-split_at (Split a e first second) k d one other = omega (arith, height-split_at first k d one other, height-split_at second k d one other)

module _ {N : Type 0} (value : N → Rational) where
  -- a node that was made
  abbrev pub made : Bound → GrowNode N
  made b = record { evidence = Unopened; bound = b; below = below.Leaf }

  -- a tree of one node
  pub held_new : (slab : Slab (GrowNode N)) (key : ℕ) (b : Bound) → get slab key ≡ Some (made b) → 0 < slab_len slab → IsHeld value slab key (Leaf (unopened key (bound_value b)))
  held_new slab key b there some = record {
    stands = record { node = made b; there = there; same = refl; leaf = refl };
    keys = λ k. omega (arith, key_count-leaf (unopened key (bound_value b)) k, one_at_most k (unopened key (bound_value b)));
    low = omega (arith, some);
  }

  -- the leaf of a key in the slab
  pub leaf_at : (slab : Slab (GrowNode N)) (root : ℕ) (t : Tree Held) (k : ℕ) (opened : Bool) → IsHeld value slab root t → IsLeafAt t k opened
      → (g : GrowNode N) × (get slab k ≡ Some g) × (g.below ≡ below.Leaf)
  leaf_at slab root t k opened h leaf =
      let found = leaf_stands value (λ j. get slab j) t root h.stands leaf.leaf leaf.among in
      (found.node, ap (get slab) (sym leaf.key) ∙ found.there, found.leaf)

  -- ---- settled

  slots_count : (slab : Slab (GrowNode N)) (k : ℕ) (g g' : GrowNode N) → get slab k ≡ Some g → slab_len (with_value slab k g') ≡ slab_len slab
  slots_count slab k g g' was =
      let f : Option (GrowNode N) → ℕ = λ o. cond (is_some o) 1 0 in
      let present = subst (λ (o : Option (GrowNode N)). IsSome o) (sym was) refl in
      let sum = sum_by-set f slab.slots k (Some g') None (ContainsKey-within slab k present) in
      let one : f (slice_index_or slab.slots k None) ≡ 1 = ap f was in
      omega (arith, sum, one)

  pub held_settled : (slab : Slab (GrowNode N)) (root : ℕ) (t : Tree Held) (k : ℕ) (g g' : GrowNode N) → IsHeld value slab root t → get slab k ≡ Some g → g.below ≡ below.Leaf
      → g'.below ≡ below.Leaf → IsHeld value (with_value slab k g') root (settled t (held_of value k g'))
  held_settled slab root t k g g' h was leaf leaf' =
      let new : Slab (GrowNode N) = with_value slab k g' in
      let present = subst (λ (o : Option (GrowNode N)). IsSome o) (sym was) refl in
      let updates : Updates slab new k (Some g') = Updates-with_value slab k g' present in
      let count = slots_count slab k g g' was in
      let low = h.low in
      record {
        stands = stands_settled value (λ j. get slab j) (λ j. get new j) k g g' was leaf updates.changed updates.others leaf' t root h.stands;
        keys = HasKeys-settled t (held_of value k g') h.keys;
        low = omega (arith, height-settled t (held_of value k g'), count, low);
      }

  -- ---- split

  -- a node is made under a key that was free
  pub record Makes (old new : Slab (GrowNode N)) (key : ℕ) (b : Bound) : Type 0 where
    pub vacant : get old key ≡ None
    pub updates : Updates old new key (Some (made b))
    pub more : slab_len new ≡ slab_len old + 1

  -- a node that is such a leaf makes it
  pub makes_node : (old new : Slab (GrowNode N)) (key : ℕ) (b : Bound) (node : GrowNode N) → node ≡ made b → get old key ≡ None → Updates old new key (Some node)
      → slab_len new ≡ slab_len old + 1 → Makes old new key b
  makes_node old new key b node is vacant updates more =
      record { vacant = vacant; updates = subst (λ (n : GrowNode N). Updates old new key (Some n)) is updates; more = more }

  -- what stood there still does
  still : (old new : Slab (GrowNode N)) (key : ℕ) (b : Bound) → Makes old new key b → (k : ℕ) (g : GrowNode N) → get old k ≡ Some g → get new k ≡ Some g
  still old new key b makes k g was = makes.updates.others k (λ e. let none = makes.vacant in cc) ∙ was

  module _ (slab one_more two_more : Slab (GrowNode N)) (root : ℕ) (t : Tree Held) (one other : ℕ) (b c : Bound) (h : IsHeld value slab root t)
      (first : Makes slab one_more one b) (second : Makes one_more two_more other c) where
    apart : one ≡ other → ⊥
    apart e = let none = second.vacant in let there = first.updates.changed in cc

    second_free : get slab other ≡ None
    second_free = sym (first.updates.others other (λ e. apart (sym e))) ∙ second.vacant

    pub fresh_keys : AreFresh t one other
    fresh_keys = record {
      first = vacant_key value (λ j. get slab j) one first.vacant t root h.stands;
      second = vacant_key value (λ j. get slab j) other second_free t root h.stands;
      apart = apart;
    }

    stands_two : Stands value (λ j. get two_more j) t root
    stands_two = stands_more value (λ j. get slab j) (λ j. get two_more j)
        (λ k g was. still one_more two_more other c second k g (still slab one_more one b first k g was)) t root h.stands

    -- the leaf is still there
    pub leaf_kept : (k : ℕ) (opened : Bool) → IsLeafAt t k opened → (g : GrowNode N) × (get two_more k ≡ Some g) × (g.below ≡ below.Leaf)
    leaf_kept k opened leaf =
        let found = leaf_at slab root t k opened h leaf in
        (found.0, still one_more two_more other c second k found.0 (still slab one_more one b first k found.0 found.1), found.2)

    module _ (k : ℕ) (d : Division) (g g' : GrowNode N) (was : get two_more k ≡ Some g) (leaf : g.below ≡ below.Leaf) (old : get slab k ≡ Some g)
        (kept : held_of value k g ≡ held_of value k g') (split : g'.below ≡ below.Children d.commodity d.part one other) where
      abbrev pub last : Slab (GrowNode N)
      last = with_value two_more k g'

      updates : Updates two_more last k (Some g')
      updates = Updates-with_value two_more k g' (subst (λ (o : Option (GrowNode N)). IsSome o) (sym was) refl)

      at_one : get last one ≡ Some (made b)
      at_one = updates.others one (λ e. let none = first.vacant in cc) ∙ (second.updates.others one apart ∙ first.updates.changed)

      at_other : get last other ≡ Some (made c)
      at_other = updates.others other (λ e. let none = second_free in cc) ∙ second.updates.changed

      pub held_split : IsHeld value last root (split_at t k d (unopened one (bound_value b)) (unopened other (bound_value c)))
      held_split =
          let count = slots_count two_more k g g' was in
          let low = h.low in
          let more = first.more in
          let more' = second.more in
          record {
            stands = stands_split value (λ j. get two_more j) (λ j. get last j) k g g' was leaf updates.changed updates.others d one other (made b) (made c) kept split
                at_one refl at_other refl t root stands_two;
            keys = HasKeys-split_at k d (unopened one (bound_value b)) (unopened other (bound_value c)) t h.keys fresh_keys;
            low = omega (arith, height-split_at t k d (unopened one (bound_value b)) (unopened other (bound_value c)), count, low, more, more');
          }

    -- the leaf of the key is split
    pub held_after_split : (k : ℕ) (opened : Bool) → IsLeafAt t k opened → (d : Division) (g g' : GrowNode N) → get two_more k ≡ Some g → held_of value k g ≡ held_of value k g'
        → g'.below ≡ below.Children d.commodity d.part one other
        → IsHeld value (with_value two_more k g') root (split_at t k d (unopened one (bound_value b)) (unopened other (bound_value c)))
    held_after_split k opened leaf d g g' was kept split =
        let found = leaf_at slab root t k opened h leaf in
        let there = still one_more two_more other c second k found.0 (still slab one_more one b first k found.0 found.1) in
        let same : found.0 ≡ g = some_same (sym there ∙ was) in
        held_split k d g g' was (ap (λ (n : GrowNode N). n.below) (sym same) ∙ found.2) (found.1 ∙ ap (λ (n : GrowNode N). Some n) same) kept split
      where
        some_same : {n m : GrowNode N} → Some n ≡ Some m → n ≡ m
        some_same e = cc

  -- room that is made changes nothing
  pub held_room : (slab more : Slab (GrowNode N)) (root : ℕ) (t : Tree Held) → more ≡ record slab { capacity = more.capacity } → IsHeld value slab root t → IsHeld value more root t
  held_room slab more root t same h =
      subst (λ (s : Slab (GrowNode N)). IsHeld value s root t) (sym same) (record { stands = h.stands; keys = h.keys; low = h.low })
