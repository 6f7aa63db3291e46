-- Nodes are taken out of a slab in preorder, by a stack of the keys that are still to come.
use Rattle.std.proofs.Common.{◌≡◌, inl, inr, ℕ, ◌+◌, ◌<◌, ◌≤◌, cond, nat_eq, List, [], ◌∷◌, ◌++◌, map, length, refl, sym, ◌∙◌, subst, ap, arith, Option, Some, None, reverse, append_assoc, append-nil}
use Rattle.std.specs.Prelude.{IsSome}
use Rattle.std.proofs.lemmas.Bool.{false≢true}
use Rattle.std.proofs.lemmas.List.{map-append, reverse-append}
use Rattle.std.proofs.lemmas.List.Sums.{sum_by-append}
use Rattle.npp_frac.specs.Rational.{Rational}
use Rattle.slab.specs.Slab.{Slab, get, slab_len, Updates, ContainsKey}
use Rattle.npp_tree.specs.declared.node.CertNode.{CertNode}
use Rattle.npp_tree.specs.declared.grow.GrowNode.{GrowNode}
use Rattle.npp_tree.specs.declared.grow.Below.{Below}
use Rattle.npp_tree.specs.declared.grow.Below.TheVariants as below
use Rattle.npp_tree.specs.Family.{Division}
use Rattle.npp_tree.specs.Outcome.{division_of, entry_value}
use Rattle.npp_tree.specs.Tree.{Node, Tree, Leaf, Split, Entry, preorder}
use Rattle.npp_tree.specs.Keyed.{Held, in_order, key_count, HasKeys, without_keys}
use Rattle.npp_tree.specs.Arena.{held_of, IsLeafIn, IsSplitIn, Stands, IsHeld, branch_of, cert_node, stacked, Takes}
use Rattle.npp_tree.proofs.KeyedLaws.{one_at, one_at_own, key_count-leaf, key_count-split}
use Rattle.npp_tree.proofs.ArenaLaws.{stands_less}

-- how many nodes of the trees have the key
abbrev pub forest_count : List (Tree Held) → ℕ → ℕ
forest_count [] key = 0
forest_count (t ∷ ts) key = key_count t key + forest_count ts key

-- the nodes of the trees, one tree after another
abbrev pub forest_entries : List (Tree Held) → List Entry
forest_entries [] = []
forest_entries (t ∷ ts) = preorder (without_keys t) ++ forest_entries ts

module _ {N : Type 0} (value : N → Rational) where
  -- the trees stand in the slab, each under its key
  abbrev pub StandAll : (ℕ → Option (GrowNode N)) → List (Tree Held) → List ℕ → Type 0
  StandAll look [] [] = Unit {0}
  StandAll look (t ∷ ts) (k ∷ ks) = Stands value look t k × StandAll look ts ks
  StandAll look ts ks = ⊥

  -- some nodes were taken out of the slab; the rest are the trees whose keys stand on the stack
  pub record IsFreezing (slab : Slab (GrowNode N)) (stack : List ℕ) (done : List (CertNode N)) (whole : Tree Held) : Type 0 where
    pub forest : List (Tree Held)
    pub stand : StandAll (λ k. get slab k) forest (reverse stack)
    pub keys : (key : ℕ) → forest_count forest key ≤ 1
    pub entries : map (entry_value value) done ++ forest_entries forest ≡ preorder (without_keys whole)

  -- ---- where it begins and ends

  pub freezing_starts : (slab : Slab (GrowNode N)) (root : ℕ) (t : Tree Held) → IsHeld value slab root t → IsFreezing slab (root ∷ []) [] t
  freezing_starts slab root t h = record {
    forest = t ∷ [];
    stand = (h.stands, tt);
    keys = λ key. omega (arith, h.keys key);
    entries = append-nil (preorder (without_keys t));
  }

  none_left : (look : ℕ → Option (GrowNode N)) (forest : List (Tree Held)) → StandAll look forest [] → forest_entries forest ≡ []
  none_left look [] s = refl
  none_left look (t ∷ ts) s = absurd s

  pub freezing_ends : (slab : Slab (GrowNode N)) (done : List (CertNode N)) (whole : Tree Held) → IsFreezing slab [] done whole
      → map (entry_value value) done ≡ preorder (without_keys whole)
  freezing_ends slab done whole f =
      sym (append-nil (map (entry_value value) done)) ∙ (ap (λ es. map (entry_value value) done ++ es) (sym (none_left (λ k. get slab k) f.forest f.stand)) ∙ f.entries)

  -- ---- a step

  -- the trees that stand on top of the stack
  pub record IsTop (look : ℕ → Option (GrowNode N)) (forest : List (Tree Held)) (key : ℕ) (keys : List ℕ) : Type 0 where
    pub top : Tree Held
    pub rest : List (Tree Held)
    pub both : forest ≡ top ∷ rest
    pub here : Stands value look top key
    pub others : StandAll look rest keys

  top_of : (look : ℕ → Option (GrowNode N)) (forest : List (Tree Held)) (key : ℕ) (keys : List ℕ) → StandAll look forest (key ∷ keys) → IsTop look forest key keys
  top_of look [] key keys s = absurd s
  top_of look (t ∷ ts) key keys s = record { top = t; rest = ts; both = refl; here = s.0; others = s.1 }

  pub popped : (slab : Slab (GrowNode N)) (stack : List ℕ) (key : ℕ) (done : List (CertNode N)) (whole : Tree Held) (f : IsFreezing slab (stack ++ key ∷ []) done whole)
      → IsTop (λ k. get slab k) f.forest key (reverse stack)
  popped slab stack key done whole f =
      top_of (λ k. get slab k) f.forest key (reverse stack) (subst (λ (ks : List ℕ). StandAll (λ k. get slab k) f.forest ks) (reverse-append stack (key ∷ [])) f.stand)

  pub key_present : (slab : Slab (GrowNode N)) (t : Tree Held) (key : ℕ) → Stands value (λ k. get slab k) t key → ContainsKey slab key
  key_present slab (Leaf h) key s = subst (λ (o : Option (GrowNode N)). IsSome o) (sym s.there) refl
  key_present slab (Split h d first second) key s = subst (λ (o : Option (GrowNode N)). IsSome o) (sym s.there) refl

  all_less : (look less : ℕ → Option (GrowNode N)) (k : ℕ) → ((j : ℕ) → (j ≡ k → ⊥) → less j ≡ look j) → (forest : List (Tree Held)) (keys : List ℕ) → forest_count forest k ≡ 0
      → StandAll look forest keys → StandAll less forest keys
  all_less look less k others [] [] none s = tt
  all_less look less k others [] (j ∷ js) none s = absurd s
  all_less look less k others (t ∷ ts) [] none s = absurd s
  all_less look less k others (t ∷ ts) (j ∷ js) none s =
      (stands_less value look less k others t j (omega (arith, none)) s.0, all_less look less k others ts js (omega (arith, none)) s.1)

  module _ (old new : Slab (GrowNode N)) (stack after : List ℕ) (key : ℕ) (done : List (CertNode N)) (whole : Tree Held) (taken : CertNode N)
      (f : IsFreezing old (stack ++ key ∷ []) done whole) (takes : Takes old new key stack after taken) where
    entries_more : (es : List Entry) (forest : List (Tree Held)) → forest_entries f.forest ≡ entry_value value taken ∷ es → forest_entries forest ≡ es
        → map (entry_value value) (done ++ taken ∷ []) ++ forest_entries forest ≡ preorder (without_keys whole)
    entries_more es forest split rest =
        ap (λ xs. xs ++ forest_entries forest) (map-append (entry_value value) done (taken ∷ []))
        ∙ (append_assoc (map (entry_value value) done) (entry_value value taken ∷ []) (forest_entries forest)
        ∙ (ap (λ xs. map (entry_value value) done ++ (entry_value value taken ∷ xs)) rest
        ∙ (ap (λ xs. map (entry_value value) done ++ xs) (sym split) ∙ f.entries)))

    same_node : (n : GrowNode N) → get old key ≡ Some n → takes.node ≡ n
    same_node n e = let there = takes.there in cc

    by_top : (t : Tree Held) (ts : List (Tree Held)) → f.forest ≡ t ∷ ts → Stands value (λ k. get old k) t key → StandAll (λ k. get old k) ts (reverse stack)
        → IsFreezing new after (done ++ taken ∷ []) whole
    by_top (Leaf h) ts both here others =
        let none : forest_count ts key ≡ 0 =
        (let all = subst (λ (g : List (Tree Held)). forest_count g key ≤ 1) both (f.keys key) in
        let own = one_at_own key h (ap (λ (x : Held). x.key) here.same) in omega (arith, all, key_count-leaf h key, own)) in
        let node = same_node here.node here.there in
        let leaf : takes.node.below ≡ below.Leaf = ap (λ (n : GrowNode N). n.below) node ∙ here.leaf in
        let same : after ≡ stack = takes.stack ∙ (ap (λ b. stack ++ stacked b) leaf ∙ append-nil stack) in
        record {
          forest = ts;
          stand = subst (λ (ks : List ℕ). StandAll (λ k. get new k) ts (reverse ks)) (sym same)
              (all_less (λ k. get old k) (λ k. get new k) key takes.gone.others ts (reverse stack) none others);
          keys = λ k. (let all = subst (λ (g : List (Tree Held)). forest_count g k ≤ 1) both (f.keys k) in omega (arith, all));
          entries = entries_more (forest_entries ts) ts
              (ap forest_entries both ∙ ap (λ e. e ∷ forest_entries ts) (sym (ap (entry_value value) takes.given ∙ (taken_leaf h leaf (ap (λ n. held_of value key n) node ∙ sym here.same))))) refl;
        }
      where
        taken_leaf : (h : Held) → takes.node.below ≡ below.Leaf → held_of value key takes.node ≡ h → entry_value value (cert_node takes.node) ≡ record { node = h.node; division = None }
        taken_leaf h leaf same =
            ap (λ b. record { node = (held_of value key takes.node).node; division = division_of (branch_of b) }) leaf
            ∙ ap (λ (x : Held). record { node = x.node; division = None }) same
    by_top (Split h d first second) ts both here others =
        let all : forest_count (Split h d first second ∷ ts) key ≤ 1 = subst (λ (g : List (Tree Held)). forest_count g key ≤ 1) both (f.keys key) in
        let own = one_at_own key h (ap (λ (x : Held). x.key) here.same) in
        let sum = key_count-split h d first second key in
        let node = same_node here.node here.there in
        let split : takes.node.below ≡ below.Children d.commodity d.part here.one here.other = ap (λ (n : GrowNode N). n.below) node ∙ here.split in
        let same : after ≡ stack ++ here.other ∷ here.one ∷ [] = takes.stack ∙ ap (λ b. stack ++ stacked b) split in
        record {
          forest = first ∷ second ∷ ts;
          stand = subst (λ (ks : List ℕ). StandAll (λ k. get new k) (first ∷ second ∷ ts) ks)
              (sym (ap reverse same ∙ reverse-append stack (here.other ∷ here.one ∷ []))) (
                stands_less value (λ k. get old k) (λ k. get new k) key takes.gone.others first here.one (omega (arith, all, own, sum)) here.first,
                (
                  stands_less value (λ k. get old k) (λ k. get new k) key takes.gone.others second here.other (omega (arith, all, own, sum)) here.second,
                  all_less (λ k. get old k) (λ k. get new k) key takes.gone.others ts (reverse stack) (omega (arith, all, own, sum)) others,
                ),
              );
          keys = λ k. (let all' = subst (λ (g : List (Tree Held)). forest_count g k ≤ 1) both (f.keys k) in omega (arith, all', key_count-split h d first second k));
          entries = entries_more ((preorder (without_keys first) ++ preorder (without_keys second)) ++ forest_entries ts) (first ∷ second ∷ ts)
              (ap forest_entries both ∙ ap (λ e. e ∷ ((preorder (without_keys first) ++ preorder (without_keys second)) ++ forest_entries ts))
              (sym (ap (entry_value value) takes.given ∙ taken_split h d here.one here.other split (ap (λ n. held_of value key n) node ∙ sym here.same))))
              (sym (append_assoc (preorder (without_keys first)) (preorder (without_keys second)) (forest_entries ts)));
        }
      where
        taken_split : (h : Held) (d : Division) (one other : ℕ) → takes.node.below ≡ below.Children d.commodity d.part one other → held_of value key takes.node ≡ h
            → entry_value value (cert_node takes.node) ≡ record { node = h.node; division = Some d }
        taken_split h d one other split same =
            ap (λ b. record { node = (held_of value key takes.node).node; division = division_of (branch_of b) }) split
            ∙ ap (λ (x : Held). record { node = x.node; division = Some d }) same

    -- a node is taken out, and is the next of the tree
    pub freezing_goes_on : IsFreezing new after (done ++ taken ∷ []) whole
    freezing_goes_on =
        let t = popped old stack key done whole f in
        by_top t.top t.rest t.both t.here t.others

-- a stack from which nothing is popped is empty
pub empty_stack : (o : Option ℕ) (stack : List ℕ) → (0 < length stack → IsSome o) → ((k : ℕ) → o ≡ Some k → ⊥) → stack ≡ []
empty_stack o [] some none = refl
empty_stack None (k ∷ stack) some none = absurd (false≢true (some (omega arith)))
empty_stack (Some j) (k ∷ stack) some none = absurd (none j refl)
