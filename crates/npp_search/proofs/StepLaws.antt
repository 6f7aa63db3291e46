-- A turn of a search keeps what is known between turns.
use Rattle.std.proofs.Common.{◌≡◌, ◌⊎◌, inl, inr, ℕ, ◌+◌, ◌*◌, ◌<◌, ◌≤◌, Bool, true, false, cond, nat_eq, List, [], ◌∷◌, ◌++◌, map, refl, sym, ◌∙◌, subst, ap, arith, Contains, All, Option, Some, None}
use Rattle.std.specs.Prelude.{IfSome, IfNone, MatchOption, option_map, slice_index_or}
use Rattle.std.proofs.lemmas.Bool.{cases_eq, eq-eqb, ne_eqb}
use Rattle.std.proofs.lemmas.List.{append-nil}
use Rattle.std.proofs.lemmas.List.Elements.{Contains-append_left, Contains-append_right, Contains-append_cases, Contains-get_or, All-contains}
use Rattle.std.proofs.lemmas.List.Sums.{sum_by-append}
use Rattle.std.proofs.lemmas.List.Sorted.{Contains-permutation, IsPermutation-sym}
use Rattle.npp_frac.specs.Rational.{Rational, ◌≤ℚ◌, ◌<ℚ◌}
use Rattle.npp_frac.specs.Order.{≤ℚ_of_<ℚ, ≤ℚ_of_≡, <ℚ_of_≤ℚ-<ℚ}
use Rattle.npp_frac.specs.Wide.{value_of_wide}
use Rattle.npp_rows.specs.Basic.{basic_of}
use Rattle.npp_rows.specs.Parts.{is_full, IsAllowed}
use Rattle.npp_inverse.specs.Offers.{HasUsefulPaths}
use Rattle.npp_tree.specs.Bounds.{BoundValue, At, bound_value, IsAbove, IsUpTo, IsAtMost, at_whole}
use Rattle.npp_tree.specs.Evidence.{is_opened}
use Rattle.npp_tree.specs.Family.{Family, Division, Divides, first_of, second_of}
use Rattle.npp_tree.specs.Tree.{Node, Tree, Placed, place, placed, bound_before, bound_after, was_opened}
use Rattle.npp_tree.specs.Keyed.{Held, HasKeys, AreFresh, IsUnopenedLeaf, IsOpenedLeaf, key_count, settled, split_at, unopened, without_key, without_keys}
use Rattle.npp_tree.proofs.BoundLaws.{lesser_left}
use Rattle.npp_tree.proofs.CountLaws.{in_head, in_tail, in_cases}
use Rattle.npp_tree.proofs.FamilyLaws.{families}
use Rattle.npp_tree.proofs.KeyedLaws.{key_count-settled, HasKeys-settled, HasKeys-split_at}
use Rattle.npp_tree.proofs.PlacedLaws.{bound_of, placed-on_nodes, leaf_among, settled_among}
use Rattle.npp_leaf.specs.Found.{BestTolls, best_value}
use Rattle.npp_search.specs.declared.waiting.Waiting.{Waiting}
use Rattle.npp_search.specs.declared.state.State.{State}
use Rattle.npp_search.specs.Problem.{Problem, work_on}
use Rattle.npp_search.specs.Rule.{IsByRule, shares_found}
use Rattle.npp_search.specs.Grown.{Task, Growth, IsGrowing, IsEvidence, IsUnopenedNode, IsSettled, IsLive, NoneIsLive, IsBestFirst, EarnsBy, Earns, EarnsMore, nodes_of}
use Rattle.npp_search.specs.Turn.{SplitsAbove, IsChild, IsTurn, OpensGreatest}
use Rattle.npp_search.specs.Search.{bound_at, StandsFor, waiting_count, AreWaiting, TakesOne, IsGreatest, still_waiting, growth_of, held_nodes, IsUnderWay}
use Rattle.npp_search.specs.Steps.{child, Splits, StaysLeaf, IsSplitBy, Branches, OpensNode, DropsOnly}
use Rattle.npp_search.proofs.TurnLaws.{unopened_node, are_divided, turn_keeps, best_first_kept}
use Rattle.npp_search.proofs.KeyLaws.{held_count-placed, none_has, children_of, Settles, settles, OpensAt, settled_at, split_there}
use Rattle.npp_search.proofs.FoundLaws.{AreOffers, found_of, found_is, found_evidence, found_offers}
use Rattle.npp_search.proofs.WaitingLaws.{none_of, AreAdded, DropsDead, drops_dead, drops_moved, waiting_after}
use Rattle.npp_search.proofs.ChildLaws.{not_empty, child_live, child_all, child_count, child_depth}

-- ---- a list and its image

pub in_map : {X Y : Type 0} (f : X → Y) (xs : List X) (x : X) → Contains xs x → Contains (map f xs) (f x)
in_map f [] x c = (let lt = c.1 in absurd (omega arith))
in_map f (y ∷ xs) x c = elim (in_cases y x xs c) [
  | inl same ↦ subst (λ z. Contains (f y ∷ map f xs) (f z)) same (in_head (f y) (map f xs))
  | inr rest ↦ in_tail (f y) (f x) (map f xs) (in_map f xs x rest)
]

pub of_map : {X Y : Type 0} (f : X → Y) (xs : List X) (y : Y) → Contains (map f xs) y → (x : X) × Contains xs x × (f x ≡ y)
of_map f [] y c = (let lt = c.1 in absurd (omega arith))
of_map f (x ∷ xs) y c = elim (in_cases (f x) y (map f xs) c) [
  | inl same ↦ (x, in_head x xs, same)
  | inr rest ↦ (let r = of_map f xs y rest in (r.0, in_tail x r.0 xs r.1, r.2))
]

-- the nodes of a search, with their keys and without
module _ {N : Type 0} (value : N → Rational) (P : Problem) (task : Task) (s : State N) where
  same_nodes : nodes_of P task (growth_of value s) ≡ map without_key (held_nodes P.paths task s.tree)
  same_nodes = placed-on_nodes P.paths task.family task.bound s.tree

  pub without_in : (p : Placed Held) → Contains (held_nodes P.paths task s.tree) p → Contains (nodes_of P task (growth_of value s)) (without_key p)
  without_in p c = subst (λ (ns : List (Placed Node)). Contains ns (without_key p)) (sym same_nodes) (in_map without_key (held_nodes P.paths task s.tree) p c)

  pub with_key : (q : Placed Node) → Contains (nodes_of P task (growth_of value s)) q → (p : Placed Held) × Contains (held_nodes P.paths task s.tree) p × (without_key p ≡ q)
  with_key q c = of_map without_key (held_nodes P.paths task s.tree) q (subst (λ (ns : List (Placed Node)). Contains ns q) same_nodes c)

-- the dead are dropped
dropped : {N : Type 0} (s3 s4 : State N) → DropsOnly s3 s4 → DropsDead (value_of_wide s3.lower) s3.waiting s4.waiting
dropped s3 s4 drops = drops_moved (value_of_wide s3.lower) s3.waiting (still_waiting (value_of_wide s3.lower) s3.waiting) s4.waiting (drops_dead (value_of_wide s3.lower) s3.waiting) drops.waiting

-- ---- the node that is opened

module _ {N : Type 0} (value : N → Rational) (P : Problem) (task : Task) (first : Bool) (useful : HasUsefulPaths P.paths) (root : IsAllowed P.paths task.family) (s0 : State N) (h : IsUnderWay value P task first s0) (rest : List Waiting) (w : Waiting)
    (takes : TakesOne s0.waiting rest w) where
  pub taken : (p : Placed Held) × Contains (held_nodes P.paths task s0.tree) p × StandsFor w p × IsLive (value_of_wide s0.lower) (without_key p)
  taken = h.waiting.live w (Contains-permutation (w ∷ rest) s0.waiting w (IsPermutation-sym s0.waiting (w ∷ rest) takes.same) (in_head w rest))

  pub the_node : Placed Held
  the_node = taken.0

  stands : StandsFor w taken.0
  stands = taken.2

  in_nodes : Contains (nodes_of P task (growth_of value s0)) (without_key taken.0)
  in_nodes = without_in value P task s0 taken.0 taken.1

  node : IsUnopenedNode (without_key taken.0)
  node = unopened_node P task (value_of_wide s0.lower) (without_key taken.0) (h.growing.nodes (without_key taken.0) in_nodes) taken.3.unopened

  pub node_allowed : IsAllowed P.paths w.allowed.parts
  node_allowed =
      subst (IsAllowed P.paths) (sym stands.family)
      (families (λ n. n.bound) P.paths task.family task.bound (without_keys s0.tree) root (are_divided P task (growth_of value s0) h.growing) (without_key taken.0) in_nodes)

  pub node_leaf : IsUnopenedLeaf s0.tree w.key
  node_leaf = record {
    leaf = taken.0.node;
    among = leaf_among P.paths task.family task.bound s0.tree taken.0 taken.1 node.leaf;
    key = sym stands.key;
    state = taken.3.unopened;
  }

  pub node_depth : w.seen.depth ≤ s0.opened
  node_depth =
      All-contains (λ (v : Waiting). v.seen.depth ≤ s0.opened) s0.waiting w h.depths
      (Contains-permutation (w ∷ rest) s0.waiting w (IsPermutation-sym s0.waiting (w ∷ rest) takes.same) (in_head w rest))

  -- ---- once it is opened

  module _ (s2 : State N) (b : BoundValue) (o : OpensNode value P (record s0 { waiting = rest }) s2 w b) where
    abbrev held : Held
    held = record { key = w.key; node = record { evidence = (found_of P w.allowed.parts).evidence; bound = b } }

    opened_now : is_opened (found_of P w.allowed.parts).evidence ≡ true
    opened_now = (found_is P w.allowed.parts).opened

    tree_now : s2.tree ≡ settled s0.tree held
    tree_now = o.tree ∙ ap (λ t. settled t held) o.raises.keeps.tree

    pub leaf_now : IsOpenedLeaf s2.tree w.key
    leaf_now =
        subst (λ (t : Tree Held). IsOpenedLeaf t w.key) (sym tree_now)
        (record { leaf = held; among = settled_among s0.tree held node_leaf.leaf node_leaf.among node_leaf.key; key = refl; state = opened_now })

    offers : AreOffers P (work_on P w.allowed.parts) (found_of P w.allowed.parts)
    offers = found_offers P w.allowed.parts useful node_allowed

    no_less : value_of_wide s0.lower ≤ℚ value_of_wide o.raised.lower
    no_less = elim o.raises.cases [
      | inl st ↦ ≤ℚ_of_≡ (sym (ap (λ (s : State N). value_of_wide s.lower) st.same))
      | inr r ↦ (let rises = r.2 in subst (λ (q : Rational). value_of_wide s0.lower ≤ℚ q) (sym rises.lower) (≤ℚ_of_<ℚ rises.more))
    ]

    earned_less : (v : Rational) → EarnsBy P (work_on P w.allowed.parts) v → v ≤ℚ value_of_wide o.raised.lower
    earned_less v e =
        let off = offers.offered v e in
        elim o.raises.cases [
          | inl st ↦ (let less : off.0.reply.revenue ≤ℚ value_of_wide s0.lower = subst (λ (x : Option BestTolls). IfSome x (λ c. c.reply.revenue ≤ℚ value_of_wide s0.lower)) off.1 st.no_more in
              let same : value_of_wide s0.lower ≡ value_of_wide o.raised.lower = sym (ap (λ (s : State N). value_of_wide s.lower) st.same) in
              subst (λ (q : Rational). v ≤ℚ q) same (subst (λ (q : Rational). q ≤ℚ value_of_wide s0.lower) off.2 less))
          | inr r ↦ (let rises = r.2 in let both : r.0 ≡ off.0 = some_same (sym r.1 ∙ off.1) in
              ≤ℚ_of_≡ (sym off.2 ∙ (ap (λ (c : BestTolls). c.reply.revenue) (sym both) ∙ sym rises.lower)))
        ]
      where
        some_same : {c d : BestTolls} → Some c ≡ Some d → c ≡ d
        some_same e = cc

    raised_by : (value_of_wide o.raised.lower ≡ value_of_wide s0.lower) ⊎ EarnsBy P (work_on P w.allowed.parts) (value_of_wide o.raised.lower)
    raised_by = elim o.raises.cases [
      | inl st ↦ inl (ap (λ (s : State N). value_of_wide s.lower) st.same)
      | inr r ↦ (let rises = r.2 in inr (subst (λ (q : Rational). EarnsBy P (work_on P w.allowed.parts) q) (sym rises.lower) (offers.earned r.0 r.1).0))
    ]

    best_now : MatchOption (option_map (best_value value) o.raised.best) (value_of_wide o.raised.lower ≡ task.lower) (EarnsMore P task.lower (value_of_wide o.raised.lower))
    best_now = elim o.raises.cases [
      | inl st ↦ subst (λ (s : State N). MatchOption (option_map (best_value value) s.best) (value_of_wide s.lower ≡ task.lower) (EarnsMore P task.lower (value_of_wide s.lower))) (sym st.same) h.growing.best
      | inr r ↦ (let rises = r.2 in
          subst (λ (x : Option BestTolls). MatchOption x (value_of_wide o.raised.lower ≡ task.lower) (EarnsMore P task.lower (value_of_wide o.raised.lower))) (sym rises.best)
          (record {
            more = subst (λ (q : Rational). task.lower <ℚ q) (sym rises.lower) (<ℚ_of_≤ℚ-<ℚ h.growing.lower.given_less rises.more);
            earns = subst (λ (q : Rational). Earns P q r.0) (sym rises.lower) (offers.earned r.0 r.1).1;
          }))
    ]

    -- ---- and is a leaf or is split

    module _ (grown : Tree Held) (division : Option Division) (children : List (Placed Held))
        (there : OpensAt P.paths task.family task.bound s0.tree grown taken.0 (record taken.0 { node = held; division = division }) children)
        (split : IfSome division (SplitsAbove P (value_of_wide o.raised.lower) (without_key (record taken.0 { node = held; division = division }))))
        (leaf : IfNone division (IsSettled (value_of_wide o.raised.lower) (without_key (record taken.0 { node = held; division = division }))))
        (each : (q : Placed Node) → Contains (map without_key children) q → IsChild (without_key (record taken.0 { node = held; division = division })) q)
        (room : s0.opened < task.budget) where
      abbrev now : Placed Held
      now = record taken.0 { node = held; division = division }

      abbrev next : Growth
      next = record {
        tree = without_keys grown;
        opened = s0.opened + 1;
        lower = value_of_wide o.raised.lower;
        best = option_map (best_value value) o.raised.best;
      }

      abbrev the_turn : IsTurn P task (growth_of value s0) next
      the_turn = record {
        was = without_key taken.0;
        now = without_key now;
        children = map without_key children;
        opens = there.opens;
        live = taken.3;
        room = room;
        opened = refl;
        value = (found_of P w.allowed.parts).value;
        evidence = subst (λ (f : Family). IsEvidence P f (found_of P w.allowed.parts).evidence (found_of P w.allowed.parts).value) stands.family
            (found_evidence P w.allowed.parts);
        bound = o.bound ∙ ap (λ x. bound_after x (found_of P w.allowed.parts).value) (stands.bound ∙ node.bound);
        lower = record {
          no_less = no_less;
          earned = λ v e. earned_less v (subst (λ (f : Family). EarnsBy P (work_on P f) v) (sym stands.family) e.work);
          by = elim raised_by [
            | inl same ↦ inl same
            | inr e ↦ inr (record { opened = opened_now; work = subst (λ (f : Family). EarnsBy P (work_on P f) (value_of_wide o.raised.lower)) stands.family e })
          ];
        };
        best = best_now;
        split = split;
        leaf = leaf;
        each_child = each;
      }

      growing_next : IsGrowing P task next
      growing_next = turn_keeps P task (growth_of value s0) next h.growing the_turn

      greatest_opened : IsGreatest s0.waiting w → OpensGreatest (nodes_of P task (growth_of value s0)) (value_of_wide s0.lower) (without_key taken.0)
      greatest_opened most q c live =
          let k = with_key value P task s0 q c in
          let found' = h.waiting.all k.0 k.1 (subst (λ (x : Placed Node). IsLive (value_of_wide s0.lower) x) (sym k.2) live) in
          let st = found'.2 in
          let at_most : IsAtMost (At (bound_at found'.0)) (At (bound_at w)) = most found'.0 found'.1 in
          subst (λ (x : Placed Node). IsAtMost x.node.bound taken.0.node.node.bound) k.2
          (subst (λ (x : BoundValue). IsAtMost x taken.0.node.node.bound) st.bound (subst (λ (x : BoundValue). IsAtMost (At (bound_at found'.0)) x) stands.bound at_most))

      first_next : (first ≡ true → IsGreatest s0.waiting w) → first ≡ true → IsBestFirst (nodes_of P task next) (value_of_wide o.raised.lower)
      first_next most e = best_first_kept P task (growth_of value s0) next h.growing the_turn (h.best_first e) (greatest_opened (most e))

      module _ (added after : List Waiting) (adds : AreAdded s0.waiting children (value_of_wide o.raised.lower) added) (drops : DropsDead (value_of_wide o.raised.lower) (rest ++ added) after)
          (keys : HasKeys grown) (depth : (a : Waiting) → Contains added a → a.seen.depth ≤ s0.opened + 1) where
        waiting_next : AreWaiting (placed bound_of P.paths task.family task.bound grown) (value_of_wide o.raised.lower) after
        waiting_next =
            subst (λ (ns : List (Placed Held)). AreWaiting ns (value_of_wide o.raised.lower) after) (sym there.is)
            (waiting_after there.front there.back children taken.0 now (value_of_wide s0.lower) (value_of_wide o.raised.lower) s0.waiting rest added after w
            (subst (λ (ns : List (Placed Held)). AreWaiting ns (value_of_wide s0.lower) s0.waiting) there.was h.waiting) takes stands there.before there.after opened_now no_less adds drops)

        depths_next : All (λ v. v.seen.depth ≤ s0.opened + 1) after
        depths_next i d lt = elim (Contains-append_cases rest added (slice_index_or after i d) (drops.among (slice_index_or after i d) (Contains-get_or after i d lt))) [
          | inl in_rest ↦ (let in_old = Contains-permutation (w ∷ rest) s0.waiting (slice_index_or after i d) (IsPermutation-sym s0.waiting (w ∷ rest) takes.same) (in_tail w (slice_index_or after i d) rest in_rest) in
              let less = All-contains (λ (v : Waiting). v.seen.depth ≤ s0.opened) s0.waiting (slice_index_or after i d) h.depths in_old in omega (arith, less))
          | inr in_added ↦ depth (slice_index_or after i d) in_added
        ]

        -- whatever state has this tree, these counts and these nodes that wait
        pub under_way_next : (most : first ≡ true → IsGreatest s0.waiting w) (s : State N) → s.tree ≡ grown → s.opened ≡ s0.opened + 1 → s.lower ≡ o.raised.lower → s.best ≡ o.raised.best
            → s.waiting ≡ after → s.made ≤ 2 * s.opened + 1 → IsUnderWay value P task first s
        under_way_next most s tree opened lower best waiting made =
            let same : next ≡ growth_of value s = λ i. record {
              tree = without_keys (sym tree i);
              opened = sym opened i;
              lower = value_of_wide (sym lower i);
              best = option_map (best_value value) (sym best i);
            } in
            record {
              growing = subst (λ (g : Growth). IsGrowing P task g) same growing_next;
              keys = subst (λ (t : Tree Held). HasKeys t) (sym tree) keys;
              waiting = subst (λ (t : Tree Held). AreWaiting (placed bound_of P.paths task.family task.bound t) (value_of_wide s.lower) s.waiting) (sym tree)
                  (subst (λ (q : Rational). AreWaiting (placed bound_of P.paths task.family task.bound grown) q s.waiting) (sym (ap value_of_wide lower))
                  (subst (λ (ws : List Waiting). AreWaiting (placed bound_of P.paths task.family task.bound grown) (value_of_wide o.raised.lower) ws) (sym waiting) waiting_next));
              best_first = λ e. subst (λ (g : Growth). IsBestFirst (nodes_of P task g) g.lower) same (first_next most e);
              made = made;
              depths = subst (λ (ws : List Waiting). All (λ v. v.seen.depth ≤ s.opened) ws) (sym waiting) (subst (λ (n : ℕ). All (λ v. v.seen.depth ≤ n) after) (sym opened) depths_next);
            }

    -- those that waited and wait still are above the lower value as it was
    above_rest : (v : Waiting) → Contains rest v → value_of_wide s0.lower <ℚ bound_at v
    above_rest v c =
        let found = h.waiting.live v (Contains-permutation (w ∷ rest) s0.waiting v (IsPermutation-sym s0.waiting (w ∷ rest) takes.same) (in_tail w v rest c)) in
        let st = found.2 in
        let live = found.3 in
        subst (λ (x : BoundValue). IsAbove x (value_of_wide s0.lower)) (sym st.bound) live.above

    -- ---- a leaf

    -- the settled tree
    settles_here : Settles P.paths task.family task.bound s0.tree held taken.0
    settles_here = settles P.paths task.family task.bound s0.tree held taken.0 h.keys taken.1 node.leaf (sym stands.key)

    lower_two : value_of_wide s2.lower ≡ value_of_wide o.raised.lower
    lower_two = ap value_of_wide o.lower

    waiting_two : s2.waiting ≡ rest
    waiting_two = o.waiting ∙ o.raises.keeps.waiting

    opened_two : s2.opened ≡ s0.opened + 1
    opened_two = o.opened ∙ ap (λ (n : ℕ). n + 1) o.raises.keeps.opened

    pub made_two : s2.made ≡ s0.made
    made_two = o.made ∙ o.raises.keeps.made

    nothing_added : AreAdded s0.waiting [] (value_of_wide o.raised.lower) []
    nothing_added = record {
      live = λ a c. absurd (not_empty a c);
      all = λ c in_none live. (let lt = in_none.1 in absurd (omega arith));
      once = λ key. omega arith;
      fresh = λ key some. absurd (omega (arith, some));
    }

    stays_leaf : OpensAt P.paths task.family task.bound s0.tree (settled s0.tree held) taken.0 (record taken.0 { node = held; division = None }) []
    stays_leaf =
        subst (λ (dv : Option Division). OpensAt P.paths task.family task.bound s0.tree (settled s0.tree held) taken.0 (record taken.0 { node = held; division = dv }) []) node.leaf
        (settled_at P.paths task.family task.bound s0.tree held taken.0 settles_here node.leaf (sym stands.key) taken.3.unopened opened_now)

    leaf_above : (s3 : State N) → StaysLeaf s2 s3 w.allowed.parts b → All (λ v. value_of_wide s0.lower <ℚ bound_at v) s3.waiting
    leaf_above s3 stays =
        let waited : rest ≡ s3.waiting = sym (ap (λ (s : State N). s.waiting) stays.same ∙ waiting_two) in
        subst (λ (ws : List Waiting). All (λ v. value_of_wide s0.lower <ℚ bound_at v) ws) waited (λ k v lt. above_rest (slice_index_or rest k v) (Contains-get_or rest k v lt))

    pub leaf_goes_on : (s3 s4 : State N) → StaysLeaf s2 s3 w.allowed.parts b → DropsOnly s3 s4 → s0.opened < task.budget → (first ≡ true → IsGreatest s0.waiting w)
        → IsUnderWay value P task first s4
    leaf_goes_on s3 s4 stays drops room most =
        let is = stays.same in
        let tree : s4.tree ≡ settled s0.tree held = drops.tree ∙ (ap (λ (s : State N). s.tree) is ∙ tree_now) in
        let waited : s3.waiting ≡ rest ++ [] = ap (λ (s : State N). s.waiting) is ∙ (waiting_two ∙ sym (append-nil rest)) in
        let same_lower : value_of_wide s3.lower ≡ value_of_wide o.raised.lower = ap (λ (s : State N). value_of_wide s.lower) is ∙ lower_two in
        let settled_node : IsUpTo b (value_of_wide o.raised.lower) ⊎ (is_full taken.0.family ≡ true) =
        subst (λ (q : Rational). IsUpTo b q ⊎ (is_full taken.0.family ≡ true)) lower_two
        (subst (λ (f : Family). IsUpTo b (value_of_wide s2.lower) ⊎ (is_full f ≡ true)) stands.family stays.settled) in
        let made : s4.made ≤ 2 * s4.opened + 1 =
        (let m4 = drops.made ∙ (ap (λ (s : State N). s.made) is ∙ made_two) in
        let o4 = drops.opened ∙ (ap (λ (s : State N). s.opened) is ∙ opened_two) in
        omega (arith, m4, o4, h.made)) in
        under_way_next (settled s0.tree held) None [] stays_leaf
        tt settled_node (λ q c. (let lt = c.1 in absurd (omega arith))) room [] s4.waiting nothing_added
        (subst (λ (q : Rational). DropsDead q (rest ++ []) s4.waiting) same_lower (subst (λ (ws : List Waiting). DropsDead (value_of_wide s3.lower) ws s4.waiting) waited (dropped s3 s4 drops)))
        (HasKeys-settled s0.tree held h.keys) (λ a c. absurd (not_empty a c)) most s4 tree
        (drops.opened ∙ (ap (λ (s : State N). s.opened) is ∙ opened_two)) (drops.lower ∙ (ap (λ (s : State N). s.lower) is ∙ o.lower)) (drops.best ∙ (ap (λ (s : State N). s.best) is ∙ o.best)) refl made

    -- ---- a split

    -- a key that no node has is that of no node that waits
    fresh_key : (key : ℕ) → key_count s0.tree key ≡ 0 → waiting_count s0.waiting key ≡ 0
    fresh_key key none = none_of s0.waiting key (λ v c e.
        let f = h.waiting.live v c in
        let st = f.2 in
        none_has (held_nodes P.paths task s0.tree) key (held_count-placed P.paths task.family task.bound s0.tree key ∙ none) f.0 f.1 (sym st.key ∙ e))

    module _ (s3 : State N) (by : IsSplitBy P.paths s2 s3 w.key w.seen.depth w.allowed.parts b (shares_found P w.allowed.parts)) where
      abbrev sp : Splits P.paths s2 s3 w.key w.seen.depth w.allowed.parts b by.division
      sp = by.splits

      abbrev d : Division
      d = by.division

      abbrev one_held : Held
      one_held = unopened sp.one (bound_value sp.first)

      abbrev other_held : Held
      other_held = unopened sp.other (bound_value sp.second)

      abbrev now_split : Placed Held
      now_split = record taken.0 { node = held; division = Some d }

      abbrev one_child : Placed Held
      one_child = place P.paths (first_of taken.0.family d) b one_held None

      abbrev other_child : Placed Held
      other_child = place P.paths (second_of taken.0.family d) b other_held None

      one_bound : bound_value sp.first ≡ bound_before P.paths (first_of taken.0.family d) b
      one_bound = sp.first_bound ∙ ap (λ f. bound_before P.paths (first_of f d) b) stands.family

      other_bound : bound_value sp.second ≡ bound_before P.paths (second_of taken.0.family d) b
      other_bound = sp.second_bound ∙ ap (λ f. bound_before P.paths (second_of f d) b) stands.family

      is_child : (family : Family) (e : Held) → was_opened (without_key (place P.paths family b e None)) ≡ false → e.node.bound ≡ bound_before P.paths family b
          → IsChild (without_key now_split) (without_key (place P.paths family b e None))
      is_child family e closed same = record {
        unopened = closed;
        leaf = record { bound = same; leaf = refl };
        bound = subst (λ (x : BoundValue). IsAtMost x b) (sym same) (lesser_left b (at_whole (basic_of P.paths family)));
      }

      each_child : (q : Placed Node) → Contains (map without_key (children_of P.paths (record taken.0 { node = held }) d one_held other_held)) q → IsChild (without_key now_split) q
      each_child q c = elim (in_cases (without_key one_child) q (without_key other_child ∷ []) c) [
        | inl same ↦ subst (λ (x : Placed Node). IsChild (without_key now_split) x) same (is_child (first_of taken.0.family d) one_held refl one_bound)
        | inr rest' ↦ elim (in_cases (without_key other_child) q [] rest') [
          | inl same ↦ subst (λ (x : Placed Node). IsChild (without_key now_split) x) same (is_child (second_of taken.0.family d) other_held refl other_bound)
          | inr none ↦ (let lt = none.1 in absurd (omega arith))
        ]
      ]

      abbrev one_waits : List Waiting
      one_waits = child s2.made sp.one (w.seen.depth + 1) (record { parts = first_of w.allowed.parts d }) (value_of_wide s2.lower) sp.first

      abbrev other_waits : List Waiting
      other_waits = child (s2.made + 1) sp.other (w.seen.depth + 1) (record { parts = second_of w.allowed.parts d }) (value_of_wide s2.lower) sp.second

      abbrev one_key : ℕ → ℕ
      one_key k = cond (nat_eq sp.one k) 1 0

      abbrev other_key : ℕ → ℕ
      other_key k = cond (nat_eq sp.other k) 1 0

      both_count : (k : ℕ) → waiting_count (one_waits ++ other_waits) k ≤ one_key k + other_key k
      both_count k =
          omega (
            arith,
            sum_by-append (λ (x : Waiting). cond (nat_eq x.key k) 1 0) one_waits other_waits,
            child_count s2.made sp.one (w.seen.depth + 1) (record { parts = first_of w.allowed.parts d }) (value_of_wide s2.lower) sp.first k,
            child_count (s2.made + 1) sp.other (w.seen.depth + 1) (record { parts = second_of w.allowed.parts d }) (value_of_wide s2.lower) sp.second k,
          )

      fresh_one : key_count s0.tree sp.one ≡ 0
      fresh_one = sym (key_count-settled s0.tree held sp.one) ∙ (ap (λ (t : Tree Held). key_count t sp.one) (sym tree_now) ∙ sp.fresh.first)

      fresh_other : key_count s0.tree sp.other ≡ 0
      fresh_other = sym (key_count-settled s0.tree held sp.other) ∙ (ap (λ (t : Tree Held). key_count t sp.other) (sym tree_now) ∙ sp.fresh.second)

      -- each key is that of one child at most, and of no node that waited
      keys_of : (k : ℕ) → (one_key k + other_key k ≤ 1) × (0 < one_key k + other_key k → waiting_count s0.waiting k ≡ 0)
      keys_of k = elim (cases_eq sp.one k) [
        | inl same ↦ (let one' : one_key k ≡ 1 = ap (λ t. cond t 1 0) (eq-eqb sp.one k same) in
            let none : other_key k ≡ 0 = ap (λ t. cond t 1 0) (ne_eqb sp.other k (λ e. sp.fresh.apart (same ∙ sym e))) in
            (omega (arith, one', none), λ some. ap (waiting_count s0.waiting) (sym same) ∙ fresh_key sp.one fresh_one))
        | inr apart ↦ (let none : one_key k ≡ 0 = ap (λ t. cond t 1 0) (ne_eqb sp.one k apart) in
            elim (cases_eq sp.other k) [
              | inl same ↦ (let one' : other_key k ≡ 1 = ap (λ t. cond t 1 0) (eq-eqb sp.other k same) in
                  (omega (arith, one', none), λ some. ap (waiting_count s0.waiting) (sym same) ∙ fresh_key sp.other fresh_other))
              | inr free ↦ (let none' : other_key k ≡ 0 = ap (λ t. cond t 1 0) (ne_eqb sp.other k free) in
                  (omega (arith, none, none'), λ some. absurd (omega (arith, some, none, none'))))
            ])
      ]

      live_at_two : (c : Placed Held) → IsLive (value_of_wide o.raised.lower) (without_key c) → IsLive (value_of_wide s2.lower) (without_key c)
      live_at_two c live = subst (λ (q : Rational). IsLive q (without_key c)) (sym lower_two) live

      live_high : (c : Placed Held) → IsLive (value_of_wide s2.lower) (without_key c) → IsLive (value_of_wide o.raised.lower) (without_key c)
      live_high c live = subst (λ (q : Rational). IsLive q (without_key c)) lower_two live

      one_live : (a : Waiting) → Contains one_waits a → StandsFor a one_child × IsLive (value_of_wide s2.lower) (without_key one_child)
      one_live a c = child_live s2.made sp.one (w.seen.depth + 1) (record { parts = first_of w.allowed.parts d }) (value_of_wide s2.lower) one_child (ap (λ f. first_of f d) stands.family) refl refl sp.first refl a c

      other_live : (a : Waiting) → Contains other_waits a → StandsFor a other_child × IsLive (value_of_wide s2.lower) (without_key other_child)
      other_live a c = child_live (s2.made + 1) sp.other (w.seen.depth + 1) (record { parts = second_of w.allowed.parts d }) (value_of_wide s2.lower) other_child (ap (λ f. second_of f d) stands.family) refl refl sp.second refl a c

      one_all : IsLive (value_of_wide s2.lower) (without_key one_child) → (a : Waiting) × Contains one_waits a × StandsFor a one_child
      one_all live = child_all s2.made sp.one (w.seen.depth + 1) (record { parts = first_of w.allowed.parts d }) (value_of_wide s2.lower) one_child (ap (λ f. first_of f d) stands.family) refl refl sp.first refl live

      other_all : IsLive (value_of_wide s2.lower) (without_key other_child) → (a : Waiting) × Contains other_waits a × StandsFor a other_child
      other_all live = child_all (s2.made + 1) sp.other (w.seen.depth + 1) (record { parts = second_of w.allowed.parts d }) (value_of_wide s2.lower) other_child (ap (λ f. second_of f d) stands.family) refl refl sp.second refl live

      added_are : AreAdded s0.waiting (one_child ∷ other_child ∷ []) (value_of_wide o.raised.lower) (one_waits ++ other_waits)
      added_are = record {
        live = λ a c. elim (Contains-append_cases one_waits other_waits a c) [
          | inl left ↦ (let l = one_live a left in (one_child, in_head one_child (other_child ∷ []), l.0, live_high one_child l.1))
          | inr right ↦ (let l = other_live a right in (other_child, in_tail one_child other_child (other_child ∷ []) (in_head other_child []), l.0, live_high other_child l.1))
        ];
        all = λ c in_both live. elim (in_cases one_child c (other_child ∷ []) in_both) [
          | inl same ↦ (let r = one_all (subst (λ (x : Placed Held). IsLive (value_of_wide s2.lower) (without_key x)) (sym same) (live_at_two c live)) in
              (r.0, Contains-append_left one_waits other_waits r.0 r.1, subst (λ (x : Placed Held). StandsFor r.0 x) same r.2))
          | inr rest' ↦ elim (in_cases other_child c [] rest') [
            | inl same ↦ (let r = other_all (subst (λ (x : Placed Held). IsLive (value_of_wide s2.lower) (without_key x)) (sym same) (live_at_two c live)) in
                (r.0, Contains-append_right one_waits other_waits r.0 r.1, subst (λ (x : Placed Held). StandsFor r.0 x) same r.2))
            | inr none ↦ (let lt = none.1 in absurd (omega arith))
          ]
        ];
        once = λ k. omega (arith, both_count k, (keys_of k).0);
        fresh = λ k some. (keys_of k).1 (omega (arith, some, both_count k));
      }

      depth_added : (a : Waiting) → Contains (one_waits ++ other_waits) a → a.seen.depth ≤ s0.opened + 1
      depth_added a c =
          let before = All-contains (λ (v : Waiting). v.seen.depth ≤ s0.opened) s0.waiting w h.depths
          (Contains-permutation (w ∷ rest) s0.waiting w (IsPermutation-sym s0.waiting (w ∷ rest) takes.same) (in_head w rest)) in
          elim (Contains-append_cases one_waits other_waits a c) [
            | inl left ↦ (let same = child_depth s2.made sp.one (w.seen.depth + 1) (record { parts = first_of w.allowed.parts d }) (value_of_wide s2.lower) sp.first a left in omega (arith, same, before))
            | inr right ↦ (let same = child_depth (s2.made + 1) sp.other (w.seen.depth + 1) (record { parts = second_of w.allowed.parts d }) (value_of_wide s2.lower) sp.second a right in omega (arith, same, before))
          ]

      -- a child that waits is above the value that the turn ends with, so above the one with which it began
      above_child : (a : Waiting) (c : Placed Held) → StandsFor a c × IsLive (value_of_wide s2.lower) (without_key c) → value_of_wide s0.lower <ℚ bound_at a
      above_child a c both =
          let st = both.0 in
          let live = both.1 in
          <ℚ_of_≤ℚ-<ℚ (subst (λ (q : Rational). value_of_wide s0.lower ≤ℚ q) (sym lower_two) no_less) (subst (λ (x : BoundValue). IsAbove x (value_of_wide s2.lower)) (sym st.bound) live.above)

      split_above : All (λ v. value_of_wide s0.lower <ℚ bound_at v) s3.waiting
      split_above =
          let added = one_waits ++ other_waits in
          let waited : rest ++ added ≡ s3.waiting = sym (sp.waiting ∙ ap (λ (ws : List Waiting). ws ++ added) waiting_two) in
          subst (λ (ws : List Waiting). All (λ v. value_of_wide s0.lower <ℚ bound_at v) ws) waited
          (λ k d lt. elim (Contains-append_cases rest added (slice_index_or (rest ++ added) k d) (Contains-get_or (rest ++ added) k d lt)) [
            | inl in_rest ↦ above_rest (slice_index_or (rest ++ added) k d) in_rest
            | inr in_added ↦ elim (Contains-append_cases one_waits other_waits (slice_index_or (rest ++ added) k d) in_added) [
              | inl left ↦ above_child (slice_index_or (rest ++ added) k d) one_child (one_live (slice_index_or (rest ++ added) k d) left)
              | inr right ↦ above_child (slice_index_or (rest ++ added) k d) other_child (other_live (slice_index_or (rest ++ added) k d) right)
            ]
          ])

      pub split_goes_on : (s4 : State N) → DropsOnly s3 s4 → s0.opened < task.budget → (first ≡ true → IsGreatest s0.waiting w) → IsUnderWay value P task first s4
      split_goes_on s4 drops room most =
          let grown : Tree Held = split_at (settled s0.tree held) w.key d one_held other_held in
          let tree : s4.tree ≡ grown = drops.tree ∙ (sp.tree ∙ ap (λ (t : Tree Held). split_at t w.key d one_held other_held) tree_now) in
          let waited : s3.waiting ≡ rest ++ (one_waits ++ other_waits) = sp.waiting ∙ ap (λ (ws : List Waiting). ws ++ (one_waits ++ other_waits)) waiting_two in
          let same_lower : value_of_wide s3.lower ≡ value_of_wide o.raised.lower = ap value_of_wide (sp.lower ∙ o.lower) in
          let made : s4.made ≤ 2 * s4.opened + 1 =
          (let m4 = drops.made ∙ sp.made in
          let o4 = drops.opened ∙ (sp.opened ∙ opened_two) in
          omega (arith, m4, o4, made_two, h.made)) in
          let fresh : AreFresh (settled s0.tree held) sp.one sp.other = subst (λ (t : Tree Held). AreFresh t sp.one sp.other) tree_now sp.fresh in
          under_way_next grown (Some d) (one_child ∷ other_child ∷ [])
          (split_there P.paths task.family task.bound s0.tree held taken.0 settles_here node.leaf (sym stands.key) taken.3.unopened opened_now d one_held other_held refl refl)
          (record { divides = subst (λ (f : Family). Divides f d) stands.family by.divides; rule = subst (λ (f : Family). IsByRule f (shares_found P f) d) stands.family by.rule; above = subst (λ (q : Rational). IsAbove b q) lower_two by.above })
          tt each_child room (one_waits ++ other_waits) s4.waiting added_are
          (subst (λ (q : Rational). DropsDead q (rest ++ (one_waits ++ other_waits)) s4.waiting) same_lower (subst (λ (ws : List Waiting). DropsDead (value_of_wide s3.lower) ws s4.waiting) waited (dropped s3 s4 drops)))
          (HasKeys-split_at w.key d one_held other_held (settled s0.tree held) (HasKeys-settled s0.tree held h.keys) fresh) depth_added most s4 tree
          (drops.opened ∙ (sp.opened ∙ opened_two)) (drops.lower ∙ (sp.lower ∙ o.lower)) (drops.best ∙ (sp.best ∙ o.best)) refl made

    -- ---- both

    pub all_above : (s3 : State N) → Branches P.paths s2 s3 w.key w.seen.depth w.allowed.parts b (shares_found P w.allowed.parts) → All (λ v. value_of_wide s0.lower <ℚ bound_at v) s3.waiting
    all_above s3 (inl leaf) = leaf_above s3 leaf
    all_above s3 (inr split) = split_above s3 split

    pub goes_on : (s3 s4 : State N) → Branches P.paths s2 s3 w.key w.seen.depth w.allowed.parts b (shares_found P w.allowed.parts) → DropsOnly s3 s4 → s0.opened < task.budget
        → (first ≡ true → IsGreatest s0.waiting w) → IsUnderWay value P task first s4
    goes_on s3 s4 (inl leaf) drops room most = leaf_goes_on s3 s4 leaf drops room most
    goes_on s3 s4 (inr split) drops room most = split_goes_on s3 split s4 drops room most

-- ---- where no node waits

pub none_waits : {N : Type 0} (value : N → Rational) (P : Problem) (task : Task) (first : Bool) (s : State N) → IsUnderWay value P task first s → s.waiting ≡ []
    → NoneIsLive (nodes_of P task (growth_of value s)) (value_of_wide s.lower)
none_waits value P task first s h none q c live =
    let k = with_key value P task s q c in
    let found = h.waiting.all k.0 k.1 (subst (λ (x : Placed Node). IsLive (value_of_wide s.lower) x) (sym k.2) live) in
    not_empty found.0 (subst (λ (ws : List Waiting). Contains ws found.0) none found.1)
