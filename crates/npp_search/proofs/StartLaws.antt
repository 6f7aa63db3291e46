-- A search begins with a root that waits, if its bound is above the lower value; and what it grew has few nodes.
use Rattle.std.proofs.Common.{◌≡◌, inl, inr, ℕ, ◌≤◌, Bool, cond, nat_eq, List, [], ◌∷◌, length, refl, sym, ◌∙◌, subst, ap, arith, Contains, All, None}
use Rattle.std.specs.Prelude.{slice_index_or, option_map}
use Rattle.std.proofs.lemmas.Bool.{true≢false, cases_eq, eq-eqb, ne_eqb}
use Rattle.std.proofs.lemmas.List.{length-append}
use Rattle.std.proofs.lemmas.List.Elements.{Contains-get_or}
use Rattle.npp_frac.specs.Rational.{Rational}
use Rattle.npp_frac.specs.Order.{≤ℚ_refl}
use Rattle.npp_frac.specs.Wide.{value_of_wide}
use Rattle.npp_rows.specs.declared.allowed.Allowed.{Allowed}
use Rattle.npp_rows.specs.PathModel.{PathModel}
use Rattle.npp_rows.specs.Parts.{IsAllowed}
use Rattle.npp_tree.specs.declared.bound.Bound.{Bound}
use Rattle.npp_tree.specs.Bounds.{BoundValue, bound_value}
use Rattle.npp_tree.specs.Family.{Family, first_of, second_of}
use Rattle.npp_tree.specs.Tree.{Node, Tree, Leaf, Split, Placed, place, nodes_below, preorder, bound_before, was_opened}
use Rattle.npp_tree.specs.Keyed.{Held, HasKeys, unopened, without_key, without_keys}
use Rattle.npp_tree.proofs.CountLaws.{in_head, in_cases, few_nodes}
use Rattle.npp_tree.proofs.FamilyLaws.{has_choice}
use Rattle.npp_tree.proofs.KeyedLaws.{one_at_most, key_count-leaf}
use Rattle.npp_leaf.specs.Found.{best_value}
use Rattle.npp_search.specs.declared.waiting.Waiting.{Waiting}
use Rattle.npp_search.specs.declared.state.State.{State}
use Rattle.npp_search.specs.Problem.{Problem}
use Rattle.npp_search.specs.Grown.{Task, Growth, IsGrowing, IsNode, IsLive, IsBestFirst, HasFewNodes, nodes_of}
use Rattle.npp_search.specs.Search.{StandsFor, waiting_count, AreWaiting, growth_of, held_nodes, IsUnderWay}
use Rattle.npp_search.specs.Steps.{child}
use Rattle.npp_search.proofs.TurnLaws.{are_divided}
use Rattle.npp_search.proofs.KeyLaws.{one_if}
use Rattle.npp_search.proofs.ChildLaws.{child_live, child_all, child_count, child_depth}

-- ---- the start

module _ {N : Type 0} (value : N → Rational) (P : Problem) (task : Task) (first : Bool) (s : State N) (key : ℕ) (b : Bound) (allowed : Allowed) (tree : s.tree ≡ Leaf (unopened key (bound_value b))) (same_bound : bound_value b ≡ bound_before P.paths task.family task.bound)
    (family : allowed.parts ≡ task.family) (lower : value_of_wide s.lower ≡ task.lower) (opened : s.opened ≡ 0) (made : s.made ≡ 1) (best : s.best ≡ None)
    (waiting : s.waiting ≡ child 0 key 0 allowed (value_of_wide s.lower) b) where
  abbrev root : Placed Held
  root = place P.paths task.family task.bound (unopened key (bound_value b)) None

  abbrev begun : Growth
  begun = record { tree = without_keys (Leaf (unopened key (bound_value b))); opened = 0; lower = task.lower; best = None }

  only_root : {X : Type 0} (r q : X) → Contains (r ∷ []) q → r ≡ q
  only_root r q c = elim (in_cases r q [] c) [ inl same ↦ same | inr none ↦ (let lt = none.1 in absurd (omega arith)) ]

  begun_growing : IsGrowing P task begun
  begun_growing = record {
    nodes = λ q c. subst (λ (x : Placed Node). IsNode P task task.lower x) (only_root (without_key root) q c) (record { bound = same_bound; leaf = refl });
    opened = refl;
    within_budget = omega arith;
    lower = record {
      given_less = ≤ℚ_refl task.lower;
      nodes_less = λ q v c e. absurd (true≢false (sym e.opened ∙ ap was_opened (sym (only_root (without_key root) q c))));
      attained = inl refl;
    };
    best = refl;
  }

  begun_waiting : AreWaiting (root ∷ []) (value_of_wide s.lower) (child 0 key 0 allowed (value_of_wide s.lower) b)
  begun_waiting = record {
    live = λ a c. (let l = child_live 0 key 0 allowed (value_of_wide s.lower) root family refl refl b refl a c in (root, in_head root [], l.0, l.1));
    all = λ q c live.
        let same = only_root root q c in
        let r = child_all 0 key 0 allowed (value_of_wide s.lower) root family refl refl b refl (subst (λ (x : Placed Held). IsLive (value_of_wide s.lower) (without_key x)) (sym same) live) in
        (r.0, r.1, subst (λ (x : Placed Held). StandsFor r.0 x) same r.2);
    once = λ k. one_or_none k (child_count 0 key 0 allowed (value_of_wide s.lower) b k);
  }
    where
      one_or_none : (k : ℕ) → waiting_count (child 0 key 0 allowed (value_of_wide s.lower) b) k ≤ cond (nat_eq key k) 1 0 → waiting_count (child 0 key 0 allowed (value_of_wide s.lower) b) k ≤ 1
      one_or_none k h = elim (cases_eq key k) [
        | inl same ↦ (let one : one_if (nat_eq key k) ≡ 1 = ap one_if (eq-eqb key k same) in omega (arith, h, one))
        | inr apart ↦ (let none : one_if (nat_eq key k) ≡ 0 = ap one_if (ne_eqb key k apart) in omega (arith, h, none))
      ]

  pub under_way_start : IsUnderWay value P task first s
  under_way_start =
      let same : begun ≡ growth_of value s = λ i. record {
        tree = without_keys (sym tree i);
        opened = sym opened i;
        lower = sym lower i;
        best = option_map (best_value value) (sym best i);
      } in
      record {
        growing = subst (λ (g : Growth). IsGrowing P task g) same begun_growing;
        keys = subst (λ (t : Tree Held). HasKeys t) (sym tree) (λ k. omega (arith, key_count-leaf (unopened key (bound_value b)) k, one_at_most k (unopened key (bound_value b))));
        waiting = subst (λ (t : Tree Held). AreWaiting (held_nodes P.paths task t) (value_of_wide s.lower) s.waiting) (sym tree)
            (subst (λ (ws : List Waiting). AreWaiting (root ∷ []) (value_of_wide s.lower) ws) (sym waiting) begun_waiting);
        best_first = λ e. subst (λ (g : Growth). IsBestFirst (nodes_of P task g) g.lower) same
            (λ p q in_p in_q was live. absurd (true≢false (sym was ∙ ap was_opened (sym (only_root (without_key root) p in_p)))));
        made = omega (arith, made, opened);
        depths = subst (λ (ws : List Waiting). All (λ v. v.seen.depth ≤ s.opened) ws) (sym waiting)
            (λ i d lt. let zero' = child_depth 0 key 0 allowed (value_of_wide s.lower) b (slice_index_or (child 0 key 0 allowed (value_of_wide s.lower) b) i d)
            (Contains-get_or (child 0 key 0 allowed (value_of_wide s.lower) b) i d lt) in omega (arith, zero'));
      }

-- ---- how many nodes

length-preorder : (m : PathModel) (family : Family) (parent : BoundValue) (tree : Tree Node) → length (preorder tree) ≡ length (nodes_below m family parent tree)
length-preorder m family parent (Leaf n) = refl
length-preorder m family parent (Split n d first second) =
    omega (
      arith,
      length-append (preorder first) (preorder second),
      length-append (nodes_below m (first_of family d) n.bound first) (nodes_below m (second_of family d) n.bound second),
      length-preorder m (first_of family d) n.bound first,
      length-preorder m (second_of family d) n.bound second,
    )

pub few_grown : (P : Problem) (task : Task) (g : Growth) → IsAllowed P.paths task.family → IsGrowing P task g → HasFewNodes task.family (preorder g.tree)
few_grown P task g allowed growing =
    omega (
      arith,
      length-preorder P.paths task.family task.bound g.tree,
      few_nodes (λ n. n.bound) P.paths task.family task.bound g.tree (has_choice P.paths task.family allowed) (are_divided P task g growing),
    )
