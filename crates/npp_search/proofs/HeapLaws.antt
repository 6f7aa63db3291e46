-- Nodes in a heap: the one that it gives comes first, and they are those of the list from which they came.
use Rattle.std.proofs.Common.{◌≡◌, inl, inr, ℕ, ◌<◌, false, List, [], ◌∷◌, ◌++◌, length, map, All, refl, sym, ◌∙◌, subst, ap, ap₂, arith, Ordering, Less, Equal, Greater}
use Rattle.std.specs.Prelude.{slice_index_or, Option, Some, None, IfSome, IfNone, MatchOption}
use Rattle.std.specs.BinaryHeap.{IsUpperBound, lt_by_cmp}
use Rattle.std.specs.Cmp.{ranked}
use Rattle.std.specs.List.Sorted.{IsPermutation}
use Rattle.std.specs.Ordering.{MatchOrdering, is_lt, nat_cmp, ordering_then}
use Rattle.std.proofs.lemmas.Bool.{true≢false}
use Rattle.std.proofs.lemmas.List.{append_assoc, append-nil}
use Rattle.std.proofs.lemmas.List.Elements.{All-from_recursion, All-map}
use Rattle.std.proofs.lemmas.List.Sorted.{IsPermutation-sym, IsPermutation-trans, IsPermutation-append_left, IsPermutation-to_front, length_permutation, All-permutation, Contains-permutation}
use Rattle.npp_frac.specs.Rational.{rational_cmp, ◌<ℚ◌}
use Rattle.npp_frac.specs.Order.{rational_ranks}
use Rattle.npp_frac.specs.Wide.{value_of_wide}
use Rattle.npp_search.specs.declared.picker.OpenNode.{OpenNode}
use Rattle.npp_search.specs.declared.picker.NodeOrder.{NodeOrder}
use Rattle.npp_search.specs.declared.picker.NodeOrder.TheVariants.{GreatestBound, GreatestDepth}
use Rattle.npp_search.specs.declared.ranked.Ranked.{Ranked}
use Rattle.npp_search.specs.declared.waiting.Waiting.{Waiting}
use Rattle.npp_search.specs.Picker.{IsBetterBound}
use Rattle.npp_search.specs.Rank.{IsNoLater, IsFirst, level_of, node_of, IsAtLevel, ranked_cmp}
use Rattle.npp_search.specs.Search.{TakesOne, IsGreatest}

-- ---- what is not less comes no later

better_of : (n m : OpenNode) (o p : Ordering)
    → MatchOrdering o (value_of_wide n.bound <ℚ value_of_wide m.bound) (value_of_wide n.bound ≡ value_of_wide m.bound) (value_of_wide m.bound <ℚ value_of_wide n.bound)
    → MatchOrdering p (m.number < n.number) (m.number ≡ n.number) (n.number < m.number) → is_lt (ordering_then o p) ≡ false → IsBetterBound n m
better_of n m Less p h k e = absurd (true≢false e)
better_of n m Equal Less h k e = absurd (true≢false e)
better_of n m Equal Equal h k e = inr (sym h, omega (arith, k))
better_of n m Equal Greater h k e = inr (sym h, omega (arith, k))
better_of n m Greater p h k e = inl h

no_later_of : (order : NodeOrder) (n m : OpenNode) (o rest : Ordering) → MatchOrdering o (level_of order n < level_of order m) (level_of order n ≡ level_of order m) (level_of order m < level_of order n)
    → (is_lt rest ≡ false → IsBetterBound n m) → is_lt (ordering_then o rest) ≡ false → IsNoLater order n m
no_later_of GreatestBound n m Less rest h better e = absurd (true≢false e)
no_later_of GreatestBound n m Equal rest h better e = better e
no_later_of GreatestBound n m Greater rest h better e = absurd (omega (arith, h))
no_later_of GreatestDepth n m Less rest h better e = absurd (true≢false e)
no_later_of GreatestDepth n m Equal rest h better e = inr (sym h, better e)
no_later_of GreatestDepth n m Greater rest h better e = inl h

no_later : (order : NodeOrder) (x y : Ranked) → IsAtLevel order x → IsAtLevel order y → lt_by_cmp ranked_cmp x y ≡ false → IsNoLater order x.node.seen y.node.seen
no_later order x y at here e =
    let n = x.node.seen in
    let m = y.node.seen in
    let rest = ordering_then (rational_cmp (value_of_wide n.bound) (value_of_wide m.bound)) (nat_cmp m.number n.number) in
    let levels = subst (λ (k : ℕ). MatchOrdering (nat_cmp x.level y.level) (level_of order n < k) (level_of order n ≡ k) (k < level_of order n)) here
    (subst (λ (k : ℕ). MatchOrdering (nat_cmp x.level y.level) (k < y.level) (k ≡ y.level) (y.level < k)) at (ranked x.level y.level (nat_cmp x.level y.level) refl)) in
    no_later_of order n m (nat_cmp x.level y.level) rest levels
    (better_of n m (rational_cmp (value_of_wide n.bound) (value_of_wide m.bound)) (nat_cmp m.number n.number) (rational_ranks (value_of_wide n.bound) (value_of_wide m.bound))
    (ranked m.number n.number (nat_cmp m.number n.number) refl))
    e

-- so the greatest of a heap comes first
pub greatest_is_first : (order : NodeOrder) (x : Ranked) (xs : List Ranked) → IsAtLevel order x → All (IsAtLevel order) xs → IsUpperBound ranked_cmp x xs → IsFirst order (map node_of xs) x.node
greatest_is_first order x xs at levels above =
    let none_greater = All-from_recursion (λ y. lt_by_cmp ranked_cmp x y ≡ false) xs above in
    All-map (λ v. IsNoLater order x.node.seen v.seen) node_of xs (λ k d lt. no_later order x (slice_index_or xs k d) at (levels k d lt) (none_greater k d lt))

-- ---- nodes that are moved

-- the first of one list goes to the end of another
pub moves_over : (ranked rest listed : List Waiting) (w : Waiting) → IsPermutation ranked (w ∷ rest) → IsPermutation (ranked ++ listed) (rest ++ (listed ++ w ∷ []))
moves_over ranked rest listed w h =
    subst (λ (ws : List Waiting). IsPermutation (ranked ++ listed) ws) (append_assoc rest listed (w ∷ []))
    (IsPermutation-trans (ranked ++ listed) (w ∷ (rest ++ listed)) ((rest ++ listed) ++ w ∷ []) (IsPermutation-append_left listed ranked (w ∷ rest) h)
    (IsPermutation-sym ((rest ++ listed) ++ w ∷ []) (w ∷ (rest ++ listed)) (IsPermutation-to_front (rest ++ listed) w)))

-- the last of a list joins another
pub moves_back : (ranked more rest : List Waiting) (w : Waiting) → IsPermutation (w ∷ ranked) more → IsPermutation (ranked ++ (rest ++ w ∷ [])) (more ++ rest)
moves_back ranked more rest w h =
    subst (λ (ws : List Waiting). IsPermutation ws (more ++ rest)) (append_assoc ranked rest (w ∷ []))
    (IsPermutation-trans ((ranked ++ rest) ++ w ∷ []) (w ∷ (ranked ++ rest)) (more ++ rest) (IsPermutation-to_front (ranked ++ rest) w) (IsPermutation-append_left rest (w ∷ ranked) more h))

pub one_fewer : (xs ys : List Waiting) (w : Waiting) → IsPermutation xs (w ∷ ys) → length ys < length xs
one_fewer xs ys w h = let same = length_permutation xs (w ∷ ys) h in omega (arith, same)

-- ---- empty lists

pub nothing : (xs : List Waiting) → IsPermutation xs [] → xs ≡ []
nothing [] h = refl
nothing (x ∷ xs) h = let same = length_permutation (x ∷ xs) [] h in absurd (omega (arith, same))

pub left_nothing : (xs ys : List Waiting) → xs ++ ys ≡ [] → xs ≡ []
left_nothing [] ys e = refl
left_nothing (x ∷ xs) ys e = let same = ap length e in absurd (omega (arith, same))

-- ---- the node that is taken, among all that waited

module _ (all ranked left listed : List Waiting) (same : IsPermutation all ranked) (none : listed ≡ []) where
  abbrev Popped : Option Waiting → Type 0
  Popped taken = MatchOption taken ((ranked ≡ []) × (left ≡ [])) (λ w. IsPermutation ranked (w ∷ left))

  pub popped_none : (taken : Option Waiting) → Popped taken → IfNone taken (all ≡ [])
  popped_none None h = nothing all (subst (λ (ws : List Waiting). IsPermutation all ws) h.0 same)
  popped_none (Some w) h = tt

  pub popped_kept : (taken : Option Waiting) → Popped taken → IfNone taken (left ++ listed ≡ all)
  popped_kept None h = ap₂ (λ (us vs : List Waiting). us ++ vs) h.1 none ∙ sym (popped_none None h)
  popped_kept (Some w) h = tt

  pub popped_taken : (taken : Option Waiting) → Popped taken → IfSome taken (TakesOne all (left ++ listed))
  popped_taken None h = tt
  popped_taken (Some w) h =
      let rest : left ≡ left ++ listed = sym (ap (λ (ws : List Waiting). left ++ ws) none ∙ append-nil left) in
      record { same = IsPermutation-trans all ranked (w ∷ (left ++ listed)) same (subst (λ (ws : List Waiting). IsPermutation ranked (w ∷ ws)) rest h) }

  pub popped_first : (order : NodeOrder) (taken : Option Waiting) → MatchOption taken (Unit {0}) (IsFirst order ranked) → IfSome taken (IsFirst order all)
  popped_first order None h = tt
  popped_first order (Some w) h = All-permutation (λ v. IsNoLater order w.seen v.seen) ranked all (IsPermutation-sym all ranked same) h

module _ (all ranked listed rest : List Waiting) (same : IsPermutation all listed) (none : ranked ≡ []) where
  pub named_none : (taken : Option Waiting) → IfNone taken (listed ≡ []) → IfNone taken (all ≡ [])
  named_none None h = nothing all (subst (λ (ws : List Waiting). IsPermutation all ws) h same)
  named_none (Some w) h = tt

  pub named_kept : (taken : Option Waiting) → IfNone taken (listed ≡ []) → IfNone taken (rest ≡ listed) → IfNone taken (ranked ++ rest ≡ all)
  named_kept None h k = ap₂ (λ (us vs : List Waiting). us ++ vs) none (k ∙ h) ∙ sym (named_none None h)
  named_kept (Some w) h k = tt

  pub named_taken : (taken : Option Waiting) → IfSome taken (TakesOne listed rest) → IfSome taken (TakesOne all (ranked ++ rest))
  named_taken None h = tt
  named_taken (Some w) h =
      let left : rest ≡ ranked ++ rest = sym (ap (λ (ws : List Waiting). ws ++ rest) none) in
      record { same = IsPermutation-trans all listed (w ∷ (ranked ++ rest)) same (subst (λ (ws : List Waiting). IsPermutation listed (w ∷ ws)) left h.same) }

  pub named_greatest : (taken : Option Waiting) → IfSome taken (IsGreatest listed) → IfSome taken (IsGreatest all)
  named_greatest None h = tt
  named_greatest (Some w) h = λ v c. h v (Contains-permutation all listed v same c)
