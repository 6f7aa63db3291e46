-- What is handed down in a tree: allowed paths, and the children that allow a choice.
use Rattle.std.proofs.Common.{◌≡◌, inl, inr, ℕ, zero, suc, ◌<◌, not, nat_eq, List, [], ◌∷◌, ◌++◌, length, subst, ap, arith, Contains, ◌⊎◌, Bool, true, false, cond, refl, sym, ◌∙◌, Some, None}
use Rattle.std.specs.Prelude.{slice_set, slice_index_or, filter}
use Rattle.std.proofs.lemmas.List.Elements.{Contains-append_left, Contains-append_right, Contains-append_cases, All-filter, All-contains, Contains-get_or}
use Rattle.std.proofs.lemmas.List.Kept.{AllPairs-filter}
use Rattle.std.proofs.lemmas.Bool.{cases_Bool, not_from_false, eqb-true}
use Rattle.std.proofs.lemmas.Map.Views.{Contains-from_any}
use Rattle.npp_rows.specs.PathModel.{PathModel, path_count}
use Rattle.npp_rows.specs.Parts.{part_at, chosen, IsPart, IsAllowed, IsChoiceFrom}
use Rattle.npp_rows.specs.Basic.{basic_of}
use Rattle.npp_tree.specs.Bounds.{BoundValue, at_whole, IsAtMost}
use Rattle.npp_tree.specs.Family.{Family, Division, Divides, is_among, rest_of, first_of, second_of, choice_count}
use Rattle.npp_tree.specs.Tree.{Node, Tree, Leaf, Split, Placed, Entry, placed, nodes_below, bound_before, preorder}
use Rattle.npp_tree.proofs.BoundLaws.{below_lesser}
use Rattle.npp_tree.proofs.CountLaws.{in_head, in_tail, in_cases, AreDivided, product_positive}

-- ---- other paths of one commodity

pub set_size : (family : Family) (k : ℕ) (a : List ℕ) → length (slice_set family k a) ≡ length family
set_size [] k a = refl
set_size (part ∷ family) zero a = refl
set_size (part ∷ family) (suc k) a = omega (arith, set_size family k a)

-- what holds of each commodity with its paths holds so with other paths of one, if it does of these
pub set_at : (P : ℕ → List ℕ → Type 0) (family : Family) (k : ℕ) (a : List ℕ) → ((j : ℕ) → j < length family → P j (part_at family j)) → P k a
    → (j : ℕ) → j < length family → P j (part_at (slice_set family k a) j)
set_at P [] k a h p j lt = absurd (omega (arith, lt))
set_at P (part ∷ family) zero a h p zero lt = p
set_at P (part ∷ family) zero a h p (suc j) lt = h (suc j) lt
set_at P (part ∷ family) (suc k) a h p zero lt = h 0 lt
set_at P (part ∷ family) (suc k) a h p (suc j) lt = set_at (λ i q. P (suc i) q) family k a (λ i l. h (suc i) (omega (arith, l))) p j (omega (arith, lt))

-- ---- allowed families

set_allowed : (m : PathModel) (family : Family) (k : ℕ) (a : List ℕ) → IsAllowed m family → IsPart (path_count m k) a → IsAllowed m (slice_set family k a)
set_allowed m family k a is part = record {
  size = set_size family k a ∙ is.size;
  each = λ j lt. set_at (λ i q. IsPart (path_count m i) q) family k a is.each part j (omega (arith, lt, set_size family k a));
}

pub first_allowed : (m : PathModel) (family : Family) (d : Division) → IsAllowed m family → Divides family d → IsAllowed m (first_of family d)
first_allowed m family d is divides =
    let whole = is.each d.commodity divides.commodity in
    set_allowed m family d.commodity d.part is (record {
      some = divides.some;
      rising = divides.rising;
      in_range = λ i e lt. All-contains (λ q. q < path_count m d.commodity) (part_at family d.commodity) (slice_index_or d.part i e) whole.in_range
          (divides.within (slice_index_or d.part i e) (Contains-get_or d.part i e lt));
    })

pub second_allowed : (m : PathModel) (family : Family) (d : Division) → IsAllowed m family → Divides family d → IsAllowed m (second_of family d)
second_allowed m family d is divides =
    let whole = is.each d.commodity divides.commodity in
    set_allowed m family d.commodity (rest_of d.part (part_at family d.commodity)) is (record {
      some = divides.rest;
      rising = AllPairs-filter (λ p q. p < q) (λ q. not (is_among d.part q)) (part_at family d.commodity) whole.rising;
      in_range = All-filter (λ q. not (is_among d.part q)) (λ q. q < path_count m d.commodity) (part_at family d.commodity) whole.in_range;
    })

-- each node of a tree allows a family of the covers, if the root does
pub families : {A : Type 0} (bound : A → BoundValue) (m : PathModel) (family : Family) (parent : BoundValue) (tree : Tree A) → IsAllowed m family
    → AreDivided (placed bound m family parent tree) → (p : Placed A) → Contains (placed bound m family parent tree) p → IsAllowed m p.family
families {A} bound m family parent (Leaf a) is divided p c = elim (in_cases _ p [] c) [
  | inl same ↦ subst (λ (q : Placed A). IsAllowed m q.family) same is
  | inr rest ↦ (let lt = rest.1 in absurd (omega arith))
]
families {A} bound m family parent (Split a d first second) is divided p c =
    let left = placed bound m (first_of family d) (bound a) first in
    let right = placed bound m (second_of family d) (bound a) second in
    let here : Divides family d = divided _ (in_head _ (left ++ right)) in
    elim (in_cases _ p (left ++ right) c) [
      | inl same ↦ subst (λ (q : Placed A). IsAllowed m q.family) same is
      | inr rest ↦ elim (Contains-append_cases left right p rest) [
        | inl on_left ↦ families bound m (first_of family d) (bound a) first
            (first_allowed m family d is here)
            (λ q e. divided q (in_tail _ q (left ++ right) (Contains-append_left left right q e))) p on_left
        | inr on_right ↦ families bound m (second_of family d) (bound a) second
            (second_allowed m family d is here)
            (λ q e. divided q (in_tail _ q (left ++ right) (Contains-append_right left right q e))) p on_right
      ]
    ]

-- a family has a choice
pub has_choice : (m : PathModel) (family : Family) → IsAllowed m family → 0 < choice_count family
has_choice m family is = some_choice family (λ k lt. (is.each k lt).some)
  where
    some_choice : (family : Family) → ((k : ℕ) → k < length family → 0 < length (part_at family k)) → 0 < choice_count family
    some_choice [] h = omega arith
    some_choice (part ∷ family) h = product_positive (length part) (choice_count family) (h 0 (omega arith)) (some_choice family (λ k lt. h (suc k) (omega (arith, lt))))

-- ---- the child that allows a choice

kept_first : {X : Type 0} (b : Bool) (x : X) (xs : List X) → b ≡ true → Contains (cond b (x ∷ xs) xs) x
kept_first b x xs e = subst (λ (t : Bool). Contains (cond t (x ∷ xs) xs) x) (sym e) (in_head x xs)

kept_later : {X : Type 0} (b : Bool) (x y : X) (xs : List X) → Contains xs x → Contains (cond b (y ∷ xs) xs) x
kept_later true x y xs c = in_tail y x xs c
kept_later false x y xs c = c

-- a test keeps each element that passes it
pub is_kept : {X : Type 0} (f : X → Bool) (xs : List X) (x : X) → Contains xs x → f x ≡ true → Contains (filter f xs) x
is_kept f [] x c e = (let lt = c.1 in absurd (omega arith))
is_kept {X} f (y ∷ xs) x c e = elim (in_cases y x xs c) [
  | inl same ↦ subst (λ (z : X). Contains (cond (f y) (y ∷ filter f xs) (filter f xs)) z) same (kept_first (f y) y (filter f xs) (ap f same ∙ e))
  | inr later ↦ kept_later (f y) x y (filter f xs) (is_kept f xs x later e)
]

part_or_rest : (part whole : List ℕ) (q : ℕ) → Contains whole q → Contains part q ⊎ Contains (rest_of part whole) q
part_or_rest part whole q c = elim (cases_Bool (is_among part q)) [
  | inl e ↦ inl (Contains-from_any {eq = nat_eq} (λ x y. eqb-true x y) q part e)
  | inr e ↦ inr (is_kept (λ p. not (is_among part p)) whole q c (not_from_false (is_among part q) e))
]

-- one of the children allows a choice that its parent allows
pub child_choice : (m : PathModel) (family : Family) (d : Division) (choice : List ℕ) → length family ≡ length m.covers → d.commodity < length family
    → IsChoiceFrom m family choice → IsChoiceFrom m (first_of family d) choice ⊎ IsChoiceFrom m (second_of family d) choice
child_choice m family d choice size lt is =
    let Has : ℕ → List ℕ → Type 0 = λ k part. Contains part (chosen choice k) in
    let each : (j : ℕ) → j < length family → Contains (part_at family j) (chosen choice j) = λ j l. is.each j (omega (arith, l, size)) in
    elim (part_or_rest d.part (part_at family d.commodity) (chosen choice d.commodity) (each d.commodity lt)) [
      | inl c ↦ inl (record { size = is.size; each = λ j l. set_at Has family d.commodity d.part each c j (omega (arith, l, size)) })
      | inr c ↦ inr (record { size = is.size; each = λ j l. set_at Has family d.commodity (rest_of d.part (part_at family d.commodity)) each c j (omega (arith, l, size)) })
    ]

-- ---- down the tree

-- a leaf that allows the choice, with a bound of at least v
pub record IsLeafFor (m : PathModel) (nodes : List (Placed Node)) (choice : List ℕ) (v : BoundValue) (p : Placed Node) : Type 0 where
  pub among : Contains nodes p
  pub leaf : p.division ≡ None
  pub allows : IsChoiceFrom m p.family choice
  pub bound : IsAtMost v p.node.bound

module _ (m : PathModel) (choice : List ℕ) (v : BoundValue)
    (basic : (family : Family) → IsAllowed m family → IsChoiceFrom m family choice → IsAtMost v (at_whole (basic_of m family))) where
  abbrev pub KeepsAbove : List (Placed Node) → Type 0
  KeepsAbove nodes = (p : Placed Node) → Contains nodes p → IsAllowed m p.family → IsChoiceFrom m p.family choice → IsAtMost v p.before → IsAtMost v p.node.bound

  -- where each node that allows the choice keeps v, from its bound before it was opened on, so does some leaf
  pub leaf_for : (family : Family) (parent : BoundValue) (tree : Tree Node) → IsAllowed m family → IsChoiceFrom m family choice
      → AreDivided (nodes_below m family parent tree) → IsAtMost v parent → KeepsAbove (nodes_below m family parent tree) → (p : Placed Node) × IsLeafFor m (nodes_below m family parent tree) choice v p
  leaf_for family parent (Leaf n) is allows divided above keeps =
      let here = in_head (record { family = family; before = bound_before m family parent; node = n; division = None }) [] in
      (_, record { among = here; leaf = refl; allows = allows; bound = keeps _ here is allows (below_lesser v parent (at_whole (basic_of m family)) above (basic family is allows)) })
  leaf_for family parent (Split n d first second) is allows divided above keeps =
      let left = nodes_below m (first_of family d) n.bound first in
      let right = nodes_below m (second_of family d) n.bound second in
      let here = in_head (record { family = family; before = bound_before m family parent; node = n; division = Some d }) (left ++ right) in
      let divides : Divides family d = divided _ here in
      let above_here : IsAtMost v n.bound = keeps _ here is allows (below_lesser v parent (at_whole (basic_of m family)) above (basic family is allows)) in
      elim (child_choice m family d choice is.size divides.commodity allows) [
        | inl on_left ↦ (let found = leaf_for (first_of family d) n.bound first (first_allowed m family d is divides) on_left (λ p c. divided p (in_tail _ p (left ++ right) (Contains-append_left left right p c))) above_here (λ p c. keeps p (in_tail _ p (left ++ right) (Contains-append_left left right p c))) in
            (found.0, record { among = in_tail _ found.0 (left ++ right) (Contains-append_left left right found.0 found.1.among); leaf = found.1.leaf; allows = found.1.allows; bound = found.1.bound }))
        | inr on_right ↦ (let found = leaf_for (second_of family d) n.bound second (second_allowed m family d is divides) on_right (λ p c. divided p (in_tail _ p (left ++ right) (Contains-append_right left right p c))) above_here (λ p c. keeps p (in_tail _ p (left ++ right) (Contains-append_right left right p c))) in
            (found.0, record { among = in_tail _ found.0 (left ++ right) (Contains-append_right left right found.0 found.1.among); leaf = found.1.leaf; allows = found.1.allows; bound = found.1.bound }))
      ]

-- ---- certificates

-- the node of a tree that an entry of its certificate is
pub record Stands (nodes : List (Placed Node)) (e : Entry) (p : Placed Node) : Type 0 where
  pub among : Contains nodes p
  pub node : p.node ≡ e.node
  pub division : p.division ≡ e.division

pub entry_stands : (m : PathModel) (family : Family) (parent : BoundValue) (tree : Tree Node) (e : Entry) → Contains (preorder tree) e
    → (p : Placed Node) × Stands (nodes_below m family parent tree) e p
entry_stands m family parent (Leaf n) e c = elim (in_cases _ e [] c) [
  | inl same ↦ (_, record { among = in_head _ []; node = ap (λ (x : Entry). x.node) same; division = ap (λ (x : Entry). x.division) same })
  | inr rest ↦ (let lt = rest.1 in absurd (omega arith))
]
entry_stands m family parent (Split n d first second) e c =
    let left = nodes_below m (first_of family d) n.bound first in
    let right = nodes_below m (second_of family d) n.bound second in
    elim (in_cases _ e (preorder first ++ preorder second) c) [
      | inl same ↦ (_, record { among = in_head _ (left ++ right); node = ap (λ (x : Entry). x.node) same; division = ap (λ (x : Entry). x.division) same })
      | inr rest ↦ elim (Contains-append_cases (preorder first) (preorder second) e rest) [
        | inl on_left ↦ (let s = entry_stands m (first_of family d) n.bound first e on_left in
            (s.0, record { among = in_tail _ s.0 (left ++ right) (Contains-append_left left right s.0 s.1.among); node = s.1.node; division = s.1.division }))
        | inr on_right ↦ (let s = entry_stands m (second_of family d) n.bound second e on_right in
            (s.0, record { among = in_tail _ s.0 (left ++ right) (Contains-append_right left right s.0 s.1.among); node = s.1.node; division = s.1.division }))
      ]
    ]
