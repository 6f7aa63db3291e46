-- A tree in which one leaf is opened, and maybe split, among its other nodes.
use Rattle.std.proofs.Common.{◌≡◌, inl, inr, ◌⊎◌, ℕ, zero, suc, ◌+◌, ◌<◌, true, false, cond, List, [], ◌∷◌, ◌++◌, length, refl, sym, ap, ap₂, arith, Contains}
use Rattle.std.specs.Prelude.{count_by, flat_map, slice_index_or}
use Rattle.std.proofs.lemmas.List.Sums.{sum_by-append}
use Rattle.std.proofs.lemmas.List.Elements.{Contains-append_left, Contains-append_right, Contains-append_cases}
use Rattle.npp_tree.specs.Tree.{Node, Placed, was_opened}
use Rattle.npp_search.specs.Turn.{Opens}
use Rattle.npp_tree.proofs.CountLaws.{in_head, in_tail, in_cases}

-- ---- a list round one of its elements

pub record IsAround {X : Type 0} (xs front back : List X) (x : X) : Type 0 where
  pub same : xs ≡ front ++ x ∷ back

around_at : {X : Type 0} (xs : List X) (x : X) (k : ℕ) → k < length xs → slice_index_or xs k x ≡ x → (front : List X) × (back : List X) × IsAround xs front back x
around_at [] x k lt e = absurd (omega arith)
around_at (y ∷ xs) x zero lt e = ([], xs, record { same = ap (λ z. z ∷ xs) e })
around_at (y ∷ xs) x (suc k) lt e = (let r = around_at xs x k (omega arith) e in (y ∷ r.0, r.1, record { same = ap (λ zs. y ∷ zs) r.2.same }))

pub around : {X : Type 0} (xs : List X) (x : X) → Contains xs x → (front : List X) × (back : List X) × IsAround xs front back x
around xs x c = around_at xs x c.0 c.1 c.2

-- what stands for each element, where all but one stand for themselves
abbrev pub StandAlone : {X : Type 0} → (X → List X) → List X → Type 0
StandAlone {X} f xs = (x : X) → Contains xs x → f x ≡ x ∷ []

flat_alone : {X : Type 0} (f : X → List X) (xs : List X) → StandAlone f xs → flat_map f xs ≡ xs
flat_alone f [] h = refl
flat_alone f (x ∷ xs) h = ap₂ (λ ys zs. ys ++ zs) (h x (in_head x xs)) (flat_alone f xs (λ y c. h y (in_tail x y xs c)))

pub flat_one : {X : Type 0} (f : X → List X) (front back : List X) (x : X) → StandAlone f front → StandAlone f back
    → flat_map f (front ++ x ∷ back) ≡ front ++ (f x ++ back)
flat_one f [] back x h k = ap (λ ys. f x ++ ys) (flat_alone f back k)
flat_one f (y ∷ front) back x h k = ap₂ (λ ys zs. ys ++ zs) (h y (in_head y front)) (flat_one f front back x (λ z c. h z (in_tail y z front c)) k)

-- ---- opened

module _ (front back children : List (Placed Node)) (was now : Placed Node) where
  old_nodes : List (Placed Node)
  old_nodes = front ++ was ∷ back

  each_from : (q : Placed Node) → Contains (front ++ now ∷ (children ++ back)) q → (q ≡ now) ⊎ (Contains children q ⊎ Contains (front ++ was ∷ back) q)
  each_from q c = elim (Contains-append_cases front (now ∷ (children ++ back)) q c) [
    | inl before ↦ inr (inr (Contains-append_left front (was ∷ back) q before))
    | inr rest ↦ elim (in_cases now q (children ++ back) rest) [
      | inl same ↦ inl (sym same)
      | inr later ↦ elim (Contains-append_cases children back q later) [
        | inl child ↦ inr (inl child)
        | inr after ↦ inr (inr (Contains-append_right front (was ∷ back) q (in_tail was q back after)))
      ]
    ]
  ]

  kept_from : (q : Placed Node) → Contains (front ++ was ∷ back) q → (q ≡ was) ⊎ Contains (front ++ now ∷ (children ++ back)) q
  kept_from q c = elim (Contains-append_cases front (was ∷ back) q c) [
    | inl before ↦ inr (Contains-append_left front (now ∷ (children ++ back)) q before)
    | inr rest ↦ elim (in_cases was q back rest) [
      | inl same ↦ inl (sym same)
      | inr after ↦ inr (Contains-append_right front (now ∷ (children ++ back)) q (in_tail now q (children ++ back) (Contains-append_right children back q after)))
    ]
  ]

  abbrev pub one_if_opened : Placed Node → ℕ
  one_if_opened p = cond (was_opened p) 1 0

  counted : was_opened was ≡ false → was_opened now ≡ true → count_by was_opened children ≡ 0
      → count_by was_opened (front ++ now ∷ (children ++ back)) ≡ count_by was_opened (front ++ was ∷ back) + 1
  counted e e' none =
      let a = sum_by-append one_if_opened front (now ∷ (children ++ back)) in
      let b = sum_by-append one_if_opened front (was ∷ back) in
      let c = sum_by-append one_if_opened (now ∷ []) (children ++ back) in
      let d = sum_by-append one_if_opened children back in
      let f = sum_by-append one_if_opened (was ∷ []) back in
      let one : one_if_opened now ≡ 1 = ap (λ t. cond t 1 0) e' in
      let zero' : one_if_opened was ≡ 0 = ap (λ t. cond t 1 0) e in
      omega (arith, a, b, c, d, f, one, zero', none)

  pub opens_from : now.family ≡ was.family → now.before ≡ was.before → was_opened was ≡ false → was_opened now ≡ true → count_by was_opened children ≡ 0
      → Opens (front ++ was ∷ back) (front ++ now ∷ (children ++ back)) was now children
  opens_from family before e e' none = record {
    there = Contains-append_right front (was ∷ back) was (in_head was back);
    here = Contains-append_right front (now ∷ (children ++ back)) now (in_head now (children ++ back));
    each = each_from;
    kept = kept_from;
    count = counted e e' none;
    family = family;
    before = before;
    opened = e';
  }
