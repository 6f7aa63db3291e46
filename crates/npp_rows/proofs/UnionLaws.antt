-- Two sets of tolls taken together, toll by toll, and the tolls of a set in a row.
use Rattle.std.proofs.Common.{◌≡◌, ◌==◌, ◌+◌, ◌-◌, ◌<◌, ◌≤◌, ℕ, zero, suc, Bool, true, false, cond, ltb, List, [], ◌∷◌, ◌++◌, filter, All, refl, sym, ap, ap₂, subst, ◌∙◌, inl, inr, eq-eqb, eqb-true, arith}
use Rattle.std.specs.Prelude.{◌||◌, ◌&&◌, ◌≢◌, ◌⊎◌}
use Rattle.std.specs.Int.{bit_at}
use Rattle.std.specs.List.{list_any, range_with_len}
use Rattle.std.proofs.lemmas.Bool.{cases_eq, false_from_ne_true, lt-ltb, le-ltb}
use Rattle.std.proofs.lemmas.List.{append-nil}
use Rattle.std.proofs.lemmas.List.Elements.{All-filter, All-head, All-tail, filter-append}
use Rattle.std.proofs.lemmas.List.Folds.{list_any_at}
use Rattle.std.proofs.lemmas.List.FromFn.{get_or-range_with_len, length-range_with_len}
use Rattle.std.proofs.lemmas.Map.Views.{any-filter_same}
use Rattle.npp_net.specs.TollSets.{Has, IsWithin, tolls_of}
use Rattle.npp_rows.proofs.ListLaws.{filter_range_push}
use Rattle.npp_rows.proofs.RelaxationLaws.{all_range}

-- a toll of the one set or of the other
abbrev pub is_in_one : ℕ → ℕ → ℕ → Bool
is_in_one s t a = (bit_at s a == 1) || (bit_at t a == 1)

-- all that is in the union is there already, or still to come
pub record IsUnion (set other all : ℕ) (left : List ℕ) : Type 0 where
  pub within : All (λ a. a < 128) left
  pub tolls : (a : ℕ) → a < 128 → ((bit_at all a == 1) || list_any (λ x. x == a) left) ≡ is_in_one set other a

and_true : (b : Bool) → (b && true) ≡ b
and_true true = refl
and_true false = refl

or_true : (b : Bool) → (b || true) ≡ true
or_true true = refl
or_true false = refl

or_false : (b : Bool) → (b || false) ≡ b
or_false true = refl
or_false false = refl

-- a toll is in the list of a set where it is in the set
pub listed_test : (s a : ℕ) → a < 128 → list_any (λ x. x == a) (tolls_of s) ≡ (bit_at s a == 1)
unfolding tolls_of
listed_test s a h =
    let there : list_any (λ x. x == a) (range_with_len 0 128) ≡ true =
    list_any_at (λ x. x == a) (range_with_len 0 128) a 0 (omega (arith, h, length-range_with_len 0 128)) (eq-eqb _ a (get_or-range_with_len 0 128 a 0 h ∙ omega arith)) in
    any-filter_same (λ x. x == a) (λ x. bit_at s x == 1) (bit_at s a == 1) (λ k e. ap (λ n. bit_at s n == 1) (eqb-true k a e)) (range_with_len 0 128)
    ∙ ap (λ b. (bit_at s a == 1) && b) there ∙ and_true (bit_at s a == 1)

listed_below : (s : ℕ) → All (λ a. a < 128) (tolls_of s)
unfolding tolls_of
listed_below s = All-filter (λ a. bit_at s a == 1) (λ a. a < 128) (range_with_len 0 128) (all_range (λ a. a < 128) 128 (λ a h. h))

pub union_begins : (set other : ℕ) (left : List ℕ) → left ≡ tolls_of other → IsUnion set other set left
union_begins set other left e = rw e (record {
  within = listed_below other;
  tolls = λ a h. ap (λ b. (bit_at set a == 1) || b) (listed_test other a h);
})

module _ (set other all : ℕ) (left : List ℕ) (h : IsUnion set other all left) where
  module _ (x : ℕ) (rest : List ℕ) (e : left ≡ x ∷ rest) where
    here : IsUnion set other all (x ∷ rest)
    here = subst (λ (l : List ℕ). IsUnion set other all l) e h

    pub union_below : x < 128
    union_below = All-head (λ a. a < 128) x rest here.within

    pub union_next : (more : ℕ) → Has more x → ((a : ℕ) → a ≢ x → bit_at more a ≡ bit_at all a) → IsUnion set other more rest
    union_next more has others = record {
      within = All-tail (λ a. a < 128) x rest here.within;
      tolls = λ a below. elim (cases_eq a x) [
        | inl same ↦
            let new : (bit_at more a == 1) ≡ true = eq-eqb (bit_at more a) 1 (ap (bit_at more) same ∙ has) in
            let old : (x == a) ≡ true = eq-eqb x a (sym same) in
            ap (λ b. b || list_any (λ y. y == a) rest) new
            ∙ sym (ap (λ b. (bit_at all a == 1) || (b || list_any (λ y. y == a) rest)) old ∙ or_true (bit_at all a == 1))
            ∙ here.tolls a below
        | inr ne ↦
            let old : (x == a) ≡ false = false_from_ne_true (x == a) (λ t. ne (sym (eqb-true x a t))) in
            ap (λ n. (n == 1) || list_any (λ y. y == a) rest) (others a ne)
            ∙ sym (ap (λ b. (bit_at all a == 1) || (b || list_any (λ y. y == a) rest)) old)
            ∙ here.tolls a below
      ];
    }

  pub union_ends : left ≡ [] → (a : ℕ) → a < 128 → (bit_at all a == 1) ≡ is_in_one set other a
  union_ends e a below =
      let ended : IsUnion set other all [] = subst (λ (l : List ℕ). IsUnion set other all l) e h in
      sym (or_false (bit_at all a == 1)) ∙ ended.tolls a below

-- a set that is in the other adds nothing
pub union_within : (set other : ℕ) → IsWithin other set → (a : ℕ) → (bit_at set a == 1) ≡ is_in_one set other a
union_within set other within a = by (cases_eq (bit_at other a) 1)
  where
    by : (bit_at other a ≡ 1) ⊎ (bit_at other a ≡ 1 → ⊥) → (bit_at set a == 1) ≡ is_in_one set other a
    by (inl has) =
        let there : (bit_at set a == 1) ≡ true = eq-eqb (bit_at set a) 1 (within a has) in
        there ∙ sym (ap (λ b. b || (bit_at other a == 1)) there)
    by (inr none) =
        let out : (bit_at other a == 1) ≡ false = false_from_ne_true (bit_at other a == 1) (λ t. none (eqb-true (bit_at other a) 1 t)) in
        sym (ap (λ b. (bit_at set a == 1) || b) out ∙ or_false (bit_at set a == 1))

-- ---- the tolls of a set below a number

module _ (n : ℕ) (f g : ℕ → Bool) where
  one_below : (k : ℕ) → k < n → (b : Bool) → filter (λ a. ltb a n) (cond b (k ∷ []) []) ≡ cond b (k ∷ []) []
  one_below k l true = let yes : ltb k n ≡ true = lt-ltb k n l in rw yes refl
  one_below k l false = refl

  none_above : (k : ℕ) → n ≤ k → (b : Bool) → filter (λ a. ltb a n) (cond b (k ∷ []) []) ≡ []
  none_above k l true = let no : ltb k n ≡ false = le-ltb k n l in rw no refl
  none_above k l false = refl

  split_last : (k : ℕ) → filter (λ a. ltb a n) (filter f (range_with_len 0 (k + 1))) ≡ filter (λ a. ltb a n) (filter f (range_with_len 0 k)) ++ filter (λ a. ltb a n) (cond (f k) (k ∷ []) [])
  split_last k = ap (filter (λ a. ltb a n)) (filter_range_push f k) ∙ filter-append (λ a. ltb a n) (filter f (range_with_len 0 k)) (cond (f k) (k ∷ []) [])

  -- the numbers of a test that are below n, where it agrees with another there
  filter_below : ((a : ℕ) → a < n → f a ≡ g a) → (k : ℕ) → k ≤ n → filter (λ a. ltb a n) (filter f (range_with_len 0 k)) ≡ filter g (range_with_len 0 k)
  filter_below same zero l = refl
  filter_below same (suc k) l =
      let next : k + 1 ≡ suc k = omega arith in
      subst (λ (m : ℕ). filter (λ a. ltb a n) (filter f (range_with_len 0 m)) ≡ filter g (range_with_len 0 m)) next
      (split_last k ∙ ap₂ ◌++◌ (filter_below same k (omega arith)) (one_below k l (f k) ∙ ap (λ b. cond b (k ∷ []) []) (same k l)) ∙ sym (filter_range_push g k))

  filter_beyond : (k : ℕ) → filter (λ a. ltb a n) (filter f (range_with_len 0 (n + k))) ≡ filter (λ a. ltb a n) (filter f (range_with_len 0 n))
  filter_beyond zero = ap (λ m. filter (λ a. ltb a n) (filter f (range_with_len 0 m))) (omega arith)
  filter_beyond (suc k) =
      let next : n + suc k ≡ n + k + 1 = omega arith in
      rw next (split_last (n + k) ∙ ap₂ ◌++◌ (filter_beyond k) (none_above (n + k) (omega arith) (f (n + k))) ∙ append-nil (filter (λ a. ltb a n) (filter f (range_with_len 0 n))))

-- the tolls of a set that are below n
pub tolls_below : (s n : ℕ) (g : ℕ → Bool) → n ≤ 128 → ((a : ℕ) → a < 128 → (bit_at s a == 1) ≡ g a) → filter (λ a. ltb a n) (tolls_of s) ≡ filter g (range_with_len 0 n)
unfolding tolls_of
tolls_below s n g l same =
    let f : ℕ → Bool = λ a. bit_at s a == 1 in
    let all : 128 ≡ n + (128 - n) = omega arith in
    ap (λ m. filter (λ a. ltb a n) (filter f (range_with_len 0 m))) all ∙ filter_beyond n f g (128 - n) ∙ filter_below n f g (λ a h. same a (omega arith)) n (omega arith)
