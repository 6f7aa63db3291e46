-- How many sets of k numbers there are below n: a list of sets that differ has at most `choose n k` of them.
use Rattle.std.proofs.Common.{◌≡◌, ◌≢◌, ℕ, zero, suc, ◌+◌, ◌<◌, ◌≤◌, List, [], ◌∷◌, length, get_or, Bool, true, false, cond, not, ◌||◌, nat_eq, arith, ap, ap₂, sym, ◌∙◌, refl, subst, inl, inr, eq-eqb, ne_eqb, eqb-true, eq-or-lt_of_le, Contains, All}
use Rattle.std.specs.List.{AllPairs, filter, list_any}
use Rattle.std.proofs.lemmas.Bool.{cases_Bool, not-true, false_from_ne_true}
use Rattle.std.proofs.lemmas.List.Elements.{All-filter, filter_passes, All-contains}
use Rattle.std.proofs.lemmas.List.Filters.{length-filter_both}
use Rattle.std.proofs.lemmas.List.Folds.{Any-from_list_any, list_any_at}
use Rattle.std.proofs.lemmas.List.Kept.{AllPairs-filter}
use Rattle.npp_simplex.specs.Bases.{AreAllDifferent, choose}

-- 1 where the test passes, and 0 elsewhere
abbrev pub one_if : Bool → ℕ
one_if b = cond b 1 0

-- how many numbers below n pass
abbrev pub count_to : ℕ → (ℕ → Bool) → ℕ
count_to zero f = 0
count_to (suc n) f = count_to n f + one_if (f n)

-- the tests agree below n
abbrev pub AgreeTo : ℕ → (ℕ → Bool) → (ℕ → Bool) → Type 0
AgreeTo n f g = (c : ℕ) → c < n → f c ≡ g c

count_same : (n : ℕ) (f g : ℕ → Bool) → AgreeTo n f g → count_to n f ≡ count_to n g
count_same zero f g h = refl
count_same (suc n) f g h = ap₂ (λ x b. x + one_if b) (count_same n f g (λ c l. h c (omega arith))) (h n (omega arith))

none_of_zero : (n : ℕ) (f : ℕ → Bool) → count_to n f ≡ 0 → AgreeTo n f (λ c. false)
none_of_zero zero f h c l = absurd (omega arith)
none_of_zero (suc n) f h c l = elim (cases_Bool (f n)) [
  | inl on ↦ (let one : one_if (f n) ≡ 1 = ap one_if on in absurd (omega arith))
  | inr off ↦ elim (eq-or-lt_of_le (let le : c ≤ n = omega arith in le)) [
    | inl same ↦ ap f same ∙ off
    | inr less ↦ none_of_zero n f (omega arith) c less
  ]
]

agree_more : (n : ℕ) (f g : ℕ → Bool) → f n ≡ g n → AgreeTo n f g → AgreeTo (suc n) f g
agree_more n f g e h c l = elim (eq-or-lt_of_le (let le : c ≤ n = omega arith in le)) [
  | inl same ↦ ap f same ∙ e ∙ sym (ap g same)
  | inr less ↦ h c less
]

-- ---- sets that differ, each given by its test

module _ {X : Type 0} (mark : X → ℕ → Bool) where
  -- the sets of no two elements agree below n
  abbrev pub Differ : ℕ → List X → Type 0
  Differ n xs = AllPairs (λ x y. AgreeTo n (mark x) (mark y) → ⊥) xs

  -- each element's set has k numbers below n
  abbrev pub HaveCount : ℕ → ℕ → List X → Type 0
  HaveCount n k xs = All (λ x. count_to n (mark x) ≡ k) xs

  one_empty : (n : ℕ) (xs : List X) → HaveCount n 0 xs → Differ n xs → length xs ≤ 1
  one_empty n [] h apart = omega arith
  one_empty n (x ∷ []) h apart = omega arith
  one_empty n (x ∷ y ∷ xs) h apart =
      let none_x = none_of_zero n (mark x) (h 0 x (omega arith)) in
      let none_y = none_of_zero n (mark y) (h 1 x (omega arith)) in
      absurd (apart 0 1 x (omega arith) (omega arith) (λ c l. none_x c l ∙ sym (none_y c l)))

  none_within : (k : ℕ) (xs : List X) → HaveCount 0 (suc k) xs → length xs ≤ 0
  none_within k [] h = omega arith
  none_within k (x ∷ xs) h = let impossible : 0 ≡ suc k = h 0 x (omega arith) in absurd (omega arith)

  differ_below : (n : ℕ) (b : Bool) (xs : List X) → All (λ x. mark x n ≡ b) xs → Differ (suc n) xs → Differ n xs
  differ_below n b xs h apart i j d l m same = apart i j d l m (agree_more n (mark (get_or xs i d)) (mark (get_or xs j d)) (h i d (omega arith) ∙ sym (h j d m)) same)

  count_without : (n k : ℕ) (xs : List X) → All (λ x. mark x n ≡ false) xs → HaveCount (suc n) k xs → HaveCount n k xs
  count_without n k xs h count i d l =
      let none : one_if (mark (get_or xs i d) n) ≡ 0 = ap one_if (h i d l) in
      let all = count i d l in omega arith

  count_with : (n k : ℕ) (xs : List X) → All (λ x. mark x n ≡ true) xs → HaveCount (suc n) (suc k) xs → HaveCount n k xs
  count_with n k xs h count i d l =
      let one : one_if (mark (get_or xs i d) n) ≡ 1 = ap one_if (h i d l) in
      let all = count i d l in omega arith

  pub few_sets : (n k : ℕ) (xs : List X) → HaveCount n k xs → Differ n xs → length xs ≤ choose n k
  few_sets n zero xs h apart = one_empty n xs h apart
  few_sets zero (suc k) xs h apart = none_within k xs h
  few_sets (suc n) (suc k) xs h apart =
      let P : X → Bool = λ x. mark x n in
      let Q : X → Bool = λ x. not (mark x n) in
      let have : All (λ x. mark x n ≡ true) (filter P xs) = filter_passes P xs in
      let lack : All (λ x. mark x n ≡ false) (filter Q xs) = λ i d l. not-true (mark (get_or (filter Q xs) i d) n) (filter_passes Q xs i d l) in
      let R : X → X → Type 0 = λ x y. AgreeTo (suc n) (mark x) (mark y) → ⊥ in
      let C : X → Type 0 = λ x. count_to (suc n) (mark x) ≡ suc k in
      let some = few_sets n k (filter P xs) (count_with n k (filter P xs) have (All-filter P C xs h)) (differ_below n true (filter P xs) have (AllPairs-filter R P xs apart)) in
      let others = few_sets n (suc k) (filter Q xs) (count_without n (suc k) (filter Q xs) lack (All-filter Q C xs h)) (differ_below n false (filter Q xs) lack (AllPairs-filter R Q xs apart)) in
      let all : length (filter P xs) + length (filter Q xs) ≡ length xs = length-filter_both P Q (λ x. refl) xs in
      omega arith

-- ---- the set of a list

-- whether a number stands in the list
abbrev pub stands_in : List ℕ → ℕ → Bool
stands_in b c = list_any (λ d. nat_eq d c) b

-- so many numbers, no two the same, and all below the bound
pub record AreSome (size bound : ℕ) (b : List ℕ) : Type 0 where
  pub many : length b ≡ size
  pub different : AllPairs ◌≢◌ b
  pub below : All (λ c. c < bound) b

count_one_more : (n x : ℕ) (f : ℕ → Bool) → x < n → f x ≡ false → count_to n (λ c. nat_eq x c || f c) ≡ suc (count_to n f)
count_one_more zero x f l off = absurd (omega arith)
count_one_more (suc n) x f l off = elim (eq-or-lt_of_le (let le : x ≤ n = omega arith in le)) [
  | inl same ↦ (
      let here : (nat_eq x n || f n) ≡ true = ap (λ b. b || f n) (eq-eqb x n same) in
      let one : one_if (nat_eq x n || f n) ≡ 1 = ap one_if here in
      let none : one_if (f n) ≡ 0 = ap one_if (ap f (sym same) ∙ off) in
      let below : count_to n (λ c. nat_eq x c || f c) ≡ count_to n f = count_same n (λ c. nat_eq x c || f c) f (λ c k. ap (λ b. b || f c) (ne_eqb x c (λ e. omega arith))) in
      omega arith)
  | inr less ↦ (
      let same : one_if (nat_eq x n || f n) ≡ one_if (f n) = ap (λ b. one_if (b || f n)) (ne_eqb x n (λ e. omega arith)) in
      let below = count_one_more n x f less off in
      omega arith)
]

stands_of : (b : List ℕ) (c : ℕ) → Contains b c → stands_in b c ≡ true
stands_of b c (k, l, e) = list_any_at (λ d. nat_eq d c) b k c l (eq-eqb (get_or b k c) c e)

of_stands : (b : List ℕ) (c : ℕ) → stands_in b c ≡ true → Contains b c
of_stands b c h =
    let (k, x, l, e, same) = Any-from_list_any (λ d. nat_eq d c) b h in
    let here : x ≡ c = eqb-true x c same in
    (k, l, subst (λ z. get_or b k z ≡ z) here e)

count_none : (n : ℕ) → count_to n (λ c. false) ≡ 0
count_none zero = refl
count_none (suc n) = let h = count_none n in omega arith

count_list : (n : ℕ) (b : List ℕ) → AllPairs ◌≢◌ b → All (λ c. c < n) b → count_to n (stands_in b) ≡ length b
count_list n [] different below = count_none n
count_list n (x ∷ b) different below =
    let absent : stands_in b x ≡ false = false_from_ne_true (stands_in b x) (λ h. let (k, l, e) = of_stands b x h in different 0 (suc k) x (omega arith) (omega arith) (sym e)) in
    count_one_more n x (stands_in b) (below 0 x (omega arith)) absent
    ∙ ap suc (count_list n b (λ i j d l m. different (suc i) (suc j) d (omega arith) (omega arith)) (λ i d l. below (suc i) d (omega arith)))

pub few_bases : (size count : ℕ) (bs : List (List ℕ)) → All (AreSome size count) bs → AreAllDifferent bs → length bs ≤ choose count size
few_bases size count bs each different =
    few_sets stands_in count size bs
    (λ i d l. let b = each i d l in count_list count (get_or bs i d) b.different b.below ∙ b.many)
    (λ i j d l m same. different i j d l m (λ c.
    let x = each i d (omega arith) in
    let y = each j d m in (
      λ h. of_stands (get_or bs j d) c (sym (same c (All-contains (λ c. c < count) (get_or bs i d) c x.below h)) ∙ stands_of (get_or bs i d) c h),
      λ h. of_stands (get_or bs i d) c (same c (All-contains (λ c. c < count) (get_or bs j d) c y.below h) ∙ stands_of (get_or bs j d) c h),
    )))
