-- Lists as loops go over them.
use Rattle.std.specs.Prelude.{◌≡◌, ℕ, zero, suc, ◌+◌, ◌<◌, ◌≤◌, Bool, true, false, ◌&&◌, ◌||◌, cond, nat_lt, List, [], ◌∷◌, ◌++◌, length, filter, take, drop, sum_by, slice_index_or, refl}
use Rattle.std.specs.List.{list_all, list_any}
use Rattle.std.proofs.Common.{arith, ap, sym, ◌∙◌, subst, add-one}
use Rattle.std.proofs.lemmas.Bool.Decides.{nat_tests}
use Rattle.std.proofs.lemmas.List.{drop_all, take_more, take_all}
use Rattle.std.proofs.lemmas.List.Elements.{filter-append}
use Rattle.std.proofs.lemmas.List.Sums.{sum_by-append}
use Rattle.std.proofs.Math.Seq.{drop-cons}
use Rattle.npp_rows.specs.RowOrder.{are_rising}

-- an entry and those behind it
pub next_entry : {X : Type 0} (xs : List X) (i : ℕ) (x : X) → i < length xs → x ≡ slice_index_or xs i x → drop i xs ≡ x ∷ drop (i + 1) xs
next_entry xs i x lt is = drop-cons xs i x lt ∙ ap (λ y. y ∷ drop (suc i) xs) (sym is) ∙ ap (λ n. x ∷ drop n xs) (sym (add-one i))

module _ {X : Type 0} (t : X → Bool) (xs : List X) where
  -- whether all are such depends on those from number i on
  abbrev pub AllFrom : ℕ → Type 0
  AllFrom i = list_all t xs ≡ list_all t (drop i xs)

  pub all_step : (i : ℕ) (x : X) → i < length xs → x ≡ slice_index_or xs i x → t x ≡ true → AllFrom i → AllFrom (i + 1)
  all_step i x lt is holds so_far = so_far ∙ ap (list_all t) (next_entry xs i x lt is) ∙ ap (λ b. b && list_all t (drop (i + 1) xs)) holds

  pub all_stop : (i : ℕ) (x : X) → i < length xs → x ≡ slice_index_or xs i x → t x ≡ false → AllFrom i → list_all t xs ≡ false
  all_stop i x lt is fails so_far = so_far ∙ ap (list_all t) (next_entry xs i x lt is) ∙ ap (λ b. b && list_all t (drop (i + 1) xs)) fails

  pub all_end : (i : ℕ) → length xs ≤ i → AllFrom i → list_all t xs ≡ true
  all_end i le so_far = so_far ∙ ap (list_all t) (drop_all i xs le)

  -- and whether some is
  abbrev pub AnyFrom : ℕ → Type 0
  AnyFrom i = list_any t xs ≡ list_any t (drop i xs)

  pub any_step : (i : ℕ) (x : X) → i < length xs → x ≡ slice_index_or xs i x → t x ≡ false → AnyFrom i → AnyFrom (i + 1)
  any_step i x lt is fails so_far = so_far ∙ ap (list_any t) (next_entry xs i x lt is) ∙ ap (λ b. b || list_any t (drop (i + 1) xs)) fails

  pub any_stop : (i : ℕ) (x : X) → i < length xs → x ≡ slice_index_or xs i x → t x ≡ true → AnyFrom i → list_any t xs ≡ true
  any_stop i x lt is holds so_far = so_far ∙ ap (list_any t) (next_entry xs i x lt is) ∙ ap (λ b. b || list_any t (drop (i + 1) xs)) holds

  pub any_end : (i : ℕ) → length xs ≤ i → AnyFrom i → list_any t xs ≡ false
  any_end i le so_far = so_far ∙ ap (list_any t) (drop_all i xs le)

  -- those that are such among the first
  pub kept_step : (i : ℕ) (x : X) (b : Bool) (ys zs : List X) → i < length xs → x ≡ slice_index_or xs i x → t x ≡ b → zs ≡ ys ++ cond b (x ∷ []) [] → ys ≡ filter t (take i xs) → zs ≡ filter t (take (i + 1) xs)
  kept_step i x b ys zs lt is test put so_far =
      put ∙ ap (λ (us : List X). us ++ cond b (x ∷ []) []) so_far
      ∙ ap (λ c. filter t (take i xs) ++ cond c (x ∷ []) []) (sym test)
      ∙ sym (filter-append t (take i xs) (x ∷ []))
      ∙ ap (λ us. filter t us) (sym (take_more xs i x lt ∙ ap (λ y. take i xs ++ y ∷ []) (sym is)))

  pub kept_end : (i : ℕ) (ys : List X) → length xs ≤ i → ys ≡ filter t (take i xs) → ys ≡ filter t xs
  kept_end i ys le so_far = so_far ∙ ap (filter t) (take_all i xs le)

-- the sum over the first entries
pub sum_step : {X : Type 0} (f : X → ℕ) (xs : List X) (i count : ℕ) (x : X) → i < length xs → x ≡ slice_index_or xs i x → count ≡ sum_by f (take i xs) → count + f x ≡ sum_by f (take (i + 1) xs)
sum_step f xs i count x lt is so_far =
    let more = ap (sum_by f) (take_more xs i x lt ∙ ap (λ y. take i xs ++ y ∷ []) (sym is)) ∙ sum_by-append f (take i xs) (x ∷ []) in
    omega (arith, so_far, more)

-- ---- rising numbers

pub rising_not : (xs : List ℕ) (i : ℕ) → i + 1 < length xs → slice_index_or xs (i + 1) 0 ≤ slice_index_or xs i 0 → are_rising nat_lt xs ≡ false
rising_not [] i lt le = absurd (omega (arith, lt))
rising_not (x ∷ []) i lt le = absurd (omega (arith, lt))
rising_not (x ∷ y ∷ xs) zero lt le = let fails : nat_lt x y ≡ false = grind (arith, nat_tests) in ap (λ b. b && are_rising nat_lt (y ∷ xs)) fails
rising_not (x ∷ y ∷ xs) (suc i) lt le =
    let e : suc i + 1 ≡ suc (i + 1) = omega arith in
    let rest : are_rising nat_lt (y ∷ xs) ≡ false = rising_not (y ∷ xs) i (omega (arith, lt)) (subst (λ (n : ℕ). slice_index_or (x ∷ y ∷ xs) n 0 ≤ slice_index_or (y ∷ xs) i 0) e le) in
    ap (λ b. nat_lt x y && b) rest ∙ and_false (nat_lt x y)
  where
    and_false : (b : Bool) → (b && false) ≡ false
    and_false true = refl
    and_false false = refl

pub rising_is : (xs : List ℕ) → ((i : ℕ) → i + 1 < length xs → slice_index_or xs i 0 < slice_index_or xs (i + 1) 0) → are_rising nat_lt xs ≡ true
rising_is [] h = refl
rising_is (x ∷ []) h = refl
rising_is (x ∷ y ∷ xs) h =
    let first : x < y = h 0 (omega arith) in
    let test : nat_lt x y ≡ true = grind (arith, nat_tests) in
    let rest : are_rising nat_lt (y ∷ xs) ≡ true = rising_is (y ∷ xs) (λ i lt.
    let e : suc i + 1 ≡ suc (i + 1) = omega arith in
    subst (λ (n : ℕ). slice_index_or (y ∷ xs) i 0 < slice_index_or (x ∷ y ∷ xs) n 0) e (h (suc i) (omega (arith, lt)))) in
    ap (λ b. b && are_rising nat_lt (y ∷ xs)) test ∙ rest
