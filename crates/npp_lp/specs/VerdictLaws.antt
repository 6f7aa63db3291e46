-- The laws of first faults.
use Rattle.std.specs.Prelude.{◌≡◌, ℕ, zero, suc, ◌+◌, ◌<◌, Bool, true, false, cond, List, length, Option, Some, None, is_some, Result, Ok, Err, IsOk, refl, option_map}
use Rattle.std.specs.List.{list_any}
use Rattle.std.proofs.Common.{arith, ap, ap₂, get_or, subst, add-one, inl, inr, eq-or-lt_of_le, le_of_suc-le-suc}
use Rattle.std.proofs.lemmas.List.{get_or_default}
use Rattle.std.proofs.lemmas.List.Folds.{list_any_at, list_any_none}
use Rattle.npp_frac.specs.Rational.{Rational, zero_ℚ, is_less, ◌≤ℚ◌}
use Rattle.npp_frac.specs.Order.{is_less_no, is_less_of_≤ℚ}
use Rattle.npp_lp.specs.Programs.{at, AreNotNegative}
use Rattle.npp_lp.specs.Verdict.{or_else, first_below, first_negative, unless, sum_fault}

module _ {F : Type 0} (f : ℕ → Option F) where
  -- one more judgement without a fault
  pub first_below_more : (i : ℕ) → first_below i f ≡ None → f i ≡ None → first_below (i + 1) f ≡ None
  first_below_more i before here = rw (add-one, before, here) refl

  -- a fault stays the first, whatever is judged after it
  pub first_below_found : (n i : ℕ) (x : F) → i < n → first_below i f ≡ None → f i ≡ Some x → first_below n f ≡ Some x
  first_below_found zero i x h before here = absurd (omega arith)
  first_below_found (suc n) i x h before here = elim (eq-or-lt_of_le (le_of_suc-le-suc h)) [
    | inl e ↦ rw (← e, before, here) refl
    | inr l ↦ rw (first_below_found n i x l before here) refl
  ]

  none_left : (a b : Option F) → or_else a b ≡ None → (a ≡ None) × (b ≡ None)
  none_left None b e = (refl, e)
  none_left (Some x) b e = cc

  -- where there is no fault, no judgement has one
  pub first_below_none : (n i : ℕ) → first_below n f ≡ None → i < n → f i ≡ None
  first_below_none zero i e h = absurd (omega arith)
  first_below_none (suc n) i e h =
      let parts : (first_below n f ≡ None) × (f n ≡ None) = none_left (first_below n f) (f n) e in
      elim (eq-or-lt_of_le (le_of_suc-le-suc h)) [
        | inl same ↦ rw same parts.1
        | inr l ↦ first_below_none n i parts.0 l
      ]

  -- and the other way round
  pub first_below_clear : (n : ℕ) → ((i : ℕ) → i < n → f i ≡ None) → first_below n f ≡ None
  first_below_clear zero h = refl
  first_below_clear (suc n) h = rw (first_below_clear n (λ i l. h i (omega arith)), h n (omega arith)) refl

-- judgements that agree have one first fault
pub first_below_same : {F : Type 0} → (n : ℕ) (f g : ℕ → Option F) → ((i : ℕ) → i < n → f i ≡ g i) → first_below n f ≡ first_below n g
first_below_same zero f g h = refl
first_below_same (suc n) f g h = ap₂ or_else (first_below_same n f g (λ i l. h i (omega arith))) (h n (omega arith))

pub unless_ok : {T F : Type 0} → (o : Option F) (x y : T) → unless o (Ok x) ≡ Ok y → (o ≡ None) × (x ≡ y)
unless_ok None x y e = (refl, cc)
unless_ok (Some f) x y e = cc

pub unless_err : {T F : Type 0} → (o : Option F) (x : T) (f : F) → unless o (Ok x) ≡ Err f → o ≡ Some f
unless_err None x f e = cc
unless_err (Some g) x f e = cc

-- what a chain of judgements allows, each of them allows
pub unless_parts : {T F : Type 0} → (o : Option F) (r : Result T F) (v : T) → unless o r ≡ Ok v → (o ≡ None) × (r ≡ Ok v)
unless_parts None r v e = (refl, e)
unless_parts (Some f) r v e = cc

pub option_map_none : {A B : Type 0} → (f : A → B) (o : Option A) → option_map f o ≡ None → o ≡ None
option_map_none f None e = refl
option_map_none f (Some x) e = cc

pub cond_none : {F : Type 0} → (b : Bool) (f : F) → cond b (Some f) None ≡ None → b ≡ false
cond_none true f e = cc
cond_none false f e = refl

-- a sum without a fault was formed, and nothing is wrong with it
pub sum_fault_none : {T O F : Type 0} → (overflow : O → F) (judge : T → Option F) (r : Result T O) → sum_fault overflow judge r ≡ None → (s : T) × (r ≡ Ok s) × (judge s ≡ None)
sum_fault_none overflow judge (Ok s) e = (s, refl, e)
sum_fault_none overflow judge (Err o) e = cc

negative_at : (xs : List Rational) → ℕ → Option ℕ
negative_at xs i = cond (is_less (at xs i) zero_ℚ) (Some i) None

pub not_negative_of_first : (xs : List Rational) → first_negative xs ≡ None → AreNotNegative xs
unfolding negative_at
not_negative_of_first xs e i d h =
    let here : cond (is_less (at xs i) zero_ℚ) (Some i) None ≡ None = first_below_none (negative_at xs) (length xs) i e h in
    let P : Rational → Type 0 = λ q. zero_ℚ ≤ℚ q in
    subst P (get_or_default xs i zero_ℚ d h) (is_less_no (at xs i) zero_ℚ (cond_none (is_less (at xs i) zero_ℚ) i here))

pub first_of_not_negative : (xs : List Rational) → AreNotNegative xs → first_negative xs ≡ None
unfolding negative_at
first_of_not_negative xs h =
    first_below_clear (negative_at xs) (length xs) (λ i l. let no : is_less (at xs i) zero_ℚ ≡ false = is_less_of_≤ℚ (at xs i) zero_ℚ (h i zero_ℚ l) in rw no refl)

not_true : (b : Bool) → (b ≡ true → ⊥) → b ≡ false
not_true true h = absurd (h refl)
not_true false h = refl

some_of_not : {X : Type 0} → (o : Option X) → (o ≡ None → ⊥) → is_some o ≡ true
some_of_not None h = absurd (h refl)
some_of_not (Some x) h = refl

none_of_any : {X : Type 0} → (p : X → Bool) (xs : List X) → list_any p xs ≡ false → (i : ℕ) (d : X) → i < length xs → p (get_or xs i d) ≡ false
none_of_any p xs none i d l = not_true (p (get_or xs i d)) (λ found. (let some : list_any p xs ≡ true = list_any_at p xs i d l found in cc))

any_negative : (xs : List Rational) (b : Bool) → list_any (λ q. is_less q zero_ℚ) xs ≡ b → is_some (first_negative xs) ≡ b
unfolding negative_at
any_negative xs false e = ap is_some (first_below_clear (negative_at xs) (length xs) (λ i l. rw (none_of_any (λ q. is_less q zero_ℚ) xs e i zero_ℚ l) refl))
any_negative xs true e = some_of_not (first_negative xs) (λ none. (let no = list_any_none (λ q. is_less q zero_ℚ) xs (λ i d l. is_less_of_≤ℚ (get_or xs i d) zero_ℚ (not_negative_of_first xs none i d l)) in cc))

-- whether there is a number below 0
pub some_negative : (xs : List Rational) → is_some (first_negative xs) ≡ list_any (λ q. is_less q zero_ℚ) xs
some_negative xs = any_negative xs (list_any (λ q. is_less q zero_ℚ) xs) refl

pub unless_none : {T F : Type 0} → (o : Option F) (r : Result T F) → o ≡ None → unless o r ≡ r
unless_none o r e = rw e refl

pub unless_fits : {T F : Type 0} → (o : Option F) (x : T) → IsOk (unless o (Ok x)) → unless o (Ok x) ≡ Ok x
unless_fits None x e = refl
unless_fits (Some f) x e = cc
