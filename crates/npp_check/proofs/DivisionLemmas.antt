-- Looking up a number in a rising list, and what a division leaves.
use Rattle.std.specs.Prelude.{◌≡◌, ℕ, zero, suc, ◌-◌, ◌<◌, ◌≤◌, Bool, true, false, ◌&&◌, nat_eq, nat_lt, List, [], ◌∷◌, length, Contains, Result, Ok, Err, is_ok, refl}
use Rattle.std.specs.List.{AllPairs, list_all}
use Rattle.std.specs.Result.{result_ok}
use Rattle.std.proofs.Common.{arith, ap, sym, ◌∙◌, inl, inr, eqb-true, eq-eqb, get_or}
use Rattle.std.proofs.lemmas.Grind.{get_or_default_zero}
use Rattle.std.proofs.lemmas.Bool.{cases_Bool, cases_lt, or_left, or_right}
use Rattle.std.proofs.lemmas.Bool.Decides.{nat_tests}
use Rattle.std.proofs.lemmas.Map.Views.{Contains-from_any}
use Rattle.npp_rows.specs.Parts.{part_at}
use Rattle.npp_rows.specs.RowOrder.{are_rising}
use Rattle.npp_rows.proofs.ListLaws.{IsPlaceOf}
use Rattle.npp_tree.specs.Family.{Family, Division, divides, is_among, rest_of}

among_there : (list : List ℕ) (x : ℕ) → Contains list x → is_among list x ≡ true
among_there [] x at = absurd (omega (arith, at.1))
among_there (y ∷ list) x (zero, lt, is) = or_left (nat_eq x y) (is_among list x) (eq-eqb x y (sym is))
among_there (y ∷ list) x (suc i, lt, is) = or_right (nat_eq x y) (is_among list x) (among_there list x (i, omega (arith, lt), is))

among_not : (list : List ℕ) (x : ℕ) → (Contains list x → ⊥) → is_among list x ≡ false
among_not list x none = elim (cases_Bool (is_among list x)) [
  | inl holds ↦ absurd (none (Contains-from_any {eq = nat_eq} (λ a b. eqb-true a b) x list holds))
  | inr fails ↦ fails
]

-- whether a search finds the number
pub found_is : (list : List ℕ) (x : ℕ) (r : Result ℕ ℕ) → IsPlaceOf list x (result_ok r) → is_ok r ≡ is_among list x
found_is list x (Ok i) at = sym (among_there list x (i, at.0, at.1))
found_is list x (Err i) none = sym (among_not list x none)

-- a number at a place is in the list
pub at_place : (list : List ℕ) (i x : ℕ) → i < length list → get_or list i 0 ≡ x → is_among list x ≡ true
at_place list i x lt is = among_there list x (i, lt, get_or_default_zero list i x lt ∙ is)

-- a number between two neighbours of a rising list is not in it
pub between_places : (list : List ℕ) (i x : ℕ) → AllPairs (λ p q. p < q) list → i ≤ length list
    → (0 < i → get_or list (i - 1) 0 < x) → (i < length list → x < get_or list i 0) → is_among list x ≡ false
between_places list i x rising le below above = among_not list x (λ (k, l, e).
    let at : get_or list k 0 ≡ x = sym (get_or_default_zero list k x l) ∙ e in
    elim (cases_lt k i) [
      | inl before ↦ elim (cases_lt k (i - 1)) [
        | inl less ↦ omega (arith, rising k (i - 1) 0 less (omega arith), below (omega arith), at)
        | inr same ↦ let one : k ≡ i - 1 = omega arith in omega (arith, ap (λ j. get_or list j 0) one, below (omega arith), at)
      ]
      | inr behind ↦ elim (cases_lt i k) [
        | inl more ↦ omega (arith, rising i k 0 more l, above (omega arith), at)
        | inr same ↦ let one : k ≡ i = omega arith in omega (arith, ap (λ j. get_or list j 0) one, above (omega arith), at)
      ]
    ])

-- ---- the tests of a division

module _ (family : Family) (k : ℕ) (part : List ℕ) where
  abbrev d : Division
  d = record { commodity = k; part = part }

  abbrev whole : List ℕ
  whole = part_at family k

  five : (a b c e f : Bool) → (a ≡ false) → ((((a && b) && c) && e) && f) ≡ false
  five a b c e f fails = ap (λ t. (((t && b) && c) && e) && f) fails

  pub out_of_range : length family ≤ k → divides family d ≡ false
  out_of_range le =
      let fails : nat_lt k (length family) ≡ false = grind (arith, nat_tests) in
      five (nat_lt k (length family)) (are_rising nat_lt part) (list_all (is_among whole) part) (nat_lt 0 (length part)) (nat_lt 0 (length (rest_of part whole))) fails

  second : (a b c e f : Bool) → (b ≡ false) → ((((a && b) && c) && e) && f) ≡ false
  second true b c e f fails = ap (λ t. ((t && c) && e) && f) fails
  second false b c e f fails = refl

  pub not_rising : are_rising nat_lt part ≡ false → divides family d ≡ false
  not_rising fails = second (nat_lt k (length family)) (are_rising nat_lt part) (list_all (is_among whole) part) (nat_lt 0 (length part)) (nat_lt 0 (length (rest_of part whole))) fails

  third : (a b c e f : Bool) → (c ≡ false) → ((((a && b) && c) && e) && f) ≡ false
  third true true c e f fails = ap (λ t. (t && e) && f) fails
  third true false c e f fails = refl
  third false b c e f fails = refl

  pub not_within : list_all (is_among whole) part ≡ false → divides family d ≡ false
  not_within fails = third (nat_lt k (length family)) (are_rising nat_lt part) (list_all (is_among whole) part) (nat_lt 0 (length part)) (nat_lt 0 (length (rest_of part whole))) fails

  fourth : (a b c e f : Bool) → (e ≡ false) → ((((a && b) && c) && e) && f) ≡ false
  fourth true true true e f fails = ap (λ t. t && f) fails
  fourth true true false e f fails = refl
  fourth true false c e f fails = refl
  fourth false b c e f fails = refl

  pub nothing_taken : length part ≡ 0 → divides family d ≡ false
  nothing_taken none =
      let fails : nat_lt 0 (length part) ≡ false = grind (arith, nat_tests) in
      fourth (nat_lt k (length family)) (are_rising nat_lt part) (list_all (is_among whole) part) (nat_lt 0 (length part)) (nat_lt 0 (length (rest_of part whole))) fails

  fifth : (a b c e f : Bool) → (f ≡ false) → ((((a && b) && c) && e) && f) ≡ false
  fifth true true true true f fails = fails
  fifth true true true false f fails = refl
  fifth true true false e f fails = refl
  fifth true false c e f fails = refl
  fifth false b c e f fails = refl

  pub nothing_left : length (rest_of part whole) ≡ 0 → divides family d ≡ false
  nothing_left none =
      let fails : nat_lt 0 (length (rest_of part whole)) ≡ false = grind (arith, nat_tests) in
      fifth (nat_lt k (length family)) (are_rising nat_lt part) (list_all (is_among whole) part) (nat_lt 0 (length part)) (nat_lt 0 (length (rest_of part whole))) fails

  all_five : (a b c e f : Bool) → a ≡ true → b ≡ true → c ≡ true → e ≡ true → f ≡ true → ((((a && b) && c) && e) && f) ≡ true
  all_five a b c e f p q r s t = λ i. (((p i && q i) && r i) && s i) && t i

  pub does_divide : k < length family → are_rising nat_lt part ≡ true → list_all (is_among whole) part ≡ true → 0 < length part → 0 < length (rest_of part whole) → divides family d ≡ true
  does_divide lt rising within some rest =
      let a : nat_lt k (length family) ≡ true = grind (arith, nat_tests) in
      let e : nat_lt 0 (length part) ≡ true = grind (arith, nat_tests) in
      let f : nat_lt 0 (length (rest_of part whole)) ≡ true = grind (arith, nat_tests) in
      all_five (nat_lt k (length family)) (are_rising nat_lt part) (list_all (is_among whole) part) (nat_lt 0 (length part)) (nat_lt 0 (length (rest_of part whole))) a rising within e f
