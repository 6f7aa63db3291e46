-- The list of a set's tolls: how the lowest toll leaves it, and what holds along it.
use Rattle.std.proofs.Common.{◌≡◌, ◌≢◌, ◌⊎◌, inl, inr, ℕ, zero, suc, ◌+◌, ◌*◌, ◌%◌, ◌^◌, ◌<◌, ◌≤◌, Bool, true, false, cond, List, [], ◌∷◌, filter, eqb, bit_and, refl, sym, ◌∙◌, ap, subst, arith, All}
use Rattle.std.proofs.lemmas.Bool.{cases_eq, cases_lt}
use Rattle.std.proofs.lemmas.Bool.Decides.{nat_tests}
use Rattle.std.proofs.lemmas.List.Elements.{All-nil, All-cons, All-head, All-tail}
use Rattle.std.proofs.lemmas.Nat.Bits.{bit_at-zero, bit_at-trailing_zeros, bit_at_clear_same, bit_at_clear_other, bit_at-lt, bit_at_above}
use Rattle.std.specs.Int.{bit_at, bit_not, trailing_zeros, w128}
use Rattle.std.specs.List.{range_with_len}
use Rattle.npp_net.specs.TollSets.{Has, tolls_of}

-- the tolls of a set among n numbers from a on
tolls_from : ℕ → ℕ → ℕ → List ℕ
tolls_from s a n = filter (λ i. eqb (bit_at s i) 1) (range_with_len a n)

tested : (t : Bool) (a : ℕ) (rest : List ℕ) → t ≡ false → cond t (a ∷ rest) rest ≡ rest
tested t a rest is = rw is refl

taken : (t : Bool) (a : ℕ) (rest : List ℕ) → t ≡ true → cond t (a ∷ rest) rest ≡ a ∷ rest
taken t a rest is = rw is refl

is_out : (b : ℕ) → b ≡ 0 → eqb b 1 ≡ false
is_out b e = grind (arith, nat_tests)

is_in : (b : ℕ) → b ≡ 1 → eqb b 1 ≡ true
is_in b e = grind (arith, nat_tests)

none_from : (s a : ℕ) → tolls_from s a zero ≡ []
unfolding tolls_from
none_from s a = refl

-- a toll that is not in the set is passed over
passed : (s a n : ℕ) → bit_at s a ≡ 0 → tolls_from s a (suc n) ≡ tolls_from s (a + 1) n
unfolding tolls_from
passed s a n out = tested (eqb (bit_at s a) 1) a (tolls_from s (a + 1) n) (is_out (bit_at s a) out)

-- a toll that is in the set is listed
listed : (s a n : ℕ) → bit_at s a ≡ 1 → tolls_from s a (suc n) ≡ a ∷ tolls_from s (a + 1) n
unfolding tolls_from
listed s a n here = taken (eqb (bit_at s a) 1) a (tolls_from s (a + 1) n) (is_in (bit_at s a) here)

-- sets that are the same from a on have the same tolls there
same_from : (s t a n : ℕ) → ((i : ℕ) → a ≤ i → i < a + n → bit_at s i ≡ bit_at t i) → tolls_from s a n ≡ tolls_from t a n
unfolding tolls_from
same_from s t a zero same = refl
same_from s t a (suc n) same =
    let rest : tolls_from s (a + 1) n ≡ tolls_from t (a + 1) n = same_from s t (a + 1) n (λ i low high. same i (omega arith) (omega arith)) in
    let here : bit_at s a ≡ bit_at t a = same a (omega arith) (omega arith) in
    ap (λ (b : ℕ). cond (eqb b 1) (a ∷ tolls_from s (a + 1) n) (tolls_from s (a + 1) n)) here
    ∙ ap (λ (xs : List ℕ). cond (eqb (bit_at t a) 1) (a ∷ xs) xs) rest

-- t is s without its lowest toll m
lowest_first : (s t m a n : ℕ) → a ≤ m → m < a + n → bit_at s m ≡ 1 → ((i : ℕ) → i < m → bit_at s i ≡ 0) → bit_at t m ≡ 0
    → ((i : ℕ) → i < a + n → i ≢ m → bit_at t i ≡ bit_at s i) → tolls_from s a n ≡ m ∷ tolls_from t a n
lowest_first s t m a zero low high here below gone others = absurd (omega arith)
lowest_first s t m a (suc n) low high here below gone others = elim (cases_eq a m) [
  | inl e ↦
      let rest : tolls_from s (a + 1) n ≡ tolls_from t (a + 1) n = same_from s t (a + 1) n (λ i from to. sym (others i (omega arith) (λ is. absurd (omega arith)))) in
      rw (listed s a n (rw e here), passed t a n (rw e gone), rest, e) refl
  | inr ne ↦
      let out : bit_at s a ≡ 0 = below a (omega arith) in
      rw (passed s a n out, passed t a n (others a (omega arith) ne ∙ out))
      (lowest_first s t m (a + 1) n (omega arith) (omega arith) here below gone (λ i to ni. others i (omega arith) ni))
]

-- the lowest toll stands first, and the others are those of the set without it
pub tolls_of_lowest : (s : ℕ) → 0 < s → s < 2 ^ 128
    → tolls_of s ≡ trailing_zeros w128 s ∷ tolls_of (bit_and s (bit_not w128 (1 * 2 ^ trailing_zeros w128 s % 2 ^ 128)))
unfolding tolls_of tolls_from
tolls_of_lowest s some fits =
    let lowest = bit_at-trailing_zeros w128 s some fits in
    lowest_first s (bit_and s (bit_not w128 (1 * 2 ^ trailing_zeros w128 s % 2 ^ 128))) (trailing_zeros w128 s) 0 128 (omega arith) (omega (arith, lowest.0))
    lowest.1 lowest.2 (bit_at_clear_same w128 s (trailing_zeros w128 s) lowest.0)
    (λ i to other. bit_at_clear_other w128 s (trailing_zeros w128 s) lowest.0 i (omega arith) other)

none_at_zero : (a n : ℕ) → tolls_from 0 a n ≡ []
unfolding tolls_from
none_at_zero a zero = refl
none_at_zero a (suc n) = passed 0 a n (bit_at-zero a) ∙ none_at_zero (a + 1) n

-- the set of no toll
pub tolls_of_none : tolls_of 0 ≡ []
unfolding tolls_of tolls_from
tolls_of_none = none_at_zero 0 128

all_from : (P : ℕ → Type 0) (s a n : ℕ) → ((i : ℕ) → Has s i → P i) → All P (tolls_from s a n)
all_from P s a zero each = subst (λ (xs : List ℕ). All P xs) (sym (none_from s a)) (All-nil P)
all_from P s a (suc n) each = elim (cases_eq (bit_at s a) 1) [
  | inl here ↦ subst (λ (xs : List ℕ). All P xs) (sym (listed s a n here)) (All-cons P a (tolls_from s (a + 1) n) (each a here) (all_from P s (a + 1) n each))
  | inr out ↦
      let low : bit_at s a ≡ 0 = omega (arith, bit_at-lt s a) in
      subst (λ (xs : List ℕ). All P xs) (sym (passed s a n low)) (all_from P s (a + 1) n each)
]

-- what holds of each toll of a set holds along its list
pub all_listed : (P : ℕ → Type 0) (s : ℕ) → ((a : ℕ) → Has s a → P a) → All P (tolls_of s)
unfolding tolls_of tolls_from
all_listed P s each = all_from P s 0 128 each

each_from : (P : ℕ → Type 0) (s a n i : ℕ) → All P (tolls_from s a n) → a ≤ i → i < a + n → Has s i → P i
each_from P s a zero i all low high has = absurd (omega arith)
each_from P s a (suc n) i all low high has = elim (cases_eq a i) [
  | inl e ↦
      let at : All P (a ∷ tolls_from s (a + 1) n) = subst (λ (xs : List ℕ). All P xs) (listed s a n (ap (λ (j : ℕ). bit_at s j) e ∙ has)) all in
      subst P e (All-head P a (tolls_from s (a + 1) n) at)
  | inr ne ↦ each_from P s (a + 1) n i (rest (cases_eq (bit_at s a) 1)) (omega arith) (omega arith) has
]
  where
    rest : (bit_at s a ≡ 1) ⊎ (bit_at s a ≢ 1) → All P (tolls_from s (a + 1) n)
    rest (inl here) = All-tail P a (tolls_from s (a + 1) n) (subst (λ (xs : List ℕ). All P xs) (listed s a n here) all)
    rest (inr out) =
        let zero_here : bit_at s a ≡ 0 = omega (arith, bit_at-lt s a) in
        subst (λ (xs : List ℕ). All P xs) (passed s a n zero_here) all

-- what holds along the list holds of each toll of the set
pub each_listed : (P : ℕ → Type 0) (s : ℕ) → s < 2 ^ 128 → All P (tolls_of s) → (a : ℕ) → Has s a → P a
unfolding tolls_of tolls_from
each_listed P s fits all a has = elim (cases_lt a 128) [
  | inl lt ↦ each_from P s 0 128 a all (omega arith) (omega arith) has
  | inr ge ↦ let none = bit_at_above s 128 a fits ge in absurd (omega arith)
]
