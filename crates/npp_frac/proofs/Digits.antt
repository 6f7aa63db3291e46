-- Digits without leading zeros, and the number that they write.
use Rattle.std.specs.Prelude.{◌≡◌, ◌≢◌, ℕ, zero, suc, ◌+◌, ◌*◌, ◌/◌, ◌%◌, ◌^◌, ◌<◌, ◌≤◌, List, [], ◌∷◌, ◌++◌, length, Result, Ok, refl, drop, ◌⊎◌}
use Rattle.std.specs.Fmt.{decimal}
use Rattle.std.specs.Char.{digit_value}
use Rattle.std.specs.Str.{IsUtf8}
use Rattle.std.specs.Str.Parse.{AllDigits, digits_value, digits_value_after, ParsesUnsigned}
use Rattle.std.proofs.Common.{arith, ap, sym, subst, ◌∙◌, get_or, append_assoc, inl, inr, length-drop}
use Rattle.std.proofs.Math.ListN.{length-append, get_or-append}
use Rattle.std.proofs.lemmas.Fmt.{decimal_is_IsNumeral_wide, decimal_digit, decimal_step_wide, decimal_by_steps_wide, IsAscii-decimal_wide}
use Rattle.std.proofs.lemmas.Str.{digit_value_digit, IsUtf8-from_ascii}
use Rattle.std.proofs.lemmas.Str.Parse.{digit_from_value, parse_plain, numerals_by_value, tells_digits, without_leading_plus_plus, not_in_digits}
use Rattle.std.specs.Result.{OkIff}
use Rattle.std.specs.Int.{IsInRange}
use mathlib.Core.List.{append-nil}

le_value_after : (n : ℕ) (ds : List ℕ) → n ≤ digits_value_after 10 n ds
le_value_after n [] = omega arith
le_value_after n (c ∷ cs) = omega (arith, le_value_after (n * 10 + digit_value c) cs)

decimal_value_after : (n : ℕ) (ds : List ℕ) → 0 < n → AllDigits 10 ds → digits_value_after 10 n ds < 10 ^ 64 → decimal (digits_value_after 10 n ds) ≡ decimal n ++ ds
decimal_value_after n [] some d small = sym (append-nil (decimal n))
decimal_value_after n (c ∷ cs) some d small =
    let m : ℕ = n * 10 + digit_value c in
    let k = digit_value_digit c (digit_from_value c d.0) in
    let front : m / 10 ≡ n = omega (arith, d.0) in
    let end : 48 + m % 10 ≡ c = omega (arith, d.0) in
    decimal_value_after m cs (omega arith) d.1 small
    ∙ ap (λ x. x ++ cs) (decimal_step_wide m (omega arith) (omega (arith, le_value_after m cs)) ∙ (λ i. decimal (front i) ++ (end i ∷ [])))
    ∙ append_assoc (decimal n) (c ∷ []) cs

-- digits with no leading zero, or just `0`, are what `decimal` writes of their value
pub decimal-digits_value_wide : (ds : List ℕ) → AllDigits 10 ds → 0 < length ds → (1 < length ds → get_or ds 0 0 ≢ 48) → digits_value 10 ds < 10 ^ 64 → decimal (digits_value 10 ds) ≡ ds
decimal-digits_value_wide [] d some lead small = absurd (omega arith)
decimal-digits_value_wide (c ∷ []) d some lead small =
    let k = digit_value_digit c (digit_from_value c d.0) in
    decimal_digit (0 * 10 + digit_value c) (omega (arith, d.0)) ∙ ap (λ x. x ∷ []) (omega arith)
decimal-digits_value_wide (c ∷ e ∷ cs) d some lead small =
    let k = digit_value_digit c (digit_from_value c d.0) in
    let no : c ≡ 48 → ⊥ = λ z. lead (omega arith) z in
    let is : 48 + (0 * 10 + digit_value c) ≡ c = omega arith in
    decimal_value_after (0 * 10 + digit_value c) (e ∷ cs) (omega arith) d.1 small
    ∙ ap (λ x. x ++ (e ∷ cs)) (decimal_digit (0 * 10 + digit_value c) (omega (arith, d.0)) ∙ ap (λ x. x ∷ []) is)

record Parts (m : ℕ) (ds : List ℕ) : Type 0 where
  some : 0 < length ds
  first : get_or ds 0 0 < 58
  above : 0 < m → 48 < get_or ds 0 0
  short : m ≡ 0 → length ds ≡ 1

decimal-parts : (n : ℕ) → n < 10 ^ 64 → Parts n (decimal n)
decimal-parts n small =
    decimal_by_steps_wide Parts
    (λ m l. record { some = omega arith; first = omega arith; above = λ a. omega arith; short = λ z. omega arith })
    (λ m ds l h.
    let e : get_or (ds ++ ((48 + m % 10) ∷ [])) 0 0 ≡ get_or ds 0 0 = get_or-append ds ((48 + m % 10) ∷ []) 0 0 h.some in
    record {
      some = omega (arith, length-append ds ((48 + m % 10) ∷ []));
      first = rw e h.first;
      above = λ a. rw e (h.above (omega arith));
      short = λ z. absurd (omega arith);
    })
    n small

-- no zero stands before other digits
decimal-first : (n : ℕ) → n < 10 ^ 64 → 1 < length (decimal n) → 48 < get_or (decimal n) 0 0
decimal-first zero small more = absurd (omega (arith, (decimal-parts 0 small).short refl))
decimal-first (suc n) small more = (decimal-parts (suc n) small).above (omega arith)

pub plain_of_decimal : (bs : List ℕ) (n : ℕ) → n < 10 ^ 64 → bs ≡ decimal n → 1 < length bs → (get_or bs 0 0 ≢ 48) × (get_or bs 0 0 ≢ 43)
plain_of_decimal bs n small e more =
    let f : 48 < get_or (decimal n) 0 0 = decimal-first n small (omega (arith, ap length e)) in
    let g : 48 < get_or bs 0 0 = rw e f in
    (λ h. omega arith, λ h. omega arith)

pub IsUtf8-decimal : (bs : List ℕ) (n : ℕ) → n < 10 ^ 64 → bs ≡ decimal n → IsUtf8 bs
IsUtf8-decimal bs n small e = rw e (IsUtf8-from_ascii (decimal n) (IsAscii-decimal_wide n small))

pub eq_or_not : (a b : ℕ) → (a ≡ b) ⊎ (a ≢ b)
eq_or_not zero zero = inl refl
eq_or_not zero (suc b) = inr (λ e. omega arith)
eq_or_not (suc a) zero = inr (λ e. omega arith)
eq_or_not (suc a) (suc b) = elim (eq_or_not a b) [ inl e ↦ inl (ap suc e) | inr n ↦ inr (λ e. n (omega arith)) ]

-- what `parse` read, where no zero and no plus sign stood first, is the text of its value
pub decimal_of_parsed : {E : Type 0} (bs : List ℕ) (n : ℕ) (r : Result ℕ E) → r ≡ Ok n → ParsesUnsigned 128 10 bs r → (1 < length bs → (get_or bs 0 0 ≢ 48) × (get_or bs 0 0 ≢ 43)) → n < 10 ^ 64 → bs ≡ decimal n
decimal_of_parsed {E} bs n r is h lead small = elim (eq_or_not (get_or bs 0 0) 43) [
  | inl e ↦
      let P : Result ℕ E → Type 0 = λ x. ParsesUnsigned 128 10 bs x in
      let k = subst P is h in
      let more : 0 < length (drop 1 bs) = rw (without_leading_plus_plus bs e) at k.0.0.0 in
      absurd ((lead (omega (arith, length-drop 1 bs))).1 e)
  | inr ne ↦
      let P : Result ℕ E → Type 0 = λ x. OkIff x (AllDigits 10 bs × (0 < length bs) × (digits_value 10 bs < 2 ^ 128)) (digits_value 10 bs) in
      let k = subst P is (parse_plain (numerals_by_value (AllDigits 10) tells_digits) 128 bs r h ne) in
      sym (ap decimal k.1 ∙ decimal-digits_value_wide bs k.0.0 k.0.1 (λ l. (lead l).0) (omega (arith, k.1)))
]

pub decimal_not_in : (n c k : ℕ) → n < 10 ^ 64 → ¬ (IsInRange 48 57 c) → k < length (decimal n) → get_or (decimal n) k 0 ≢ c
decimal_not_in n c k small out l = not_in_digits (numerals_by_value (AllDigits 10) tells_digits) (decimal n) c (decimal_is_IsNumeral_wide n small).0.1 out k l

pub decimal_some : (n : ℕ) → n < 10 ^ 64 → 0 < length (decimal n)
decimal_some n small = (decimal-parts n small).some
