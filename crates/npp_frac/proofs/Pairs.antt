-- The text of a fraction and its parts.
use Rattle.std.specs.Prelude.{◌≡◌, ◌≢◌, ℕ, zero, suc, ◌+◌, ◌<◌, ◌^◌, ℤ, pos, negsuc, neg_ℤ, nat_abs, List, [], ◌∷◌, ◌++◌, length, take, drop, refl, ◌==◌, true, false, ◌-◌, Option, Some, unwrap_or}
use Rattle.std.specs.Fmt.{decimal, signed_decimal}
use Rattle.std.proofs.Common.{arith, ap, ap₂, sym, ◌∙◌, get_or, inl, inr, ne_eqb, eq-eqb, length-drop}
use Rattle.std.proofs.Math.ListN.{length-append, get_or-append}
use Rattle.std.proofs.Math.Seq.{take-append_seam, drop-append-add, take-length, get_or-append_seam}
use mathlib.Core.List.{append-nil}
use Rattle.npp_frac.specs.Gcd.{gcd-one}
use Rattle.npp_frac.specs.Fits.{FitsBelow}
use Rattle.npp_frac.specs.FractionText.{IsPairText, denominator_text, fraction_text}
use Rattle.npp_frac.specs.Rational.{Rational}
use Rattle.npp_frac.proofs.Digits.{decimal_not_in, decimal_some, eq_or_not}

not_one : (d : ℕ) → d ≢ 1 → denominator_text d ≡ 47 ∷ decimal d
not_one d h = let e : (d == 1) ≡ false = ne_eqb d 1 h in rw e refl

one : (d : ℕ) → d ≡ 1 → denominator_text d ≡ []
one d h = let e : (d == 1) ≡ true = eq-eqb d 1 h in rw e refl

whole_text : (bs : List ℕ) (n d : ℕ) → d ≡ 1 → bs ≡ decimal n ++ denominator_text d → bs ≡ decimal n
whole_text bs n d h e = e ∙ ap (λ t. decimal n ++ t) (one d h) ∙ append-nil (decimal n)

slashed_text : (bs : List ℕ) (n d : ℕ) → d ≢ 1 → bs ≡ decimal n ++ denominator_text d → bs ≡ decimal n ++ 47 ∷ decimal d
slashed_text bs n d h e = e ∙ ap (λ t. decimal n ++ t) (not_one d h)

-- the byte after the numerator
seam : (bs xs : List ℕ) (y : ℕ) (ys : List ℕ) → bs ≡ xs ++ y ∷ ys → (length xs < length bs) × (get_or bs (length xs) 0 ≡ y)
seam bs xs y ys e =
    (omega (arith, ap length e, length-append xs (y ∷ ys)), ap (λ t. get_or t (length xs) 0) e ∙ get_or-append_seam xs y ys 0)

-- the text of a whole number has no slash
pub whole_of_unslashed : (bs : List ℕ) (n d : ℕ) → IsPairText bs n d → ((k : ℕ) → k < length bs → get_or bs k 0 ≢ 47) → (d ≡ 1) × (bs ≡ decimal n)
whole_of_unslashed bs n d p none = elim (eq_or_not d 1) [
  | inl e ↦ (e, whole_text bs n d e p.text)
  | inr ne ↦
      let s = seam bs (decimal n) 47 (decimal d) (slashed_text bs n d ne p.text) in
      absurd (none (length (decimal n)) s.0 s.1)
]

pub record Halves (bs : List ℕ) (at n d : ℕ) : Type 0 where
  pub above : 1 < d
  pub num : take at bs ≡ decimal n
  pub den : drop (at + 1) bs ≡ decimal d

one_below : (d : ℕ) → 0 < d → d ≢ 1 → 1 < d
one_below d h ne = omega arith

halves_at : (bs xs ys : List ℕ) (y at : ℕ) → bs ≡ xs ++ y ∷ ys → at ≡ length xs → (take at bs ≡ xs) × (drop (at + 1) bs ≡ ys)
halves_at bs xs ys y at e h =
    (rw (e, h) (take-append_seam xs (y ∷ ys)), rw (e, h) (drop-append-add xs (y ∷ ys) 1))

-- where the first slash stands, a pair's text is its numerator and its denominator
pub halves_of_slashed : (bs : List ℕ) (at n d : ℕ) → IsPairText bs n d → at < length bs → get_or bs at 0 ≡ 47 → ((k : ℕ) → k < at → get_or bs k 0 ≢ 47) → Halves bs at n d
halves_of_slashed bs at n d p within found before = elim (eq_or_not d 1) [
  | inl e ↦
      let w : bs ≡ decimal n = whole_text bs n d e p.text in
      absurd (decimal_not_in n 47 at (omega (arith, p.num_below)) (λ r. omega (arith, r)) (omega (arith, ap length w)) (sym (ap (λ t. get_or t at 0) w) ∙ found))
  | inr ne ↦
      let w : bs ≡ decimal n ++ 47 ∷ decimal d = slashed_text bs n d ne p.text in
      let s = seam bs (decimal n) 47 (decimal d) w in
      let not_below : at < length (decimal n) → ⊥ = λ l. decimal_not_in n 47 at (omega (arith, p.num_below)) (λ r. omega (arith, r)) l (sym (ap (λ t. get_or t at 0) w ∙ get_or-append (decimal n) (47 ∷ decimal d) 0 at l) ∙ found) in
      let not_above : length (decimal n) < at → ⊥ = λ l. before (length (decimal n)) l s.1 in
      let h = halves_at bs (decimal n) (decimal d) 47 at w (omega arith) in
      record { above = one_below d p.positive ne; num = h.0; den = h.1 }
]

pub pair_text_whole : (bs : List ℕ) (n : ℕ) → n < 2 ^ 127 → bs ≡ decimal n → IsPairText bs n 1
pair_text_whole bs n small e = record {
  num_below = small;
  den_below = omega arith;
  positive = omega arith;
  reduced = gcd-one n;
  text = e ∙ sym (append-nil (decimal n));
}

record Signed (bs : List ℕ) (z : ℤ) (d : ℕ) : Type 0 where
  pub text : drop 1 bs ≡ decimal (nat_abs z) ++ denominator_text d
  pub some : 0 < nat_abs z
  pub sign : neg_ℤ (pos (nat_abs z)) ≡ z

-- a text that begins with a minus sign is that of a number below zero
signed_parts : (bs : List ℕ) (z : ℤ) (d : ℕ) → nat_abs z < 2 ^ 127 → get_or bs 0 0 ≡ 45 → bs ≡ signed_decimal z ++ denominator_text d → Signed bs z d
signed_parts bs (pos n) d small e t =
    let some : 0 < length (decimal n) = decimal_some n (omega arith) in
    absurd (decimal_not_in n 45 0 (omega arith) (λ r. omega (arith, r)) some (sym (ap (λ s. get_or s 0 0) t ∙ get_or-append (decimal n) (denominator_text d) 0 0 some) ∙ e))
signed_parts bs (negsuc n) d small e t = record { text = ap (drop 1) t; some = omega arith; sign = refl }

record Unsigned (bs : List ℕ) (z : ℤ) (d : ℕ) : Type 0 where
  pub text : bs ≡ decimal (nat_abs z) ++ denominator_text d
  pub sign : pos (nat_abs z) ≡ z

unsigned_parts : (bs : List ℕ) (z : ℤ) (d : ℕ) → get_or bs 0 0 ≢ 45 → bs ≡ signed_decimal z ++ denominator_text d → Unsigned bs z d
unsigned_parts bs (pos n) d e t = record { text = t; sign = refl }
unsigned_parts bs (negsuc n) d e t = absurd (e (ap (λ s. get_or s 0 0) t))

pub record SignedPair (bs : List ℕ) (q : Rational) : Type 0 where
  pub pair : IsPairText (drop 1 bs) (nat_abs q.num) q.den
  pub some : 0 < nat_abs q.num
  pub sign : neg_ℤ (pos (nat_abs q.num)) ≡ q.num

pub signed_pair : (bs : List ℕ) (q : Rational) → FitsBelow (2 ^ 127) q → get_or bs 0 0 ≡ 45 → bs ≡ fraction_text q → SignedPair bs q
unfolding fraction_text
signed_pair bs q f e t =
    let p = signed_parts bs q.num q.den f.num e t in
    record {
      pair = record { num_below = f.num; den_below = f.den; positive = q.positive; reduced = q.reduced; text = p.text };
      some = p.some;
      sign = p.sign;
    }

pub record UnsignedPair (bs : List ℕ) (q : Rational) : Type 0 where
  pub pair : IsPairText bs (nat_abs q.num) q.den
  pub sign : pos (nat_abs q.num) ≡ q.num

pub unsigned_pair : (bs : List ℕ) (q : Rational) → FitsBelow (2 ^ 127) q → get_or bs 0 0 ≢ 45 → bs ≡ fraction_text q → UnsignedPair bs q
unfolding fraction_text
unsigned_pair bs q f e t =
    let p = unsigned_parts bs q.num q.den e t in
    record { pair = record { num_below = f.num; den_below = f.den; positive = q.positive; reduced = q.reduced; text = p.text }; sign = p.sign }

pub text_of_signed : (bs : List ℕ) (q : Rational) (n d : ℕ) → get_or bs 0 0 ≡ 45 → IsPairText (drop 1 bs) n d → 0 < n → q.num ≡ neg_ℤ (pos n) → q.den ≡ d → bs ≡ fraction_text q
unfolding fraction_text
text_of_signed [] q n d e p some num den = absurd (omega arith)
text_of_signed (b ∷ bs) q zero d e p some num den = absurd (omega arith)
text_of_signed (b ∷ bs) q (suc n) d e p some num den =
    ap₂ ◌∷◌ e p.text ∙ sym (ap₂ (λ z t. signed_decimal z ++ denominator_text t) num den)

pub text_of_unsigned : (bs : List ℕ) (q : Rational) (n d : ℕ) → IsPairText bs n d → q.num ≡ pos n → q.den ≡ d → bs ≡ fraction_text q
unfolding fraction_text
text_of_unsigned bs q n d p num den = p.text ∙ sym (ap₂ (λ z t. signed_decimal z ++ denominator_text t) num den)

pub whole_written : (s : List ℕ) (q : Rational) (n : ℤ) → s ≡ signed_decimal n → n ≡ q.num → q.den ≡ 1 → s ≡ fraction_text q
unfolding fraction_text
whole_written s q n e num den = e ∙ ap signed_decimal num ∙ sym (append-nil (signed_decimal q.num)) ∙ ap (λ t. signed_decimal q.num ++ t) (sym (one q.den den))

pub ratio_written : (s : List ℕ) (q : Rational) (n d : ℤ) → s ≡ signed_decimal n ++ 47 ∷ signed_decimal d → n ≡ q.num → d ≡ pos q.den → q.den ≢ 1 → s ≡ fraction_text q
unfolding fraction_text
ratio_written s q n d e num den more =
    e ∙ ap₂ (λ x y. signed_decimal x ++ 47 ∷ signed_decimal y) num den ∙ ap (λ t. signed_decimal q.num ++ t) (sym (not_one q.den more))

-- the part from k on
pub tail_is : (bs : List ℕ) (k : ℕ) → take (length bs - k) (drop k bs) ≡ drop k bs
tail_is bs k = ap (λ t. take t (drop k bs)) (sym (length-drop k bs)) ∙ take-length (drop k bs)

pub pair_along : (bs cs : List ℕ) (n d : ℕ) → bs ≡ cs → IsPairText bs n d → IsPairText cs n d
pair_along bs cs n d e p = rw (← e) p

pub some_pair : (a b c d : ℕ) → ◌≡◌ {A = Option (ℕ × ℕ)} (Some (a, b)) (Some (c, d)) → (a ≡ c) × (b ≡ d)
some_pair a b c d e = (ap (λ o. (unwrap_or {T = ℕ × ℕ} o (0, 0)).0) e, ap (λ o. (unwrap_or {T = ℕ × ℕ} o (0, 0)).1) e)
