-- The parts of the line of a toll.
use Rattle.std.proofs.Common.{◌≡◌, ◌≢◌, ℕ, ◌<◌, ◌^◌, ◌∷◌, ◌++◌, All, true, Ordering, Less, Equal, Greater, is_eq, List, codes, pos, sym, ◌∙◌, ap, subst, arith, refl, append_assoc, append-nil, lit<, drop}
use Rattle.std.specs.Fmt.{decimal}
use Rattle.std.specs.Int.{IsInRange}
use Rattle.std.specs.Ordering.{MatchOrdering}
use Rattle.npp_frac.specs.Fits.{FitsBelow, limit_of}
use Rattle.npp_frac.specs.FractionText.{IsFractionText, fraction_text}
use Rattle.npp_frac.specs.Gcd.{gcd-one}
use Rattle.npp_frac.specs.Order.{rational_ranks, not-≤ℚ_of_<ℚ, ≤ℚ_of_≡}
use Rattle.npp_frac.specs.Rational.{Rational, whole, whole_value, rational_cmp, ◌<ℚ◌}
use Rattle.npp_toll_text.specs.TollsText.{toll_line}
use Rattle.npp_toll_text.proofs.ByteLemmas.{fraction_lacks}

-- the word, the number, a blank, the toll and a line feed
pub toll_line_parts : (number : ℕ) (toll : Rational) (after : List ℕ)
    → toll_line number toll ++ after ≡ codes "toll " ++ (decimal number ++ 32 ∷ (fraction_text toll ++ 10 ∷ after))
toll_line_parts number toll after = simp append_assoc

-- a whole number as a reduced pair
pair_of : ℕ → Rational
pair_of n = record { num = pos n; den = 1; positive = lit< tt; reduced = gcd-one n }

whole_is : (n : ℕ) → pair_of n ≡ whole (pos n)
unfolding pair_of
whole_is n = whole_value (pair_of n) (pos n) refl refl

-- numbers are written as the fractions that they are
pub number_text : (n : ℕ) → fraction_text (whole (pos n)) ≡ decimal n
unfolding fraction_text pair_of
number_text n = sym (ap fraction_text (whole_is n)) ∙ append-nil (decimal n)

number_fits : (n : ℕ) → n < 2 ^ 32 → FitsBelow (limit_of 128) (whole (pos n))
unfolding pair_of
number_fits n small =
    let fits : FitsBelow (limit_of 128) (pair_of n) = record { num = omega arith; den = omega arith } in
    subst (FitsBelow (limit_of 128)) (whole_is n) fits

pub is_number_text : (bs : List ℕ) (n : ℕ) → n < 2 ^ 32 → bs ≡ decimal n → IsFractionText bs (whole (pos n))
is_number_text bs n small e = record { fits = number_fits n small; text = e ∙ sym (number_text n) }

pub of_number_text : (bs : List ℕ) (n : ℕ) (q : Rational) → q ≡ whole (pos n) → IsFractionText bs q → bs ≡ decimal n
of_number_text bs n q e t = t.text ∙ ap fraction_text e ∙ number_text n

-- no blank and no line feed stands in a number, and no line feed in a fraction
pub number_lacks : (n c : ℕ) → n < 2 ^ 32 → 45 ≢ c → 47 ≢ c → ¬ (IsInRange 48 57 c) → All (λ b. b ≢ c) (decimal n)
number_lacks n c small minus slash out =
    subst (λ (t : List ℕ). All (λ b. b ≢ c) t) (number_text n) (fraction_lacks (whole (pos n)) c (number_fits n small) minus slash out)

pub number_lacks_blank : (n : ℕ) → n < 2 ^ 32 → All (λ b. b ≢ 32) (decimal n)
number_lacks_blank n small = number_lacks n 32 small (λ e. omega (arith, e)) (λ e. omega (arith, e)) (λ r. omega (arith, r))

pub number_lacks_line_feed : (n : ℕ) → n < 2 ^ 32 → All (λ b. b ≢ 10) (decimal n)
number_lacks_line_feed n small = number_lacks n 10 small (λ e. omega (arith, e)) (λ e. omega (arith, e)) (λ r. omega (arith, r))

pub toll_lacks_line_feed : (q : Rational) → FitsBelow (limit_of 128) q → All (λ b. b ≢ 10) (fraction_text q)
toll_lacks_line_feed q fits = fraction_lacks q 10 fits (λ e. omega (arith, e)) (λ e. omega (arith, e)) (λ r. omega (arith, r))

by_rank : (q r : Rational) (o : Ordering) → MatchOrdering o (q <ℚ r) (q ≡ r) (r <ℚ q) → (is_eq o ≡ true → q ≡ r) × (q ≡ r → is_eq o ≡ true)
by_rank q r Less m = (λ e. absurd cc, λ e. absurd (not-≤ℚ_of_<ℚ m (≤ℚ_of_≡ (sym e))))
by_rank q r Equal m = (λ e. m, λ e. refl)
by_rank q r Greater m = (λ e. absurd cc, λ e. absurd (not-≤ℚ_of_<ℚ m (≤ℚ_of_≡ e)))

-- two numbers are one where neither is below the other
pub same_by_rank : (q r : Rational) → (is_eq (rational_cmp q r) ≡ true → q ≡ r) × (q ≡ r → is_eq (rational_cmp q r) ≡ true)
same_by_rank q r = by_rank q r (rational_cmp q r) (rational_ranks q r)

-- what stands behind the word
pub fields_are : (bytes fields : List ℕ) (number : ℕ) (toll : Rational) (after : List ℕ) → fields ≡ drop 5 bytes → bytes ≡ toll_line number toll ++ after
    → fields ≡ decimal number ++ 32 ∷ (fraction_text toll ++ 10 ∷ after)
fields_are bytes fields number toll after is e = is ∙ ap (drop 5) (e ∙ toll_line_parts number toll after)
