-- What the printed numbers are over a common denominator of the printed tolls.
use Rattle.std.specs.Prelude.{◌≡◌, ℕ, zero, suc, ◌+◌, ◌*◌, ◌<◌, ◌≤◌, pos, Bool, true, false, not, cond, ◌==◌, nat_lt, List, [], ◌∷◌, length, filter, slice_index, Result, Ok, Err, refl}
use Rattle.std.specs.Int.{bit_at}
use Rattle.std.specs.List.{range_with_len, list_all}
use Rattle.std.proofs.Common.{arith, ap, sym, ◌∙◌, subst}
use Rattle.std.proofs.lemmas.Nat.Bits.{bit_at-lt}
use Rattle.npp_frac.specs.Rational.{Rational, zero_ℚ, whole, ◌+ℚ◌, Is, Is-whole, Is-add, Is-mul, Is-equal, Is-ratio}
use Rattle.npp_frac.specs.Ring.{zero-+ℚ, +ℚ-zero, +ℚ_assoc}
use Rattle.npp_frac.specs.Sums.{sum_by, sum_to}
use Rattle.npp_lp.specs.Programs.{at, product_sum}
use Rattle.npp_lp.specs.Sums.{checked_sum}
use Rattle.npp_lp.specs.SumLaws.{checked_sum_parts}
use Rattle.npp_net.specs.Toll.{TollVector}
use Rattle.npp_cover.specs.Replaces.{sum_below, set_toll}
use Rattle.npp_rows.specs.TollVectors.{HasTolls}
use Rattle.npp_check.specs.declared.refusal.Rule.TheVariants as rule
use Rattle.npp_check.specs.Rules.{formed, counted_sum}
use Rattle.npp_check.proofs.RuleLemmas.{same_ok, unbroken}

-- ---- sums of counted numbers

formed_says : {X O : Type 0} (r : Result X O) (x : X) → formed r ≡ Ok x → r ≡ Ok x
formed_says (Ok y) x e = ap Ok (same_ok y x e)
formed_says (Err o) x e = cc

-- a sum that was formed is the sum
pub counted_says : (limit n : ℕ) (counts : ℕ → ℕ) (values : ℕ → Rational) (s : Rational) → counted_sum limit n counts values ≡ Ok s
    → product_sum n (λ i. whole (pos (counts i))) values ≡ s
counted_says limit n counts values s e =
    let sum = checked_sum limit n (λ i. whole (pos (counts i))) values in
    let fits = unbroken (not (list_all (λ i. nat_lt (counts i) limit) (range_with_len 0 n))) rule.Overflow (formed sum) s e in
    (checked_sum_parts limit (λ i. whole (pos (counts i))) values n s (formed_says sum s fits.1)).1

sum_cross : (s c x d : ℕ) → (s * (1 * d) + (c * x + 0 * 0) * d) * d + 0 * (d * (1 * d)) ≡ (s + c * x) * (d * (1 * d)) + (0 * (1 * d) + (c * 0 + 0 * x) * d) * d
sum_cross s c x d = omega arith

module _ (d : ℕ) (positive : 0 < d) (counts nums : ℕ → ℕ) (values : ℕ → Rational) where
  -- over a common denominator it is a sum of whole numbers
  pub counted_is : (n : ℕ) → ((i : ℕ) → i < n → Is (values i) (nums i) 0 d) → Is (product_sum n (λ i. whole (pos (counts i))) values) (sum_below (λ i. counts i * nums i) n) 0 d
  unfolding sum_to
  counted_is zero each = Is-equal (Is-whole (pos 0)) positive (omega arith)
  counted_is (suc n) each =
      Is-equal (Is-add (counted_is n (λ i lt. each i (omega (arith, lt)))) (Is-mul (Is-whole (pos (counts n))) (each n (omega arith)))) positive
      (sum_cross (sum_below (λ i. counts i * nums i) n) (counts n) (nums n) d)

-- ---- tolls

-- each printed toll over the denominator
pub toll_is : (tolls : List Rational) (t : TollVector) → HasTolls tolls t → (a : ℕ) → a < length tolls → Is (at tolls a) (slice_index t.numerators a) 0 t.denominator
toll_is tolls t has a lt =
    subst (λ (q : Rational). Is q (slice_index t.numerators a) 0 t.denominator) (sym (has.each a lt)) (Is-ratio (pos (slice_index t.numerators a)) t.denominator has.positive)

-- ---- sets of tolls

kept_or_zero : (f : ℕ → Rational) (b : Bool) (x : ℕ) (xs : List ℕ) (rest : Rational) → sum_by f xs ≡ rest → sum_by f (cond b (x ∷ xs) xs) ≡ cond b (f x) zero_ℚ +ℚ rest
unfolding sum_by
kept_or_zero f true x xs rest e = ap (λ z. f x +ℚ z) e
kept_or_zero f false x xs rest e = e ∙ sym (zero-+ℚ rest)

sum_by-filter : (f : ℕ → Rational) (p : ℕ → Bool) (xs : List ℕ) → sum_by f (filter p xs) ≡ sum_by (λ x. cond (p x) (f x) zero_ℚ) xs
unfolding sum_by
sum_by-filter f p [] = refl
sum_by-filter f p (x ∷ xs) = kept_or_zero f (p x) x (filter p xs) (sum_by (λ x. cond (p x) (f x) zero_ℚ) xs) (sum_by-filter f p xs)

sum_by-range_more : (f : ℕ → Rational) (a n : ℕ) → sum_by f (range_with_len a (suc n)) ≡ sum_by f (range_with_len a n) +ℚ f (a + n)
unfolding sum_by
sum_by-range_more f a zero = let e : a + 0 ≡ a = omega arith in rw e (+ℚ-zero (f a) ∙ sym (zero-+ℚ (f a)))
sum_by-range_more f a (suc n) =
    let e : a + 1 + n ≡ a + suc n = omega arith in
    let rest : sum_by f (range_with_len (a + 1) (suc n)) ≡ sum_by f (range_with_len (a + 1) n) +ℚ f (a + suc n) = rw e at (sum_by-range_more f (a + 1) n) in
    ap (λ z. f a +ℚ z) rest ∙ sym (+ℚ_assoc (f a) (sum_by f (range_with_len (a + 1) n)) (f (a + suc n)))

module _ (tolls : List Rational) (t : TollVector) (has : HasTolls tolls t) (s : ℕ) where
  by_bit : (a bit : ℕ) → a < length tolls → bit < 2 → Is (cond (bit == 1) (at tolls a) zero_ℚ) (bit * slice_index t.numerators a) 0 t.denominator
  by_bit a zero lt h = Is-equal (Is-whole (pos 0)) has.positive (omega arith)
  by_bit a (suc zero) lt h = Is-equal (toll_is tolls t has a lt) has.positive (omega arith)
  by_bit a (suc (suc n)) lt h = absurd (omega (arith, h))

  set_below : (n : ℕ) → n ≤ length tolls
      → Is (sum_by (λ a. cond (bit_at s a == 1) (at tolls a) zero_ℚ) (range_with_len 0 n)) (sum_below (λ a. bit_at s a * slice_index t.numerators a) n) 0 t.denominator
  unfolding sum_by
  set_below zero le = Is-equal (Is-whole (pos 0)) has.positive (omega arith)
  set_below (suc n) le =
      let e : 0 + n ≡ n = omega arith in
      let more = sum_by-range_more (λ a. cond (bit_at s a == 1) (at tolls a) zero_ℚ) 0 n in
      rw (more, e) (Is-equal (Is-add (set_below n (omega (arith, le))) (by_bit n (bit_at s n) (omega (arith, le)) (bit_at-lt s n))) has.positive (omega arith))

  -- what the tolls of a set are together
  pub set_is : Is (sum_by (at tolls) (filter (λ a. bit_at s a == 1) (range_with_len 0 (length tolls)))) (set_toll t s) 0 t.denominator
  set_is =
      let size : length t.numerators ≡ length tolls = has.size in
      rw (sum_by-filter (at tolls) (λ a. bit_at s a == 1) (range_with_len 0 (length tolls)), size) (set_below (length tolls) (omega arith))

  -- and a cost with them
  pub price_is : (cost : ℕ) → Is (whole (pos cost) +ℚ sum_by (at tolls) (filter (λ a. bit_at s a == 1) (range_with_len 0 (length tolls)))) (t.denominator * cost + set_toll t s) 0 t.denominator
  price_is cost = Is-equal (Is-add (Is-whole (pos cost)) set_is) has.positive (omega arith)
