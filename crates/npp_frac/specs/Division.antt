-- The laws of quotients of rational numbers.
use Rattle.std.specs.Prelude.{◌≡◌, ℕ, ℤ, zero, suc, pos, negsuc, ◌+◌, ◌*◌, ◌<◌, ◌≢◌, refl, false, nat_abs, neg_ℤ, cond, int_lt, nat_lt}
use Rattle.std.proofs.Common.{arith, ap, sym, subst, ◌∙◌}
use Rattle.std.proofs.Math.Nat.{mul-pos, mul-lt-mul_of_pos_right}
use Rattle.std.proofs.lemmas.Int.{ints}
use Rattle.std.proofs.lemmas.Bool.Decides.{nat_tests}
use borrow.Author.Differences.{up, down}
use Rattle.npp_frac.specs.Rational.{Rational, ratio, zero_ℚ, one_ℚ, reciprocal, Is, Is-self, Is-same, Is-le, le-Is, Is-lt, lt-Is, Is-ratio, Is-equal, Is-mul, Is-whole, ◌+ℚ◌, ◌*ℚ◌, ◌-ℚ◌, ◌/ℚ◌, ◌≤ℚ◌, ◌<ℚ◌}
use Rattle.npp_frac.specs.Ring.{*ℚ_comm, *ℚ_assoc, *ℚ-one, +ℚ-*ℚ, -ℚ-*ℚ}
use Rattle.npp_frac.specs.Order.{*ℚ_mono, *ℚ_mono_<, *ℚ_nonneg, ≤ℚ_of_<ℚ}

not_below : (a : ℕ) → nat_lt a 0 ≡ false
not_below a = grind (arith, nat_tests)

pub turned_pos : (a d : ℕ) → cond (int_lt (pos a) (pos 0)) (neg_ℤ (pos d)) (pos d) ≡ pos d
turned_pos a d = ap (λ t. cond t (neg_ℤ (pos d)) (pos d)) (not_below a)

-- n / d turned over is n d / n n, with n in its parts
turned : (n : ℤ) (d : ℕ) → 0 < d → 0 < nat_abs n → Is (ratio (cond (int_lt n (pos 0)) (neg_ℤ (pos d)) (pos d)) (nat_abs n)) (up n * d) (down n * d) (up n * up n + down n * down n)
turned (pos a) d h k =
    let square : 0 < a * a = mul-pos k k in
    rw (turned_pos a d) (Is-equal {p' = a * d} {n' = 0 * d} {d' = a * a + 0 * 0} (Is-ratio (pos d) a k) (omega (arith, square)) (omega arith))
turned (negsuc n) zero h k = absurd (omega (arith, h))
turned (negsuc n) (suc d) h k =
    let square : 0 < suc n * suc n = mul-pos k k in
    Is-equal {p' = 0 * suc d} {n' = suc n * suc d} {d' = 0 * 0 + suc n * suc n} (Is-ratio (negsuc d) (suc n) k) (omega (arith, square)) (omega arith)

pub size_of_nonzero : (n : ℤ) → n ≢ pos 0 → 0 < nat_abs n
size_of_nonzero (pos zero) h = absurd (h refl)
size_of_nonzero (pos (suc n)) h = omega arith
size_of_nonzero (negsuc n) h = omega arith

pub num_of_nonzero : (q : Rational) → q ≢ zero_ℚ → q.num ≢ pos 0
num_of_nonzero q h e = h (Is-same (Is-self q) (Is-whole (pos 0)) (omega (arith, ints, e)))

pub Is-reciprocal : (q : Rational) → q ≢ zero_ℚ → Is (reciprocal q) (up q.num * q.den) (down q.num * q.den) (up q.num * up q.num + down q.num * down q.num)
unfolding reciprocal
Is-reciprocal q h = turned q.num q.den q.positive (size_of_nonzero q.num (num_of_nonzero q h))

one_of_parts : (n : ℤ) (d : ℕ) → (up n * (up n * d) + down n * (down n * d)) * 1 + 0 * (d * (up n * up n + down n * down n)) ≡ 1 * (d * (up n * up n + down n * down n)) + (up n * (down n * d) + down n * (up n * d)) * 1
one_of_parts (pos n) d = omega arith
one_of_parts (negsuc n) d = omega arith

pub *ℚ-reciprocal : (q : Rational) → q ≢ zero_ℚ → q *ℚ reciprocal q ≡ one_ℚ
*ℚ-reciprocal q h = Is-same (Is-mul (Is-self q) (Is-reciprocal q h)) (Is-whole (pos 1)) (one_of_parts q.num q.den)

-- dividing and multiplying again
pub /ℚ-*ℚ : (q r : Rational) → r ≢ zero_ℚ → (q /ℚ r) *ℚ r ≡ q
unfolding ◌/ℚ◌
/ℚ-*ℚ q r h = *ℚ_assoc q (reciprocal r) r ∙ ap (λ t. q *ℚ t) (*ℚ_comm (reciprocal r) r ∙ *ℚ-reciprocal r h) ∙ *ℚ-one q

-- multiplying and dividing again
pub *ℚ-/ℚ : (q r : Rational) → r ≢ zero_ℚ → (q *ℚ r) /ℚ r ≡ q
unfolding ◌/ℚ◌
*ℚ-/ℚ q r h = *ℚ_assoc q r (reciprocal r) ∙ ap (λ t. q *ℚ t) (*ℚ-reciprocal r h) ∙ *ℚ-one q

-- a quotient is the only number whose product with the divisor is the dividend
pub /ℚ_unique : {q r s : Rational} → r ≢ zero_ℚ → s *ℚ r ≡ q → s ≡ q /ℚ r
/ℚ_unique {q} {r} {s} h e = sym (*ℚ-/ℚ s r h) ∙ ap (λ t. t /ℚ r) e

pub +ℚ-/ℚ : (q r s : Rational) → (q +ℚ r) /ℚ s ≡ q /ℚ s +ℚ r /ℚ s
unfolding ◌/ℚ◌
+ℚ-/ℚ q r s = +ℚ-*ℚ q r (reciprocal s)

pub -ℚ-/ℚ : (q r s : Rational) → (q -ℚ r) /ℚ s ≡ q /ℚ s -ℚ r /ℚ s
unfolding ◌/ℚ◌
-ℚ-/ℚ q r s = -ℚ-*ℚ q r (reciprocal s)

pub not-zero_of_pos : {q : Rational} → zero_ℚ <ℚ q → q ≢ zero_ℚ
not-zero_of_pos {q} h e = omega (arith, lt-Is (Is-whole (pos 0)) (Is-self q) h, le-Is (Is-self q) (Is-whole (pos 0)) (let P : Rational → Type 0 = λ s. s ≤ℚ zero_ℚ in subst P (sym e) (Is-le (Is-whole (pos 0)) (Is-whole (pos 0)) (omega arith))))

pub reciprocal_pos : {q : Rational} → zero_ℚ <ℚ q → zero_ℚ <ℚ reciprocal q
reciprocal_pos {q} h =
    let r = Is-reciprocal q (not-zero_of_pos h) in
    let gap : down q.num < up q.num = omega (arith, lt-Is (Is-whole (pos 0)) (Is-self q) h) in
    Is-lt (Is-whole (pos 0)) r (omega (arith, mul-lt-mul_of_pos_right gap q.positive))

-- a positive divisor keeps the order
pub /ℚ_mono : {q r s : Rational} → zero_ℚ <ℚ s → q ≤ℚ r → (q /ℚ s) ≤ℚ (r /ℚ s)
unfolding ◌/ℚ◌
/ℚ_mono {q} {r} {s} h k = rw (*ℚ_comm q (reciprocal s), *ℚ_comm r (reciprocal s)) (*ℚ_mono (≤ℚ_of_<ℚ (reciprocal_pos h)) k)

pub /ℚ_mono_< : {q r s : Rational} → zero_ℚ <ℚ s → q <ℚ r → (q /ℚ s) <ℚ (r /ℚ s)
unfolding ◌/ℚ◌
/ℚ_mono_< {q} {r} {s} h k = rw (*ℚ_comm q (reciprocal s), *ℚ_comm r (reciprocal s)) (*ℚ_mono_< (reciprocal_pos h) k)

pub /ℚ_nonneg : {q r : Rational} → zero_ℚ ≤ℚ q → zero_ℚ <ℚ r → zero_ℚ ≤ℚ (q /ℚ r)
unfolding ◌/ℚ◌
/ℚ_nonneg h k = *ℚ_nonneg h (≤ℚ_of_<ℚ (reciprocal_pos k))
