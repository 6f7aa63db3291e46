-- Whole parts of rational numbers.
use Rattle.std.specs.Prelude.{◌≡◌, ℕ, ℤ, pos, negsuc, ◌+◌, ◌*◌, ◌<◌, ◌≤◌, ◌≤ℤ◌, ◌+ℤ◌}
use Rattle.std.specs.Int.{int_div_euclid}
use Rattle.std.proofs.Common.{arith, ap, sym}
use Rattle.std.proofs.lemmas.Int.{ints}
use borrow.Author.Differences.{up, down, sum_is_lem}
use Rattle.std.proofs.Math.Nat.{lt_of_mul-lt-mul_right}
use Rattle.npp_frac.specs.Order.{≤ℚ_refl, ≤ℚ_trans, whole_cancel_≤}
use Rattle.npp_frac.specs.Rational.{Rational, whole, Is-self, Is-le, le-Is, Is-lt, Is-whole, ◌≤ℚ◌, ◌<ℚ◌}

-- the greatest whole number that is not above q
unfoldable pub floor : Rational → ℤ
floor q = int_div_euclid q.num (pos q.den)

-- n is a whole number not above q, and each whole number not above q is at most n
pub record IsGreatestWhole (n : ℤ) (q : Rational) : Type 0 where
  pub not_above : whole n ≤ℚ q
  pub greatest : (m : ℤ) → whole m ≤ℚ q → m ≤ℤ n

quotient_below : (n : ℤ) (d : ℕ) → 0 < d → up (int_div_euclid n (pos d)) * d + down n * 1 ≤ up n * 1 + down (int_div_euclid n (pos d)) * d
quotient_below (pos n) d h = omega arith
quotient_below (negsuc n) d h = omega arith

quotient_next : (n : ℤ) (d : ℕ) → 0 < d → up n + (1 + down (int_div_euclid n (pos d))) * d < (up (int_div_euclid n (pos d)) + 1 + 1) * d + down n
quotient_next (pos n) d h = omega arith
quotient_next (negsuc n) d h = omega arith

pub floor_not_above : (q : Rational) → whole (floor q) ≤ℚ q
unfolding floor
floor_not_above q = Is-le (Is-whole (floor q)) (Is-self q) (quotient_below q.num q.den q.positive)

-- the next whole number is above
next_above : (q : Rational) (m : ℤ) → whole m ≤ℚ q → m ≤ℤ floor q
unfolding floor
next_above q m h =
    let b = quotient_next q.num q.den q.positive in
    let a : up m * q.den + down q.num * 1 ≤ up q.num * 1 + down m * q.den = le-Is (Is-whole m) (Is-self q) h in
    omega (arith, ints, lt_of_mul-lt-mul_right q.den {m = up m + down (floor q)} {n = up (floor q) + down m + 1} (omega (arith, a, b)))

pub floor_greatest : (q : Rational) → IsGreatestWhole (floor q) q
floor_greatest q = record { not_above = floor_not_above q; greatest = λ m h. next_above q m h }

-- only one whole number is the greatest
pub floor_unique : (n : ℤ) (q : Rational) → IsGreatestWhole n q → n ≡ floor q
floor_unique n q h = omega (arith, ints, h.greatest (floor q) (floor_not_above q), next_above q n h.not_above)

pub floor_whole : (n : ℤ) → floor (whole n) ≡ n
floor_whole n = sym (floor_unique n (whole n) (record { not_above = ≤ℚ_refl (whole n); greatest = λ m h. whole_cancel_≤ h }))

pub floor_mono : {q r : Rational} → q ≤ℚ r → floor q ≤ℤ floor r
floor_mono {q} {r} h = next_above r (floor q) (≤ℚ_trans (floor_not_above q) h)

below_cross : (u w f g x y d : ℕ) → u + (1 + g) * d < (f + 1 + 1) * d + w → x + g ≡ y + f + 1 → u * 1 + y * d < x * d + w * 1
below_cross u w f g x y d h e = omega (arith, h, ap (λ t. t * d) e)

-- a number is below the whole number after its floor
pub below_next : (q : Rational) → q <ℚ whole (floor q +ℤ pos 1)
unfolding floor
below_next q =
    let next : up (floor q +ℤ pos 1) + down (floor q) ≡ down (floor q +ℤ pos 1) + up (floor q) + 1 = omega (arith, sum_is_lem (floor q) (pos 1)) in
    Is-lt (Is-self q) (Is-whole (floor q +ℤ pos 1)) (below_cross _ _ _ _ _ _ q.den (quotient_next q.num q.den q.positive) next)
