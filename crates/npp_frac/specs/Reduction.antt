-- What a sum and a product are when common factors are taken out before the numbers grow.
use Prim.Native.Nat.{◌∣◌}
use Rattle.std.specs.Prelude.{◌≡◌, ℕ, ◌+◌, ◌*◌, ◌/◌, ◌<◌, ℤ, pos, ◌+ℤ◌, ◌*ℤ◌, nat_abs, int_div}
use Rattle.std.proofs.Common.{arith, ap, ap₂, ◌∙◌}
use Rattle.std.proofs.Math.Nat.{dvd-mul_right, div-mul_cancel, pos_of_dvd_of_pos, mul-pos}
use Rattle.std.proofs.lemmas.Int.{unsigned_abs-mul}
use borrow.Author.Differences.{up, down, product_is, sum_is_lem, quot_is}
use Rattle.npp_frac.specs.Gcd.{gcd, IsGcd-gcd, gcd-quotients, coprime_products, coprime_parts}
use Rattle.npp_frac.specs.Rational.{Rational, ratio, ◌+ℚ◌, ◌*ℚ◌, Is-self, Is-same, Is-add, Is-mul, Is-ratio, abs_quot, times_pos, parts_dvd}

sum_cross : (x y u w u' w' b d g : ℕ) → x + w * d + w' * b ≡ y + u * d + u' * b → x * ((b * g) * (d * g)) + (w * (d * g) + w' * (b * g)) * (b * (d * g)) ≡ (u * (d * g) + u' * (b * g)) * (b * (d * g)) + y * ((b * g) * (d * g))
sum_cross x y u w u' w' b d g h = omega (arith, ap (λ t. t * (b * (d * (g * g)))) h)

pub ratio-sum : (q r : Rational) (b d g : ℕ) → b * g ≡ q.den → d * g ≡ r.den → ratio (q.num *ℤ pos d +ℤ r.num *ℤ pos b) (b * r.den) ≡ q +ℚ r
ratio-sum q r b d g eb ed =
    let above_b : 0 < b = pos_of_dvd_of_pos (rw eb at (dvd-mul_right b g)) q.positive in
    let s = sum_is_lem (q.num *ℤ pos d) (r.num *ℤ pos b) in
    let x = times_pos q.num d in
    let y = times_pos r.num b in
    let t : up (q.num *ℤ pos d +ℤ r.num *ℤ pos b) + down q.num * d + down r.num * b ≡ down (q.num *ℤ pos d +ℤ r.num *ℤ pos b) + up q.num * d + up r.num * b = omega (arith, s, x, y) in
    Is-same (Is-ratio (q.num *ℤ pos d +ℤ r.num *ℤ pos b) (b * r.den) (mul-pos above_b r.positive)) (Is-add (Is-self q) (Is-self r))
    (rw (← eb, ← ed) (sum_cross _ _ _ _ _ _ b d g t))

pub quotient_pos_left : (a d : ℕ) → 0 < a → 0 < a / gcd a d
quotient_pos_left a d h =
    let e : a / gcd a d * gcd a d ≡ a = div-mul_cancel _ (IsGcd-gcd a d).0 in
    pos_of_dvd_of_pos (rw e at (dvd-mul_right (a / gcd a d) (gcd a d))) h

-- the product, with common factors taken out crosswise
pub product_reduced : (q r : Rational) → gcd (nat_abs q.num / gcd (nat_abs q.num) r.den * (nat_abs r.num / gcd (nat_abs r.num) q.den)) (q.den / gcd (nat_abs r.num) q.den * (r.den / gcd (nat_abs q.num) r.den)) ≡ 1
product_reduced q r =
    coprime_products _ _ _ _
    (coprime_parts _ _ _ _ _ _ (div-mul_cancel _ (IsGcd-gcd (nat_abs q.num) r.den).0) (div-mul_cancel _ (IsGcd-gcd (nat_abs r.num) q.den).1) q.reduced)
    (gcd-quotients (nat_abs q.num) r.den r.positive)
    (gcd-quotients (nat_abs r.num) q.den q.positive)
    (coprime_parts _ _ _ _ _ _ (div-mul_cancel _ (IsGcd-gcd (nat_abs r.num) q.den).0) (div-mul_cancel _ (IsGcd-gcd (nat_abs q.num) r.den).1) r.reduced)

product_cross : (u w u' w' b d g g' : ℕ) → (u * u' + w * w') * ((b * g') * (d * g)) + ((u * g) * (w' * g') + (w * g) * (u' * g')) * (b * d) ≡ ((u * g) * (u' * g') + (w * g) * (w' * g')) * (b * d) + (u * w' + w * u') * ((b * g') * (d * g))
product_cross u w u' w' b d g g' = omega arith

-- the parts of a whole number and its quotient by a divisor of its size
quotient_parts : (n : ℤ) (g : ℕ) → g ∣ nat_abs n → (up (int_div n (pos g)) * g ≡ up n) × (down (int_div n (pos g)) * g ≡ down n)
quotient_parts n g h =
    let p = parts_dvd n g h in
    let q = quot_is n g in
    (rw q.0 (div-mul_cancel g p.0), rw q.1 (div-mul_cancel g p.1))

by_parts : (u w u' w' b d g g' U W U' W' B D pu pw pd : ℕ) → u * g ≡ U → w * g ≡ W → u' * g' ≡ U' → w' * g' ≡ W' → b * g' ≡ B → d * g ≡ D → pu ≡ u * u' + w * w' → pw ≡ u * w' + w * u' → pd ≡ b * d → pu * (B * D) + (U * W' + W * U') * pd ≡ (U * U' + W * W') * pd + pw * (B * D)
by_parts u w u' w' b d g g' U W U' W' B D pu pw pd eU eW eU' eW' eB eD epu epw epd =
    rw (← eU, ← eW, ← eU', ← eW', ← eB, ← eD, epu, epw, epd) (product_cross u w u' w' b d g g')

pub product_value : (p q r : Rational) → p.num ≡ int_div q.num (pos (gcd (nat_abs q.num) r.den)) *ℤ int_div r.num (pos (gcd (nat_abs r.num) q.den)) → p.den ≡ q.den / gcd (nat_abs r.num) q.den * (r.den / gcd (nat_abs q.num) r.den) → p ≡ q *ℚ r
product_value p q r n d =
    let a = IsGcd-gcd (nat_abs q.num) r.den in
    let b = IsGcd-gcd (nat_abs r.num) q.den in
    let left = quotient_parts q.num (gcd (nat_abs q.num) r.den) a.0 in
    let right = quotient_parts r.num (gcd (nat_abs r.num) q.den) b.0 in
    let qd = div-mul_cancel (gcd (nat_abs r.num) q.den) b.1 in
    let rd = div-mul_cancel (gcd (nat_abs q.num) r.den) a.1 in
    let x = product_is (int_div q.num (pos (gcd (nat_abs q.num) r.den))) (int_div r.num (pos (gcd (nat_abs r.num) q.den))) in
    Is-same (Is-self p) (Is-mul (Is-self q) (Is-self r))
    (by_parts _ _ _ _ _ _ _ _ _ _ _ _ _ _ _ _ _ left.0 left.1 right.0 right.1 qd rd (ap up n ∙ x.0) (ap down n ∙ x.1) d
    )

pub abs_product : (a b : ℤ) (g h : ℕ) → nat_abs (int_div a (pos g) *ℤ int_div b (pos h)) ≡ nat_abs a / g * (nat_abs b / h)
abs_product a b g h = unsigned_abs-mul (int_div a (pos g)) (int_div b (pos h)) ∙ ap₂ ◌*◌ (abs_quot a g) (abs_quot b h)
