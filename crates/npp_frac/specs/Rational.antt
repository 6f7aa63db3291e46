-- Rational numbers, each as the one reduced pair that stands for it, so that equality is `≡`.
use Prim.Native.Nat.{◌∣◌}
use Rattle.std.specs.Prelude.{◌≡◌, ℕ, zero, suc, ◌+◌, ◌*◌, ◌/◌, ◌<◌, ◌≤◌, refl, ℤ, pos, negsuc, ◌+ℤ◌, ◌*ℤ◌, neg_ℤ, nat_abs, ◌≤ℤ◌, ◌<ℤ◌, int_div, int_lt, cond, Bool}
use Rattle.std.proofs.Common.{Ordering, int_cmp, arith, ap, ◌∙◌, lit<}
use Rattle.std.proofs.Math.Nat.{ℕ_set, dvd_antisymm, dvd-mul_left, dvd-mul_right, dvd-zero, eq_of_mul-eq-mul_right, le_of_mul-le-mul_right, div-mul_cancel, pos_of_dvd_of_pos, mul-le-mul_right, mul-pos, lt_of_mul-lt-mul_right, mul-lt-mul_of_pos_right}
use Rattle.std.proofs.Math.Bridge.{le_prop}
use mathlib.Core.HLevel.{is_prop→PathP}
use borrow.Author.Differences.{up, down, same_in, product_is, sum_is_lem, neg_is, quot_is}
use Rattle.std.proofs.lemmas.Int.{ints}
use Rattle.npp_frac.specs.Gcd.{gcd, IsGcd-gcd, gcd-quotients, dvd_of_coprime, gcd-zero_one}

-- num / den, without a common factor
pub record Rational : Type 0 where
  pub num : ℤ
  pub den : ℕ
  pub positive : 0 < den
  pub reduced : gcd (nat_abs num) den ≡ 1

pub same_fields : (p q : Rational) → p.num ≡ q.num → p.den ≡ q.den → p ≡ q
same_fields p q e f = λ i. record {
  num = e i;
  den = f i;
  positive = is_prop→PathP (λ j. 0 < f j) (λ j. le_prop) p.positive q.positive i;
  reduced = is_prop→PathP (λ j. gcd (nat_abs (e j)) (f j) ≡ 1) (λ j. ℕ_set _ _) p.reduced q.reduced i;
}

pub abs_cross : (a b : ℤ) (x y : ℕ) → up a * y + down b * x ≡ up b * x + down a * y → nat_abs a * y ≡ nat_abs b * x
abs_cross (pos a) (pos b) x y h = omega arith
abs_cross (pos a) (negsuc b) x y h = let e : a * y + suc b * x ≡ 0 = omega arith in omega (arith, e)
abs_cross (negsuc a) (pos b) x y h = omega arith
abs_cross (negsuc a) (negsuc b) x y h = omega arith

-- two reduced pairs that are equal as fractions are one
pub same_from_cross : (p q : Rational) → up p.num * q.den + down q.num * p.den ≡ up q.num * p.den + down p.num * q.den → p ≡ q
same_from_cross p q h =
    let abs : nat_abs p.num * q.den ≡ nat_abs q.num * p.den = abs_cross p.num q.num p.den q.den h in
    let pq : p.den ∣ (nat_abs p.num * q.den) = rw abs (dvd-mul_left p.den (nat_abs q.num)) in
    let qp : q.den ∣ (nat_abs q.num * p.den) = rw (← abs) (dvd-mul_left q.den (nat_abs p.num)) in
    let dens : p.den ≡ q.den =
    dvd_antisymm (dvd_of_coprime p.den (nat_abs p.num) q.den q.positive p.reduced pq) (dvd_of_coprime q.den (nat_abs q.num) p.den p.positive q.reduced qp) in
    let flat : (up p.num + down q.num) * q.den ≡ (up q.num + down p.num) * q.den =
    omega (arith, h, ap (λ t. down q.num * t) dens, ap (λ t. up q.num * t) dens) in
    same_fields p q (same_in p.num q.num (eq_of_mul-eq-mul_right q.den q.positive _ _ flat)) dens

-- q equals (p - n) / d
pub record Is (q : Rational) (p n d : ℕ) : Type 0 where
  pub above : 0 < d
  pub cross : up q.num * d + n * q.den ≡ p * q.den + down q.num * d

pub Is-self : (q : Rational) → Is q (up q.num) (down q.num) q.den
Is-self q = record { above = q.positive; cross = omega arith }

pub Is-same : {q r : Rational} {p n d p' n' d' : ℕ} → Is q p n d → Is r p' n' d' → p * d' + n' * d ≡ p' * d + n * d' → q ≡ r
Is-same {q} {r} {p} {n} {d} {p'} {n'} {d'} a b h =
    let dd : 0 < d * d' = mul-pos a.above b.above in
    same_from_cross q r (eq_of_mul-eq-mul_right (d * d') dd _ _
    (omega (arith, ap (λ t. t * (r.den * d')) a.cross, ap (λ t. t * (q.den * d)) b.cross, ap (λ t. t * (q.den * r.den)) h)))

infix 50 ◌≤ℚ◌
pub record ◌≤ℚ◌ (q r : Rational) : Type 0 where
  pub cross : (q.num *ℤ pos r.den) ≤ℤ (r.num *ℤ pos q.den)

cross_out : (q r : Rational) → q ≤ℚ r → up q.num * r.den + down r.num * q.den ≤ up r.num * q.den + down q.num * r.den
cross_out q r h = omega (arith, ints, h.cross)

cross_in : (q r : Rational) → up q.num * r.den + down r.num * q.den ≤ up r.num * q.den + down q.num * r.den → q ≤ℚ r
cross_in q r h = record { cross = omega (arith, ints, h) }

pub Is-le : {q r : Rational} {p n d p' n' d' : ℕ} → Is q p n d → Is r p' n' d' → p * d' + n' * d ≤ p' * d + n * d' → q ≤ℚ r
Is-le {q} {r} {p} {n} {d} {p'} {n'} {d'} a b h =
    let dd : 0 < d * d' = mul-pos a.above b.above in
    cross_in q r (le_of_mul-le-mul_right
    (omega (arith, ap (λ t. t * (r.den * d')) a.cross, ap (λ t. t * (q.den * d)) b.cross, mul-le-mul_right (q.den * r.den) h)) dd)

pub le-Is : {q r : Rational} {p n d p' n' d' : ℕ} → Is q p n d → Is r p' n' d' → q ≤ℚ r → p * d' + n' * d ≤ p' * d + n * d'
le-Is {q} {r} {p} {n} {d} {p'} {n'} {d'} a b h =
    let ee : 0 < q.den * r.den = mul-pos q.positive r.positive in
    le_of_mul-le-mul_right
    (omega (arith, ap (λ t. t * (r.den * d')) a.cross, ap (λ t. t * (q.den * d)) b.cross, mul-le-mul_right (d * d') (cross_out q r h))) ee

infix 50 ◌<ℚ◌
pub record ◌<ℚ◌ (q r : Rational) : Type 0 where
  pub cross : (q.num *ℤ pos r.den) <ℤ (r.num *ℤ pos q.den)

below_out : (q r : Rational) → q <ℚ r → up q.num * r.den + down r.num * q.den < up r.num * q.den + down q.num * r.den
below_out q r h = omega (arith, ints, h.cross)

below_in : (q r : Rational) → up q.num * r.den + down r.num * q.den < up r.num * q.den + down q.num * r.den → q <ℚ r
below_in q r h = record { cross = omega (arith, ints, h) }

pub Is-lt : {q r : Rational} {p n d p' n' d' : ℕ} → Is q p n d → Is r p' n' d' → p * d' + n' * d < p' * d + n * d' → q <ℚ r
Is-lt {q} {r} {p} {n} {d} {p'} {n'} {d'} a b h =
    below_in q r (lt_of_mul-lt-mul_right (d * d')
    (omega (arith, ap (λ t. t * (r.den * d')) a.cross, ap (λ t. t * (q.den * d)) b.cross, mul-lt-mul_of_pos_right h (mul-pos q.positive r.positive))))

pub lt-Is : {q r : Rational} {p n d p' n' d' : ℕ} → Is q p n d → Is r p' n' d' → q <ℚ r → p * d' + n' * d < p' * d + n * d'
lt-Is {q} {r} {p} {n} {d} {p'} {n'} {d'} a b h =
    lt_of_mul-lt-mul_right (q.den * r.den)
    (omega (arith, ap (λ t. t * (r.den * d')) a.cross, ap (λ t. t * (q.den * d)) b.cross, mul-lt-mul_of_pos_right (below_out q r h) (mul-pos a.above b.above)))

pub abs_neg : (k : ℕ) → nat_abs (neg_ℤ (pos k)) ≡ k
abs_neg zero = refl
abs_neg (suc k) = refl

pub abs_quot : (n : ℤ) (g : ℕ) → nat_abs (int_div n (pos g)) ≡ nat_abs n / g
abs_quot (pos a) g = refl
abs_quot (negsuc a) g = abs_neg (suc a / g)

pub quotient_pos : (a d : ℕ) → 0 < d → 0 < d / gcd a d
quotient_pos a d h =
    let e : d / gcd a d * gcd a d ≡ d = div-mul_cancel _ (IsGcd-gcd a d).1 in
    pos_of_dvd_of_pos (rw e at (dvd-mul_right (d / gcd a d) (gcd a d))) h

-- the reduced pair of n / d, and 0 where d is 0
unfoldable pub ratio : ℤ → ℕ → Rational
ratio n zero = record { num = pos 0; den = 1; positive = lit< tt; reduced = gcd-zero_one }
ratio n (suc d) = record {
  num = int_div n (pos (gcd (nat_abs n) (suc d)));
  den = suc d / gcd (nat_abs n) (suc d);
  positive = quotient_pos (nat_abs n) (suc d) (omega arith);
  reduced = ap (λ t. gcd t (suc d / gcd (nat_abs n) (suc d))) (abs_quot n _) ∙ gcd-quotients (nat_abs n) (suc d) (omega arith);
}

pub ratio_fields : (n : ℤ) (d : ℕ) → 0 < d → ((ratio n d).num ≡ int_div n (pos (gcd (nat_abs n) d))) × ((ratio n d).den ≡ d / gcd (nat_abs n) d)
unfolding ratio
ratio_fields n zero h = absurd (omega arith)
ratio_fields n (suc d) h = (refl, refl)

pub parts_dvd : (n : ℤ) (g : ℕ) → g ∣ nat_abs n → (g ∣ up n) × (g ∣ down n)
parts_dvd (pos a) g h = (h, dvd-zero g)
parts_dvd (negsuc a) g h = (dvd-zero g, h)

quotients_cross : (d u w d' u' w' g : ℕ) → d' * g ≡ d → u' * g ≡ u → w' * g ≡ w → u' * d + w * d' ≡ u * d' + w' * d
quotients_cross d u w d' u' w' g ed eu ew = omega (arith, ap (λ t. u' * t) ed, ap (λ t. w' * t) ed, ap (λ t. d' * t) eu, ap (λ t. d' * t) ew)

pub Is-ratio : (n : ℤ) (d : ℕ) → 0 < d → Is (ratio n d) (up n) (down n) d
unfolding ratio
Is-ratio n zero h = absurd (omega arith)
Is-ratio n (suc d) h =
    let g : ℕ = gcd (nat_abs n) (suc d) in
    let both = IsGcd-gcd (nat_abs n) (suc d) in
    let parts = parts_dvd n (gcd (nat_abs n) (suc d)) both.0 in
    let ed : suc d / gcd (nat_abs n) (suc d) * gcd (nat_abs n) (suc d) ≡ suc d = div-mul_cancel _ both.1 in
    let eu : up n / gcd (nat_abs n) (suc d) * gcd (nat_abs n) (suc d) ≡ up n = div-mul_cancel _ parts.0 in
    let ew : down n / gcd (nat_abs n) (suc d) * gcd (nat_abs n) (suc d) ≡ down n = div-mul_cancel _ parts.1 in
    let q = quot_is n (gcd (nat_abs n) (suc d)) in
    record { above = h; cross = rw (q.0, q.1) (quotients_cross _ _ _ _ _ _ _ ed eu ew) }

infixl 6 ◌+ℚ◌
unfoldable pub ◌+ℚ◌ : Rational → Rational → Rational
q +ℚ r = ratio (q.num *ℤ pos r.den +ℤ r.num *ℤ pos q.den) (q.den * r.den)

infixl 7 ◌*ℚ◌
unfoldable pub ◌*ℚ◌ : Rational → Rational → Rational
q *ℚ r = ratio (q.num *ℤ r.num) (q.den * r.den)

Is-move : {q : Rational} {p n d p' n' d' : ℕ} → Is q p n d → p + n' ≡ p' + n → d ≡ d' → Is q p' n' d'
Is-move {q} {p} {n} {d} {p'} {n'} {d'} a e f = record {
  above = rw f at a.above;
  cross = omega (arith, a.cross, ap (λ t. t * q.den) e, ap (λ t. up q.num * t) f, ap (λ t. down q.num * t) f);
}

-- from one pair to another that is equal as a fraction
pub Is-equal : {q : Rational} {p n d p' n' d' : ℕ} → Is q p n d → 0 < d' → p * d' + n' * d ≡ p' * d + n * d' → Is q p' n' d'
Is-equal {q} {p} {n} {d} {p'} {n'} {d'} a pos' e = record {
  above = pos';
  cross = eq_of_mul-eq-mul_right d a.above _ _ (omega (arith, ap (λ t. t * d') a.cross, ap (λ t. t * q.den) e));
}

pub times_pos : (a : ℤ) (n : ℕ) → (up (a *ℤ pos n) ≡ up a * n) × (down (a *ℤ pos n) ≡ down a * n)
times_pos a n = let x = product_is a (pos n) in (omega (arith, x), omega (arith, x))

add_cross : (u w e p n d u' w' e' p' n' d' x y : ℕ) → u * d + n * e ≡ p * e + w * d → u' * d' + n' * e' ≡ p' * e' + w' * d' → x + w * e' + w' * e ≡ y + u * e' + u' * e → x * (d * d') + (n * d' + n' * d) * (e * e') ≡ (p * d' + p' * d) * (e * e') + y * (d * d')
add_cross u w e p n d u' w' e' p' n' d' x y a b t = omega (arith, ap (λ z. z * (d' * e')) a, ap (λ z. z * (d * e)) b, ap (λ z. z * (d * d')) t)

mul_cross : (u w e p n d u' w' e' p' n' d' : ℕ) → u * d + n * e ≡ p * e + w * d → u' * d' + n' * e' ≡ p' * e' + w' * d' → (u * u' + w * w') * (d * d') + (p * n' + n * p') * (e * e') ≡ (p * p' + n * n') * (e * e') + (u * w' + w * u') * (d * d')
mul_cross u w e p n d u' w' e' p' n' d' a b = omega (arith, ap (λ z. z * (u' * d')) a, ap (λ z. z * (w' * d')) a, ap (λ z. z * (p * e)) b, ap (λ z. z * (n * e)) b)

pub Is-add : {q r : Rational} {p n d p' n' d' : ℕ} → Is q p n d → Is r p' n' d' → Is (q +ℚ r) (p * d' + p' * d) (n * d' + n' * d) (d * d')
unfolding ◌+ℚ◌
Is-add {q} {r} {p} {n} {d} {p'} {n'} {d'} a b =
    Is-equal (Is-ratio (q.num *ℤ pos r.den +ℤ r.num *ℤ pos q.den) (q.den * r.den) (mul-pos q.positive r.positive)) (mul-pos a.above b.above)
    (let s = sum_is_lem (q.num *ℤ pos r.den) (r.num *ℤ pos q.den) in
    let x : (up (q.num *ℤ pos r.den) ≡ up q.num * r.den) × (down (q.num *ℤ pos r.den) ≡ down q.num * r.den) = times_pos q.num r.den in
    let y : (up (r.num *ℤ pos q.den) ≡ up r.num * q.den) × (down (r.num *ℤ pos q.den) ≡ down r.num * q.den) = times_pos r.num q.den in
    let t : up (q.num *ℤ pos r.den +ℤ r.num *ℤ pos q.den) + down q.num * r.den + down r.num * q.den ≡ down (q.num *ℤ pos r.den +ℤ r.num *ℤ pos q.den) + up q.num * r.den + up r.num * q.den = omega (arith, s, x, y) in
    add_cross _ _ _ _ _ _ _ _ _ _ _ _ _ _ a.cross b.cross t)

pub Is-mul : {q r : Rational} {p n d p' n' d' : ℕ} → Is q p n d → Is r p' n' d' → Is (q *ℚ r) (p * p' + n * n') (p * n' + n * p') (d * d')
unfolding ◌*ℚ◌
Is-mul {q} {r} {p} {n} {d} {p'} {n'} {d'} a b =
    Is-equal (Is-ratio (q.num *ℤ r.num) (q.den * r.den) (mul-pos q.positive r.positive)) (mul-pos a.above b.above)
    (rw (product_is q.num r.num).0 (rw (product_is q.num r.num).1 (mul_cross _ _ _ _ _ _ _ _ _ _ _ _ a.cross b.cross)))

unfoldable pub whole : ℤ → Rational
whole n = ratio n 1

abs_negative : (n : ℤ) → nat_abs (neg_ℤ n) ≡ nat_abs n
abs_negative (pos zero) = refl
abs_negative (pos (suc n)) = refl
abs_negative (negsuc n) = refl

pub negative_reduced : (q : Rational) → gcd (nat_abs (neg_ℤ q.num)) q.den ≡ 1
negative_reduced q = ap (λ t. gcd t q.den) (abs_negative q.num) ∙ q.reduced

unfoldable pub negative : Rational → Rational
negative q = record { num = neg_ℤ q.num; den = q.den; positive = q.positive; reduced = negative_reduced q }

pub Is-negative : {q : Rational} {p n d : ℕ} → Is q p n d → Is (negative q) n p d
unfolding negative
Is-negative {q} {p} {n} {d} a = let e = neg_is q.num in record { above = a.above; cross = omega (arith, e, a.cross, ap (λ t. t * d) e.0, ap (λ t. t * d) e.1) }

infixl 6 ◌-ℚ◌
unfoldable pub ◌-ℚ◌ : Rational → Rational → Rational
q -ℚ r = q +ℚ negative r

pub Is-sub : {q r : Rational} {p n d p' n' d' : ℕ} → Is q p n d → Is r p' n' d' → Is (q -ℚ r) (p * d' + n' * d) (n * d' + p' * d) (d * d')
unfolding ◌-ℚ◌
Is-sub a b = Is-add a (Is-negative b)

pub Is-whole : (n : ℤ) → Is (whole n) (up n) (down n) 1
unfolding whole
Is-whole n = Is-ratio n 1 (omega arith)

-- the reciprocal, and 0 at 0
unfoldable pub reciprocal : Rational → Rational
reciprocal q = ratio (cond (int_lt q.num (pos 0)) (neg_ℤ (pos q.den)) (pos q.den)) (nat_abs q.num)

infixl 7 ◌/ℚ◌
unfoldable pub ◌/ℚ◌ : Rational → Rational → Rational
q /ℚ r = q *ℚ reciprocal r

-- the order, as the program answers it
unfoldable pub rational_cmp : Rational → Rational → Ordering
rational_cmp q r = int_cmp (q.num *ℤ pos r.den) (r.num *ℤ pos q.den)

-- whether the first is below the second
unfoldable pub is_less : Rational → Rational → Bool
is_less q r = int_lt (q.num *ℤ pos r.den) (r.num *ℤ pos q.den)

abbrev pub zero_ℚ : Rational
zero_ℚ = whole (pos 0)

abbrev pub one_ℚ : Rational
one_ℚ = whole (pos 1)

-- a pair without a common factor is the quotient of its numbers
pub ratio_value : (p : Rational) (n : ℤ) (d : ℕ) → p.num ≡ n → p.den ≡ d → p ≡ ratio n d
ratio_value p n d e f =
    let above : 0 < d = rw f at p.positive in
    Is-same (Is-self p) (Is-ratio n d above) (omega (arith, ap (λ t. up t * d) e, ap (λ t. down t * d) e, ap (λ t. up n * t) f, ap (λ t. down n * t) f))

pub whole_value : (p : Rational) (n : ℤ) → p.num ≡ n → p.den ≡ 1 → p ≡ whole n
unfolding whole
whole_value p n e f = ratio_value p n 1 e f
