-- Where a quotient of whole numbers, which may have a common factor, shows that an operation fits.
use Prim.Native.Nat.{◌∣◌}
use Rattle.std.specs.Prelude.{◌≡◌, ℕ, ◌+◌, ◌*◌, ◌/◌, ◌<◌, ◌≤◌, ℤ, pos, ◌+ℤ◌, ◌-ℤ◌, ◌*ℤ◌, neg_ℤ, nat_abs, int_div, true, refl}
use Rattle.std.proofs.Common.{arith, ap, sym, subst, ◌∙◌, lt_of_le_of_lt}
use Rattle.std.proofs.Math.Nat.{div-mul_cancel, dvd-mul_left, dvd-mul_right, mul-pos, mul-le-mul, mul-dvd-mul_right, pos_of_dvd_of_pos, eq_of_mul-eq-mul_right}
use Rattle.std.proofs.lemmas.Int.{ints, unsigned_abs-mul}
use borrow.Author.Differences.{up, down, sum_is_lem, neg_is, product_is}
use Rattle.npp_frac.specs.Fits.{FitsBelow, FitsAdd, FitsMul, fits_add, fits_sub, fits_mul, fits_div}
use Rattle.npp_frac.specs.FitsLaws.{fits_add_yes, fits_mul_yes}
use Rattle.npp_frac.specs.FitsResults.{ratio_below}
use Rattle.npp_frac.specs.Gcd.{gcd, IsGcd-gcd, gcd-quotients, gcd_comm, dvd_of_coprime, dvd_of_coprime_any}
use Rattle.npp_frac.specs.Rational.{Rational, Is, Is-same, Is-ratio, Is-negative, Is-mul, Is-sub, ratio, negative, reciprocal, quotient_pos, abs_cross, times_pos, ◌-ℚ◌, ◌*ℚ◌, ◌/ℚ◌}
use Rattle.npp_frac.specs.Reduction.{product_value, product_reduced, abs_product}

-- q is n / l, whatever factors n and l have in common
pub record HasForm (q : Rational) (n : ℤ) (l : ℕ) : Type 0 where
  pub above : 0 < l
  pub value : q ≡ ratio n l

form_is : (q : Rational) (n : ℤ) (l : ℕ) → HasForm q n l → Is q (up n) (down n) l
form_is q n l f = subst (λ t. Is t (up n) (down n) l) (sym f.value) (Is-ratio n l f.above)

-- a value has numbers that are not longer than those of any of its forms
pub FitsBelow-form : (m : ℕ) (q : Rational) (n : ℤ) (l : ℕ) → HasForm q n l → nat_abs n < m → l < m → FitsBelow m q
FitsBelow-form m q n l f top bottom = subst (FitsBelow m) (sym f.value) (ratio_below m n l f.above top bottom)

-- ---- products and quotients: their numbers are those of the value

reduced_product : Rational → Rational → Rational
reduced_product q r =
    let g = gcd (nat_abs q.num) r.den in
    let h = gcd (nat_abs r.num) q.den in
    record {
      num = int_div q.num (pos g) *ℤ int_div r.num (pos h);
      den = q.den / h * (r.den / g);
      positive = mul-pos (quotient_pos (nat_abs r.num) q.den q.positive) (quotient_pos (nat_abs q.num) r.den r.positive);
      reduced = ap (λ t. gcd t (q.den / h * (r.den / g))) (abs_product q.num r.num g h) ∙ product_reduced q r;
    }

FitsMul-below : (m : ℕ) (q r : Rational) → FitsBelow m (q *ℚ r) → FitsMul m q r
unfolding reduced_product
FitsMul-below m q r f =
    let same : reduced_product q r ≡ q *ℚ r = product_value (reduced_product q r) q r refl refl in
    let below : FitsBelow m (reduced_product q r) = subst (FitsBelow m) (sym same) f in
    record { num = below.num; den = below.den }

-- a product fits where it has a form whose numbers do
pub fits_mul-form : (m : ℕ) (q r : Rational) (n : ℤ) (l : ℕ) → HasForm (q *ℚ r) n l → nat_abs n < m → l < m → true ≡ fits_mul m q r
fits_mul-form m q r n l f top bottom = fits_mul_yes m q r (FitsMul-below m q r (FitsBelow-form m (q *ℚ r) n l f top bottom))

-- and so does a quotient
pub fits_div-form : (m : ℕ) (q r : Rational) (n : ℤ) (l : ℕ) → HasForm (q /ℚ r) n l → nat_abs n < m → l < m → true ≡ fits_div m q r
unfolding fits_div ◌/ℚ◌
fits_div-form m q r n l f top bottom = fits_mul-form m q (reciprocal r) n l (record { above = f.above; value = f.value }) top bottom

-- ---- sums and differences over one denominator: their numbers are over a divisor of it

form_cross : (q : Rational) (n : ℤ) (l : ℕ) → HasForm q n l → up q.num * l + down n * q.den ≡ up n * q.den + down q.num * l
form_cross q n l f = (form_is q n l f).cross

den_dvd : (q : Rational) (n : ℤ) (l : ℕ) → HasForm q n l → q.den ∣ l
den_dvd q n l f =
    let size : nat_abs q.num * l ≡ nat_abs n * q.den = abs_cross q.num n q.den l (form_cross q n l f) in
    dvd_of_coprime q.den (nat_abs q.num) l f.above q.reduced (rw size (dvd-mul_left q.den (nat_abs n)))

-- b * d * g is the least common multiple of b * g and d * g, for coprime b and d
least_dvd : (b d g x y l : ℕ) → b * g ≡ x → d * g ≡ y → 0 < x → gcd b d ≡ 1 → x ∣ l → y ∣ l → (b * y) ∣ l
least_dvd b d g x y l ex ey above one xl yl =
    let s : l / x * x ≡ l = div-mul_cancel x xl in
    let t : l / y * y ≡ l = div-mul_cancel y yl in
    let g_above : 0 < g = pos_of_dvd_of_pos (rw ex at (dvd-mul_left g b)) above in
    let parts : l / x * b ≡ d * (l / y) = eq_of_mul-eq-mul_right g g_above _ _ (omega (arith, s, t, ap (λ z. l / x * z) ex, ap (λ z. l / y * z) ey)) in
    let left : b ∣ (d * (l / y)) = rw parts at (dvd-mul_left b (l / x)) in
    let divides : b ∣ l / y = dvd_of_coprime_any b d (l / y) (gcd_comm d b ∙ one) left in
    rw t at (mul-dvd-mul_right _ divides y)

at_most : (x k y : ℕ) → x * k ≡ y → 0 < k → x ≤ y
at_most x k y e above = let h : x * 1 ≤ x * k = mul-le-mul (omega arith) above in omega (arith, h, e)

-- a numerator over a multiple of its denominator
scaled_num : (q : Rational) (n : ℤ) (l f : ℕ) → f * q.den ≡ l → HasForm q n l → up q.num * f + down n ≡ up n + down q.num * f
scaled_num q n l f e h =
    eq_of_mul-eq-mul_right q.den q.positive _ _
    (omega (arith, form_cross q n l h, ap (λ t. up q.num * t) e, ap (λ t. down q.num * t) e))

part_size : (a n : ℤ) (d k : ℕ) → up a * (k * d) + down n ≡ up n + down a * (k * d) → nat_abs (a *ℤ pos d) * k ≡ nat_abs n
part_size a n d k e =
    let size : nat_abs a * (k * d) ≡ nat_abs n * 1 = abs_cross a n 1 (k * d) (omega (arith, e)) in
    let product : nat_abs (a *ℤ pos d) ≡ nat_abs a * d = unsigned_abs-mul a (pos d) in
    omega (arith, size, ap (λ t. t * k) product)

sum_size : (a c n o : ℤ) (b d k : ℕ) → up a * (k * d) + down n ≡ up n + down a * (k * d) → up c * (k * b) + down o ≡ up o + down c * (k * b) → nat_abs (a *ℤ pos d +ℤ c *ℤ pos b) * k ≡ nat_abs (n +ℤ o)
sum_size a c n o b d k ea ec =
    let x = times_pos a d in
    let y = times_pos c b in
    let s = sum_is_lem (a *ℤ pos d) (c *ℤ pos b) in
    let t = sum_is_lem n o in
    let small : up (a *ℤ pos d +ℤ c *ℤ pos b) + down a * d + down c * b ≡ down (a *ℤ pos d +ℤ c *ℤ pos b) + up a * d + up c * b = omega (arith, s, x, y) in
    let cross : up (a *ℤ pos d +ℤ c *ℤ pos b) * k + down (n +ℤ o) * 1 ≡ up (n +ℤ o) * 1 + down (a *ℤ pos d +ℤ c *ℤ pos b) * k = omega (arith, ap (λ z. z * k) small, t, ea, ec) in
    let size : nat_abs (a *ℤ pos d +ℤ c *ℤ pos b) * k ≡ nat_abs (n +ℤ o) * 1 = abs_cross (a *ℤ pos d +ℤ c *ℤ pos b) (n +ℤ o) 1 k cross in
    omega (arith, size)

-- a sum fits where the numerators over one denominator, their sum and the denominator do
pub FitsAdd-forms : (m : ℕ) (q r : Rational) (n o : ℤ) (l : ℕ) → HasForm q n l → HasForm r o l → l < m → nat_abs n < m → nat_abs o < m → nat_abs (n +ℤ o) < m → FitsAdd m q r
FitsAdd-forms m q r n o l left right bottom n_below o_below sum_below =
    let g = gcd q.den r.den in
    let b = q.den / gcd q.den r.den in
    let d = r.den / gcd q.den r.den in
    let both = IsGcd-gcd q.den r.den in
    let eb : b * g ≡ q.den = div-mul_cancel g both.0 in
    let ed : d * g ≡ r.den = div-mul_cancel g both.1 in
    let divides : (b * r.den) ∣ l = least_dvd b d g q.den r.den l eb ed q.positive (gcd-quotients q.den r.den r.positive) (den_dvd q n l left) (den_dvd r o l right) in
    let k = l / (b * r.den) in
    let whole : k * (b * r.den) ≡ l = div-mul_cancel (b * r.den) divides in
    let above : 0 < k = pos_of_dvd_of_pos (rw whole at (dvd-mul_right k (b * r.den))) left.above in
    let other : k * d * q.den ≡ l = omega (arith, whole, ap (λ t. k * b * t) ed, ap (λ t. k * d * t) eb) in
    let cross_q : up q.num * (k * d) + down n ≡ up n + down q.num * (k * d) = scaled_num q n l (k * d) other left in
    let cross_r : up r.num * (k * b) + down o ≡ up o + down r.num * (k * b) = scaled_num r o l (k * b) (omega (arith, whole)) right in
    record {
      left = lt_of_le_of_lt (at_most _ k _ (part_size q.num n d k cross_q) above) n_below;
      right = lt_of_le_of_lt (at_most _ k _ (part_size r.num o b k cross_r) above) o_below;
      sum = lt_of_le_of_lt (at_most _ k _ (sum_size q.num r.num n o b d k cross_q cross_r) above) sum_below;
      den = lt_of_le_of_lt (at_most (b * r.den) k l (omega (arith, whole)) above) bottom;
    }

pub fits_add-forms : (m : ℕ) (q r : Rational) (n o : ℤ) (l : ℕ) → HasForm q n l → HasForm r o l → l < m → nat_abs n < m → nat_abs o < m → nat_abs (n +ℤ o) < m → true ≡ fits_add m q r
fits_add-forms m q r n o l left right bottom n_below o_below sum_below = fits_add_yes m q r (FitsAdd-forms m q r n o l left right bottom n_below o_below sum_below)

pub HasForm-negative : (q : Rational) (n : ℤ) (l : ℕ) → HasForm q n l → HasForm (negative q) (neg_ℤ n) l
HasForm-negative q n l f =
    let e = neg_is n in
    record { above = f.above; value = Is-same (Is-negative (form_is q n l f)) (Is-ratio (neg_ℤ n) l f.above) (omega (arith, ap (λ t. t * l) e.0, ap (λ t. t * l) e.1)) }

abs_negative_form : (o : ℤ) → nat_abs (neg_ℤ o) ≡ nat_abs o
abs_negative_form o = omega (arith, ints)

-- and so does a difference
pub fits_sub-forms : (m : ℕ) (q r : Rational) (n o : ℤ) (l : ℕ) → HasForm q n l → HasForm r o l → l < m → nat_abs n < m → nat_abs o < m → nat_abs (n -ℤ o) < m → true ≡ fits_sub m q r
unfolding fits_sub
fits_sub-forms m q r n o l left right bottom n_below o_below sum_below =
    fits_add-forms m q (negative r) n (neg_ℤ o) l left (HasForm-negative r o l right) bottom n_below (rw abs_negative_form o_below) sum_below

-- ---- what the operations give of forms

pub HasForm-product : (q r : Rational) (n o : ℤ) (k l : ℕ) → HasForm q n k → HasForm r o l → HasForm (q *ℚ r) (n *ℤ o) (k * l)
HasForm-product q r n o k l left right =
    let above : 0 < k * l = mul-pos left.above right.above in
    let x = product_is n o in
    record { above = above; value = Is-same (Is-mul (form_is q n k left) (form_is r o l right)) (Is-ratio (n *ℤ o) (k * l) above) (omega (arith, ap (λ t. t * (k * l)) x.0, ap (λ t. t * (k * l)) x.1)) }

pub HasForm-difference : (q r : Rational) (n o : ℤ) (l : ℕ) → HasForm q n l → HasForm r o l → HasForm (q -ℚ r) (n -ℤ o) l
HasForm-difference q r n o l left right =
    let e = neg_is o in
    let s = sum_is_lem n (neg_ℤ o) in
    let cross : up n + down o + down (n -ℤ o) ≡ up (n -ℤ o) + down n + up o = omega (arith, s, e) in
    record { above = left.above; value = Is-same (Is-sub (form_is q n l left) (form_is r o l right)) (Is-ratio (n -ℤ o) l left.above) (omega (arith, ap (λ t. t * (l * l)) cross)) }
