-- Whole numbers over one denominator: what quotients, products and differences of them are, and that they fit.
use Rattle.std.specs.Prelude.{int_div}
use Rattle.std.proofs.Common.{◌≡◌, ◌≢◌, ℕ, zero, suc, ◌+◌, ◌*◌, ◌/◌, ◌%◌, ◌<◌, ◌≤◌, List, [], ◌∷◌, ℤ, pos, negsuc, ◌-ℤ◌, ◌*ℤ◌, neg_ℤ, nat_abs, true, arith, ap, ap₂, sym, ◌∙◌, refl, lt_of_le_of_lt}
use Rattle.std.proofs.Math.Nat.{mul-pos}
use Rattle.std.proofs.lemmas.Int.{ints, unsigned_abs-mul}
use Rattle.std.proofs.lemmas.Nat.Gcd.{dvd_of_mod-eq-zero, mod-eq-zero_of_dvd, dvd_trans}
use borrow.Author.Differences.{up, down, same_in, neg_is, product_is, quot_is}
use Rattle.npp_frac.specs.Rational.{Is-same, Is-ratio, Is-whole, Is-mul, ratio, whole, zero_ℚ, times_pos, ◌-ℚ◌, ◌*ℚ◌, ◌/ℚ◌}
use Rattle.npp_frac.specs.Ring.{zero-*ℚ, *ℚ_assoc}
use Rattle.npp_frac.specs.Order.{whole_injective}
use Rattle.npp_frac.specs.Sign.{nonzero_of_whole}
use Rattle.npp_frac.specs.Division.{/ℚ-*ℚ, /ℚ_unique}
use Rattle.npp_frac.specs.Fits.{fits_div}
use Rattle.npp_frac.specs.AnyForm.{HasForm, fits_mul-form, fits_div-form, fits_sub-forms, HasForm-product, HasForm-difference}
use Rattle.npp_lp.specs.Programs.{at}
use Rattle.npp_simplex.specs.Places.{fits_less_product}
use Rattle.npp_simplex.specs.CommonForm.{number_in, over, turned}
use Rattle.npp_simplex.proofs.Zeros.{both_true}

-- ---- one number

ratio_zero : (d : ℕ) → 0 < d → ratio (pos 0) d ≡ zero_ℚ
ratio_zero d h = Is-same (Is-ratio (pos 0) d h) (Is-whole (pos 0)) (omega arith)

pub over_at : (d : ℕ) (xs : List ℤ) (j : ℕ) → 0 < d → at (over d xs) j ≡ ratio (number_in xs j) d
over_at d [] j h = sym (ratio_zero d h)
over_at d (x ∷ xs) zero h = refl
over_at d (x ∷ xs) (suc j) h = over_at d xs j h

-- ---- other forms of one number

pub ratio_scaled : (x : ℤ) (d k : ℕ) → 0 < d → 0 < k → ratio (x *ℤ pos k) (d * k) ≡ ratio x d
ratio_scaled x d k h l =
    let e = times_pos x k in
    Is-same (Is-ratio (x *ℤ pos k) (d * k) (mul-pos h l)) (Is-ratio x d h) (omega (arith, ap (λ t. t * d) e.0, ap (λ t. t * d) e.1))

whole_part : (a g : ℕ) → 0 < g → a % g ≡ 0 → a / g * g ≡ a
whole_part a g h e = omega arith

none_left : (g : ℕ) → 0 < g → 0 % g ≡ 0
none_left g h = omega arith

parts_whole : (x : ℤ) (g : ℕ) → 0 < g → nat_abs x % g ≡ 0 → (up x / g * g ≡ up x) × (down x / g * g ≡ down x)
parts_whole (pos a) g h e = (whole_part a g h e, whole_part 0 g h (none_left g h))
parts_whole (negsuc a) g h e = (whole_part 0 g h (none_left g h), whole_part (suc a) g h e)

pub quotient_times : (x : ℤ) (g : ℕ) → 0 < g → nat_abs x % g ≡ 0 → int_div x (pos g) *ℤ pos g ≡ x
quotient_times x g h e =
    let q = quot_is x g in
    let t = times_pos (int_div x (pos g)) g in
    let parts = parts_whole x g h e in
    same_in _ _ (omega (arith, t.0, t.1, ap (λ z. z * g) q.0, ap (λ z. z * g) q.1, parts.0, parts.1))

-- a multiple of a number, with the factor that both have moved
pub cleared : (x : ℤ) (d g : ℕ) → 0 < g → nat_abs x % g ≡ 0 → d % g ≡ 0 → int_div x (pos g) *ℤ pos d ≡ x *ℤ pos (d / g)
cleared x d g h e f =
    let q : ℤ = int_div x (pos g) in
    let is : int_div x (pos g) *ℤ pos g ≡ x = quotient_times x g h e in
    let part : d / g * g ≡ d = whole_part d g h f in
    let a = times_pos (int_div x (pos g)) d in
    let b = times_pos x (d / g) in
    let t = times_pos (int_div x (pos g)) g in
    same_in _ _ (omega (arith, a.0, a.1, b.0, b.1, ap (λ z. z * (d / g)) t.0, ap (λ z. z * (d / g)) t.1, ap (λ z. up z * (d / g)) is, ap (λ z. down z * (d / g)) is, ap (λ z. up (int_div x (pos g)) * z) part, ap (λ z. down (int_div x (pos g)) * z) part))

pub part_above : (q g d : ℕ) → q * g ≡ d → 0 < d → 0 < q
part_above zero g d e h = absurd (omega arith)
part_above (suc q) g d e h = omega arith

pub quotient_above : (d g : ℕ) → 0 < d → 0 < g → d % g ≡ 0 → 0 < d / g
quotient_above d g h l e = part_above (d / g) g d (whole_part d g l e) h

pub ratio_divided : (x : ℤ) (d g : ℕ) → 0 < d → 0 < g → nat_abs x % g ≡ 0 → d % g ≡ 0 → ratio (int_div x (pos g)) (d / g) ≡ ratio x d
ratio_divided x d g h l e f =
    let whole_d : d / g * g ≡ d = whole_part d g l f in
    let above : 0 < d / g = part_above (d / g) g d whole_d h in
    sym (ratio_scaled (int_div x (pos g)) (d / g) g above l) ∙ ap₂ ratio (quotient_times x g l e) whole_d

-- ---- quotients

pos_nonzero : (d : ℕ) → 0 < d → pos d ≢ pos 0
pos_nonzero d h e = let k : d ≡ 0 = ap nat_abs e in omega arith

pub whole_nonzero : (y : ℤ) → y ≢ pos 0 → whole y ≢ zero_ℚ
whole_nonzero y h = nonzero_of_whole (whole y) y refl h

times_denominator : (x : ℤ) (d : ℕ) → 0 < d → ratio x d *ℚ whole (pos d) ≡ whole x
times_denominator x d h = Is-same (Is-mul (Is-ratio x d h) (Is-whole (pos d))) (Is-whole x) (omega arith)

pub ratio_quotient : (x : ℤ) (d : ℕ) → 0 < d → whole x /ℚ whole (pos d) ≡ ratio x d
ratio_quotient x d h = sym (/ℚ_unique (whole_nonzero (pos d) (pos_nonzero d h)) (times_denominator x d h))

pub zero_of_ratio : (x : ℤ) (d : ℕ) → 0 < d → ratio x d ≡ zero_ℚ → x ≡ pos 0
zero_of_ratio x d h e = whole_injective (sym (times_denominator x d h) ∙ ap (λ q. q *ℚ whole (pos d)) e ∙ zero-*ℚ (whole (pos d)))

pub ratio_of_zero : (x : ℤ) (d : ℕ) → 0 < d → x ≡ pos 0 → ratio x d ≡ zero_ℚ
ratio_of_zero x d h e = ap (λ t. ratio t d) e ∙ ratio_zero d h

pub ratio_nonzero : (y : ℤ) (d : ℕ) → 0 < d → y ≢ pos 0 → ratio y d ≢ zero_ℚ
ratio_nonzero y d h apart e = apart (zero_of_ratio y d h e)

-- the denominator falls away
pub common_quotient : (x y : ℤ) (d : ℕ) → 0 < d → y ≢ pos 0 → ratio x d /ℚ ratio y d ≡ whole x /ℚ whole y
unfolding ◌/ℚ◌
common_quotient x y d h apart =
    let s = whole x /ℚ whole y in
    sym (/ℚ_unique {q = ratio x d} {r = ratio y d} {s = whole x /ℚ whole y} (ratio_nonzero y d h apart)
    (ap (λ t. s *ℚ t) (sym (ratio_quotient y d h)) ∙ sym (*ℚ_assoc s (whole y) _) ∙ ap (λ t. t /ℚ whole (pos d)) (/ℚ-*ℚ (whole x) (whole y) (whole_nonzero y apart)) ∙ ratio_quotient x d h))

pub turned_size : (x y : ℤ) → nat_abs (turned x y) ≡ nat_abs x
turned_size x (pos b) = refl
turned_size x (negsuc b) = omega (arith, ints)

turned_product : (x : ℤ) (b : ℕ) → ratio (neg_ℤ x) (suc b) *ℚ whole (negsuc b) ≡ whole x
turned_product x b =
    let e = neg_is x in
    Is-same (Is-mul (Is-ratio (neg_ℤ x) (suc b) (omega arith)) (Is-whole (negsuc b))) (Is-whole x)
    (omega (arith, ap (λ t. t * suc b) e.0, ap (λ t. t * suc b) e.1))

pub whole_quotient_form : (x y : ℤ) → y ≢ pos 0 → HasForm (whole x /ℚ whole y) (turned x y) (nat_abs y)
whole_quotient_form x (pos zero) apart = absurd (apart refl)
whole_quotient_form x (pos (suc b)) apart = record { above = omega arith; value = ratio_quotient x (suc b) (omega arith) }
whole_quotient_form x (negsuc b) apart = record { above = omega arith; value = sym (/ℚ_unique (whole_nonzero (negsuc b) apart) (turned_product x b)) }

pub whole_quotient_fits : (m : ℕ) (x y : ℤ) → y ≢ pos 0 → nat_abs x < m → nat_abs y < m → true ≡ fits_div m (whole x) (whole y)
whole_quotient_fits m x y apart top bottom = fits_div-form m (whole x) (whole y) (turned x y) (nat_abs y) (whole_quotient_form x y apart) (rw (turned_size x y) top) bottom

pub common_quotient_fits : (m : ℕ) (x y : ℤ) (d : ℕ) → 0 < d → y ≢ pos 0 → nat_abs x < m → nat_abs y < m → true ≡ fits_div m (ratio x d) (ratio y d)
common_quotient_fits m x y d h apart top bottom =
    let form = whole_quotient_form x y apart in
    fits_div-form m (ratio x d) (ratio y d) (turned x y) (nat_abs y) (record { above = form.above; value = common_quotient x y d h apart ∙ form.value }) (rw (turned_size x y) top) bottom

pub common_quotient_is : (x y : ℤ) (d : ℕ) → 0 < d → y ≢ pos 0 → ratio x d /ℚ ratio y d ≡ ratio (turned x y) (nat_abs y)
common_quotient_is x y d h apart = let form = whole_quotient_form x y apart in common_quotient x y d h apart ∙ form.value

-- ---- differences of products

swap_factor : (f z : ℤ) (p : ℕ) → (f *ℤ pos p) *ℤ z ≡ (f *ℤ z) *ℤ pos p
swap_factor f z p =
    let a = times_pos f p in
    let b = product_is (f *ℤ pos p) z in
    let c = product_is f z in
    let d = times_pos (f *ℤ z) p in
    same_in _ _ (omega (arith, b.0, b.1, d.0, d.1, ap (λ t. t * p) c.0, ap (λ t. t * p) c.1, ap (λ t. t * up z) a.0, ap (λ t. t * down z) a.0, ap (λ t. t * up z) a.1, ap (λ t. t * down z) a.1))

pub size_less : (x w : ℤ) → nat_abs (x -ℤ w) ≤ nat_abs x + nat_abs w
size_less x w = omega (arith, ints)

self_form : (x : ℤ) (d : ℕ) → 0 < d → HasForm (ratio x d) x d
self_form x d h = record { above = h; value = refl }

module _ (y z f : ℤ) (d p : ℕ) (h : 0 < d) (l : 0 < p) (e : f *ℤ pos p ≡ y) where
  product_form : HasForm (ratio y d *ℚ ratio z p) (f *ℤ z) d
  product_form =
      let form : HasForm (ratio y d *ℚ ratio z p) (y *ℤ z) (d * p) = HasForm-product (ratio y d) (ratio z p) y z d p (self_form y d h) (self_form z p l) in
      record { above = h; value = form.value ∙ ap (λ t. ratio t (d * p)) (ap (λ t. t *ℤ z) (sym e) ∙ swap_factor f z p) ∙ ratio_scaled (f *ℤ z) d p h l }

  pub less_form : (x : ℤ) → ratio x d -ℚ ratio y d *ℚ ratio z p ≡ ratio (x -ℤ f *ℤ z) d
  less_form x = let form : HasForm (ratio x d -ℚ ratio y d *ℚ ratio z p) (x -ℤ f *ℤ z) d = HasForm-difference (ratio x d) (ratio y d *ℚ ratio z p) x (f *ℤ z) d (self_form x d h) product_form in form.value

  pub less_fits : (m : ℕ) (x : ℤ) → nat_abs x + nat_abs f * nat_abs z < m → d < m → true ≡ fits_less_product m (ratio x d) (ratio y d) (ratio z p)
  less_fits m x top bottom =
      let size : nat_abs (f *ℤ z) ≡ nat_abs f * nat_abs z = unsigned_abs-mul f z in
      let difference : nat_abs (x -ℤ f *ℤ z) ≤ nat_abs x + nat_abs (f *ℤ z) = size_less x (f *ℤ z) in
      both_true _ _ (fits_mul-form m (ratio y d) (ratio z p) (f *ℤ z) d product_form (omega arith) bottom)
      (fits_sub-forms m (ratio x d) (ratio y d *ℚ ratio z p) x (f *ℤ z) d (self_form x d h) product_form bottom (omega arith) (omega arith) (omega arith))

factor_at_most : (q g d : ℕ) → q * g ≡ d → 0 < d → g ≤ d
factor_at_most zero g d e h = absurd (omega arith)
factor_at_most (suc q) g d e h = omega arith

-- a factor is at most what it divides
pub factor_below : (m g d : ℕ) → 0 < g → 0 < d → d % g ≡ 0 → d < m → g < m
factor_below m g d h l e below = let part = whole_part d g h e in lt_of_le_of_lt (factor_at_most (d / g) g d part l) below

-- a factor of a factor
pub factor_through : (n f g : ℕ) → n % f ≡ 0 → f % g ≡ 0 → n % g ≡ 0
factor_through n f g e h = mod-eq-zero_of_dvd g (dvd_trans g (dvd_of_mod-eq-zero g h) (dvd_of_mod-eq-zero f e))
