-- Quotients of words, compared by products.
use Rattle.std.proofs.Common.{◌≡◌, ◌≢◌, ℕ, ◌+◌, ◌-◌, ◌*◌, ◌<◌, ◌≤◌, List, ℤ, pos, negsuc, ◌*ℤ◌, ◌<ℤ◌, ◌≤ℤ◌, Bool, true, false, arith, ap, ap₂, sym, ◌∙◌, refl}
use Rattle.std.specs.Int.Signed.{lt_z}
use Rattle.std.specs.List.{range_with_len}
use Rattle.std.proofs.lemmas.Int.{ints}
use borrow.Author.Differences.{up, down}
use Rattle.npp_frac.specs.Rational.{Rational, Is-lt, Is-le, Is-ratio, is_less, ratio, whole, times_pos, zero_ℚ, ◌/ℚ◌}
use Rattle.npp_frac.specs.Order.{≤ℚ_refl, is_less_of_<ℚ, is_less_of_≤ℚ}
use Rattle.npp_frac.specs.ZeroLaws.{zero-/ℚ}
use Rattle.npp_frac.specs.Fits.{fits_div}
use Rattle.npp_lp.specs.Programs.{at}
use Rattle.npp_simplex.specs.CommonForm.{number_in}
use Rattle.npp_simplex.specs.RowOrder.{comes_before, divided, AreWordsOf}
use Rattle.npp_simplex.proofs.CommonForms.{over_at, ratio_quotient, common_quotient, common_quotient_fits}
use Rattle.npp_simplex.proofs.RowPairs.{before_same, columns_level}

parts_below : (u v : ℤ) → u <ℤ v → up u + down v < up v + down u
parts_below u v h = omega (arith, ints, h)

parts_at_most : (u v : ℤ) → u ≤ℤ v → up u + down v ≤ up v + down u
parts_at_most u v h = omega (arith, ints, h)

module _ (x y : ℤ) (d e : ℕ) (h : 0 < d) (l : 0 < e) where
  cross_below : (x *ℤ pos e) <ℤ (y *ℤ pos d) → up x * e + down y * d < up y * d + down x * e
  cross_below less =
      let a = times_pos x e in
      let b = times_pos y d in
      let parts = parts_below (x *ℤ pos e) (y *ℤ pos d) less in
      rw a.0 at (rw a.1 at (rw b.0 at (rw b.1 at parts)))

  cross_at_most : (y *ℤ pos d) ≤ℤ (x *ℤ pos e) → up y * d + down x * e ≤ up x * e + down y * d
  cross_at_most less =
      let a = times_pos x e in
      let b = times_pos y d in
      let parts = parts_at_most (y *ℤ pos d) (x *ℤ pos e) less in
      rw a.0 at (rw a.1 at (rw b.0 at (rw b.1 at parts)))

  lower : (x *ℤ pos e) <ℤ (y *ℤ pos d) → is_less (whole x /ℚ whole (pos d)) (whole y /ℚ whole (pos e)) ≡ true
  lower less = ap₂ is_less (ratio_quotient x d h) (ratio_quotient y e l) ∙ is_less_of_<ℚ (ratio x d) (ratio y e) (Is-lt (Is-ratio x d h) (Is-ratio y e l) (cross_below less))

  not_lower : (y *ℤ pos d) ≤ℤ (x *ℤ pos e) → is_less (whole x /ℚ whole (pos d)) (whole y /ℚ whole (pos e)) ≡ false
  not_lower less = ap₂ is_less (ratio_quotient x d h) (ratio_quotient y e l) ∙ is_less_of_≤ℚ (ratio x d) (ratio y e) (Is-le (Is-ratio y e l) (Is-ratio x d h) (cross_at_most less))

  lower_test : (r : Bool) → (r ≡ true → (x *ℤ pos e) <ℤ (y *ℤ pos d)) → (r ≡ false → (y *ℤ pos d) ≤ℤ (x *ℤ pos e)) → r ≡ is_less (whole x /ℚ whole (pos d)) (whole y /ℚ whole (pos e))
  lower_test true below above = sym (lower (below refl))
  lower_test false below above = sym (not_lower (above refl))

lower_products : (x y a b : ℤ) → pos 0 <ℤ a → pos 0 <ℤ b → (r : Bool) → (r ≡ true → (x *ℤ b) <ℤ (y *ℤ a)) → (r ≡ false → (y *ℤ a) ≤ℤ (x *ℤ b)) → r ≡ is_less (whole x /ℚ whole a) (whole y /ℚ whole b)
lower_products x y (pos d) (pos e) h l = lower_test x y d e (omega (arith, ints, h)) (omega (arith, ints, l))
lower_products x y (negsuc d) b h l = absurd (omega (arith, ints, h))
lower_products x y (pos d) (negsuc e) h l = absurd (omega (arith, ints, l))

test_yes : (p q : ℤ) → lt_z p q ≡ true → p <ℤ q
test_yes p q e = grind (arith, ints)

test_no : (p q : ℤ) → lt_z p q ≡ false → q ≤ℤ p
test_no p q e = grind (arith, ints)

-- a test of the products is one of the quotients
pub lower_words : (x y a b p q : ℤ) → pos 0 <ℤ a → pos 0 <ℤ b → p ≡ x *ℤ b → q ≡ y *ℤ a → lt_z p q ≡ is_less (whole x /ℚ whole a) (whole y /ℚ whole b)
lower_words x y a b p q h l e f = ap₂ lt_z e f ∙ lower_products x y a b h l (lt_z (x *ℤ b) (y *ℤ a)) (test_yes (x *ℤ b) (y *ℤ a)) (test_no (x *ℤ b) (y *ℤ a))

-- two quotients that are 0
pub zeros_not_lower : (x y a b : ℤ) → x ≡ pos 0 → y ≡ pos 0 → false ≡ is_less (whole x /ℚ whole a) (whole y /ℚ whole b)
zeros_not_lower x y a b e f =
    let first : whole x /ℚ whole a ≡ zero_ℚ = rw e (zero-/ℚ (whole a)) in
    let second : whole y /ℚ whole b ≡ zero_ℚ = rw f (zero-/ℚ (whole b)) in
    sym (ap₂ is_less first second ∙ is_less_of_≤ℚ zero_ℚ zero_ℚ (≤ℚ_refl zero_ℚ))

-- columns in which both rows have 0 are passed over
pub zeros_passed : (xs ys : List ℤ) (a b : ℤ) (from k n e : ℕ) → k ≤ n → n ≤ e
    → ((j : ℕ) → k ≤ j → j < n → number_in xs j ≡ pos 0) → ((j : ℕ) → k ≤ j → j < n → number_in ys j ≡ pos 0)
    → comes_before (divided xs a) (divided ys b) (range_with_len from (e - from)) ≡ comes_before (divided xs a) (divided ys b) (range_with_len k (e - k))
    → comes_before (divided xs a) (divided ys b) (range_with_len from (e - from)) ≡ comes_before (divided xs a) (divided ys b) (range_with_len n (e - n))
zeros_passed xs ys a b from k n e order within first second same =
    let last : k + (n - k) ≡ n = omega (arith, order) in
    columns_level (divided xs a) (divided ys b) from e (n - k) k (omega (arith, order, within)) (λ j low high.
    let before : j < n = omega (arith, order, high) in
    (sym (zeros_not_lower (number_in xs j) (number_in ys j) a b (first j low before) (second j low before)), sym (zeros_not_lower (number_in ys j) (number_in xs j) b a (second j low before) (first j low before)))) same
    ∙ ap (λ m. comes_before (divided xs a) (divided ys b) (range_with_len m (e - m))) last

-- ---- a row of words, divided by its number in a column

module _ (m : ℕ) (xs : List ℤ) (line : List Rational) (h : AreWordsOf m xs line) (c : ℕ) (above : pos 0 <ℤ number_in xs c) where
  divisor_apart : number_in xs c ≢ pos 0
  divisor_apart e = let clash : pos 0 <ℤ pos 0 = rw e at above in omega (arith, ints, clash)

  word_at : (j : ℕ) → at line j ≡ ratio (number_in xs j) h.denominator
  word_at j = ap (λ l. at l j) (sym h.numbers) ∙ over_at h.denominator xs j h.above

  pub word_quotient_fits : (j : ℕ) → true ≡ fits_div m (at line j) (at line c)
  word_quotient_fits j =
      common_quotient_fits m (number_in xs j) (number_in xs c) h.denominator h.above divisor_apart (h.sizes j) (h.sizes c)
      ∙ ap₂ (fits_div m) (sym (word_at j)) (sym (word_at c))

  pub word_quotient : (j : ℕ) → at line j /ℚ at line c ≡ whole (number_in xs j) /ℚ whole (number_in xs c)
  word_quotient j = ap₂ ◌/ℚ◌ (word_at j) (word_at c) ∙ common_quotient (number_in xs j) (number_in xs c) h.denominator h.above divisor_apart

-- rows of words come one before the other as the rows do
pub words_order : (m : ℕ) (xs ys : List ℤ) (line other : List Rational) → AreWordsOf m xs line → AreWordsOf m ys other → (c : ℕ) → pos 0 <ℤ number_in xs c → pos 0 <ℤ number_in ys c → (keys : List ℕ)
    → comes_before (divided xs (number_in xs c)) (divided ys (number_in ys c)) keys ≡ comes_before (λ j. at line j /ℚ at line c) (λ j. at other j /ℚ at other c) keys
words_order m xs ys line other h k c above under keys =
    before_same (divided xs (number_in xs c)) (divided ys (number_in ys c)) (λ j. at line j /ℚ at line c) (λ j. at other j /ℚ at other c) (λ j. sym (word_quotient m xs line h c above j)) (λ j. sym (word_quotient m ys other k c under j)) keys
