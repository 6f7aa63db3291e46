-- A row of the tableau and the two forms in which it may lie in memory.
use Rattle.std.proofs.Common.{◌≡◌, ◌≢◌, ℕ, ◌+◌, ◌*◌, ◌-◌, ◌^◌, ◌<◌, ◌≤◌, List, length, Bool, true, false, cond, ℤ, pos, ◌-ℤ◌, ◌*ℤ◌, ◌<ℤ◌, ◌≤ℤ◌, nat_abs, not, arith, ap, ap₂, sym, ◌∙◌, refl, subst, lt_of_le_of_lt, lt_of_lt_of_le, inl, inr}
use Rattle.std.specs.List.{range_with_len}
use Rattle.std.specs.Ordering.{int_eq}
use Rattle.std.proofs.Math.Nat.{mul-le-mul, mul-pos}
use Rattle.std.proofs.lemmas.List.{length-map}
use Rattle.std.proofs.lemmas.Int.{ints, unsigned_abs-mul}
use Rattle.std.proofs.lemmas.Bool.Decides.{same_from_decides, Decides-int_eq}
use borrow.Author.Differences.{up, down}
use Rattle.npp_frac.specs.Rational.{Rational, Is-lt, Is-le, Is-whole, Is-ratio, is_less, ratio, whole, zero_ℚ, ◌<ℚ◌, ◌≤ℚ◌, ◌-ℚ◌, ◌*ℚ◌, ◌/ℚ◌}
use Rattle.npp_frac.specs.Order.{whole_injective, is_less_of_<ℚ, is_less_of_≤ℚ}
use Rattle.npp_frac.specs.Sign.{num_of_zero, zero_of_num}
use Rattle.npp_frac.specs.Division.{size_of_nonzero}
use Rattle.npp_frac.specs.Fits.{IsWidth, FitsBelow, limit_of}
use Rattle.npp_frac.specs.FitsLaws.{limit_at_least, limit_at_most}
use Rattle.npp_frac.specs.FitsResults.{ratio_below}
use Rattle.npp_lp.specs.Programs.{at}
use Rattle.npp_simplex.specs.Places.{fits_less_product}
use Rattle.npp_simplex.specs.Steps.{is_nonzero, nonzero_columns}
use Rattle.npp_simplex.specs.CommonForm.{number_in, over, line_of, turned, word_limit, AreWithin, IsCommonForm, IsLine}
use Rattle.npp_simplex.proofs.CommonForms.{over_at, ratio_scaled, zero_of_ratio, ratio_of_zero, common_quotient_is, turned_size, size_less, less_form, less_fits}
use Rattle.npp_simplex.proofs.Agreeing.{filter_agrees, each_range}

-- ---- the limit of words

pub below_width : (w : ℕ) → word_limit w ≤ limit_of w
unfolding word_limit
below_width w = omega arith

pub below_word : (w : ℕ) → word_limit w ≤ 2 ^ 63
unfolding word_limit
below_word w = omega arith

pub some_limit : (w : ℕ) → IsWidth w → 1 < word_limit w
unfolding word_limit
some_limit w h = let least : 2 ^ 31 ≤ limit_of w = limit_at_least w h in omega arith

pub limit_32 : (w : ℕ) → w ≡ 32 → 2 ^ 31 ≡ word_limit w
unfolding word_limit
limit_32 w e = rw e refl

pub limit_other : (w : ℕ) → IsWidth w → w ≢ 32 → 2 ^ 63 ≡ word_limit w
unfolding word_limit
limit_other w h apart = elim h [
  | inl e ↦ absurd (apart e)
  | inr k ↦ elim k [ inl e ↦ rw e refl | inr e ↦ rw e refl ]
]

-- ---- the numbers of a row in each form

module _ (is_whole : Bool) (d : ℕ) (xs : List ℤ) (others line : List Rational) (view : line_of is_whole d xs others ≡ line) where
  pub whole_is : is_whole ≡ true → over d xs ≡ line
  whole_is e = sym (ap (λ b. cond b (over d xs) others) e) ∙ view

  pub others_are : is_whole ≡ false → others ≡ line
  others_are e = sym (ap (λ b. cond b (over d xs) others) e) ∙ view

  pub whole_at : is_whole ≡ true → 0 < d → (j : ℕ) → at line j ≡ ratio (number_in xs j) d
  whole_at e h j = ap (λ l. at l j) (sym (whole_is e)) ∙ over_at d xs j h

  either_length : (b : Bool) → is_whole ≡ b → (is_whole ≡ true → length xs ≡ length others) → length line ≡ length others
  either_length true e same = ap length (sym (whole_is e)) ∙ length-map xs (λ x. ratio x d) ∙ same e
  either_length false e same = ap length (sym (others_are e))

  pub line_length : (is_whole ≡ true → length xs ≡ length others) → length line ≡ length others
  line_length same = either_length is_whole refl same

-- ---- whole numbers of a row

module _ (w d b : ℕ) (xs : List ℤ) (form : IsCommonForm (word_limit w) d b xs) where
  pub number_below : (j : ℕ) → nat_abs (number_in xs j) < word_limit w
  number_below j = lt_of_le_of_lt (form.sizes j) form.bound

  pub number_fits : (j : ℕ) → nat_abs (number_in xs j) < limit_of w
  number_fits j = lt_of_lt_of_le (number_below j) (below_width w)

  pub number_in_word : (j : ℕ) → nat_abs (number_in xs j) < 2 ^ 63
  number_in_word j = lt_of_lt_of_le (number_below j) (below_word w)

  pub denominator_fits : d < limit_of w
  denominator_fits = lt_of_lt_of_le form.denominator (below_width w)

  pub denominator_in_word : d < 2 ^ 63
  denominator_in_word = lt_of_lt_of_le form.denominator (below_word w)

  pub within_words : AreWithin (2 ^ 63 - 1) xs
  within_words j = let h = number_in_word j in omega arith

-- each number fits the width
module _ (w limit : ℕ) (narrow : limit ≤ limit_of w) (is_whole : Bool) (d b : ℕ) (xs : List ℤ) (others line : List Rational)
    (view : line_of is_whole d xs others ≡ line) (inv : is_whole ≡ true → IsCommonForm limit d b xs) (fits : (j : ℕ) → j < length others → FitsBelow (limit_of w) (at others j)) where
  fits_in : (c : Bool) → is_whole ≡ c → (j : ℕ) → j < length line → FitsBelow (limit_of w) (at line j)
  fits_in true e j l =
      let form = inv e in
      subst (FitsBelow (limit_of w)) (sym (whole_at is_whole d xs others line view e form.above j))
      (ratio_below (limit_of w) (number_in xs j) d form.above (lt_of_lt_of_le (lt_of_le_of_lt (form.sizes j) form.bound) narrow) (lt_of_lt_of_le form.denominator narrow))
  fits_in false e j l =
      let is = others_are is_whole d xs others line view e in
      subst (λ z. FitsBelow (limit_of w) (at z j)) is (fits j (omega (arith, l, ap length is)))

  pub line_fits : (j : ℕ) → j < length line → FitsBelow (limit_of w) (at line j)
  line_fits = fits_in is_whole refl

-- ---- long words, where the limit is that of the width

pub same_limit : (w : ℕ) → limit_of w ≤ limit_of w
same_limit w = omega arith

pub wider_form : (w d b : ℕ) (xs : List ℤ) → IsCommonForm (word_limit w) d b xs → IsCommonForm (limit_of w) d b xs
wider_form w d b xs form = record {
  above = form.above;
  denominator = lt_of_lt_of_le form.denominator (below_width w);
  bound = lt_of_lt_of_le form.bound (below_width w);
  sizes = form.sizes;
}

module _ (w d b : ℕ) (xs : List ℤ) (wide : IsWidth w) (form : IsCommonForm (limit_of w) d b xs) where
  pub long_fits : (j : ℕ) → nat_abs (number_in xs j) < limit_of w
  long_fits j = lt_of_le_of_lt (form.sizes j) form.bound

  pub number_in_long : (j : ℕ) → nat_abs (number_in xs j) < 2 ^ 127
  number_in_long j = lt_of_lt_of_le (long_fits j) (limit_at_most w wide)

  pub denominator_in_long : d < 2 ^ 127
  denominator_in_long = lt_of_lt_of_le form.denominator (limit_at_most w wide)

  pub within_long : AreWithin (2 ^ 127 - 1) xs
  within_long j = let h = number_in_long j in omega arith

-- ---- a row whose whole numbers were shortened

pub shortened : (limit : ℕ) (is_whole : Bool) (d b n : ℕ) (xs : List ℤ) → IsLine limit is_whole d b xs n → is_whole ≡ true → (e c : ℕ) (ys : List ℤ) → 0 < e → e ≤ d → AreWithin c ys → c ≤ b → length ys ≡ length xs → IsLine limit is_whole e c ys n
shortened limit is_whole d b n xs inv whole e c ys above at_most sizes least same =
    let form = inv.form whole in
    record {
      room = same ∙ inv.room;
      form = λ z. record { above = above; denominator = lt_of_le_of_lt at_most form.denominator; bound = lt_of_le_of_lt least form.bound; sizes = sizes };
    }

-- ---- tests

less_yes : (x : ℤ) (d : ℕ) → 0 < d → pos 0 <ℤ x → zero_ℚ <ℚ ratio x d
less_yes x d h l = Is-lt (Is-whole (pos 0)) (Is-ratio x d h) (let up_above : down x < up x = omega (arith, ints, l) in omega (arith, up_above))

less_no : (x : ℤ) (d : ℕ) → 0 < d → x ≤ℤ pos 0 → ratio x d ≤ℚ zero_ℚ
less_no x d h l = Is-le (Is-ratio x d h) (Is-whole (pos 0)) (let up_below : up x ≤ down x = omega (arith, ints, l) in omega arith)

-- a test that holds where the whole number is above 0 is the one of the quotient
pub is_less_ratio : (x : ℤ) (d : ℕ) → 0 < d → (b : Bool) → (b ≡ true → pos 0 <ℤ x) → (b ≡ false → x ≤ℤ pos 0) → b ≡ is_less zero_ℚ (ratio x d)
is_less_ratio x d h true if_true if_false = sym (is_less_of_<ℚ zero_ℚ (ratio x d) (less_yes x d h (if_true refl)))
is_less_ratio x d h false if_true if_false = sym (is_less_of_≤ℚ zero_ℚ (ratio x d) (less_no x d h (if_false refl)))

pub zero_test : (x : ℤ) (d : ℕ) → 0 < d → is_nonzero (ratio x d) ≡ is_nonzero (whole x)
zero_test x d h =
    ap not (same_from_decides (int_eq (ratio x d).num (pos 0)) (int_eq (whole x).num (pos 0)) (Decides-int_eq (ratio x d).num (pos 0)) (
      λ e. num_of_zero (ratio x d) (ratio_of_zero x d h (whole_injective (zero_of_num (whole x) ((Decides-int_eq (whole x).num (pos 0)).0 e)))),
      λ e. (Decides-int_eq (whole x).num (pos 0)).1 (num_of_zero (whole x) (ap whole (zero_of_ratio x d h (zero_of_num (ratio x d) e)))),
    ))

-- the columns at which a row is not 0 are those of its whole numbers
pub whole_columns : (line : List Rational) (xs : List ℤ) (d n : ℕ) → 0 < d → ((j : ℕ) → at line j ≡ ratio (number_in xs j) d) → nonzero_columns (at line) n ≡ nonzero_columns (λ j. whole (number_in xs j)) n
whole_columns line xs d n h is =
    let P : ℕ → Type 0 = λ j. at line j ≡ ratio (number_in xs j) d in
    filter_agrees P (λ j. is_nonzero (at line j)) (λ j. is_nonzero (whole (number_in xs j))) (range_with_len 0 n) (each_range P 0 n (λ j a b. is j)) (λ j e. ap is_nonzero e ∙ zero_test (number_in xs j) d h)

-- ---- a row that loses a multiple of another one

module _ (m d b p o c : ℕ) (xs ys zs : List ℤ) (f : ℤ) (k : ℕ) (h : 0 < d) (l : 0 < p) (positive : 0 < k) (clears : f *ℤ pos p ≡ number_in xs c *ℤ pos k)
    (new : (j : ℕ) → number_in ys j ≡ (number_in xs j *ℤ pos k) -ℤ (f *ℤ number_in zs j)) where
  pub replaced_at : (j : ℕ) → at (over (d * k) ys) j ≡ ratio (number_in xs j) d -ℚ ratio (number_in xs c) d *ℚ ratio (number_in zs j) p
  replaced_at j =
      over_at (d * k) ys j (mul-pos h positive) ∙ ap (λ t. ratio t (d * k)) (new j)
      ∙ sym (less_form (number_in xs c *ℤ pos k) (number_in zs j) f (d * k) p (mul-pos h positive) l clears (number_in xs j *ℤ pos k))
      ∙ ap₂ (λ x y. x -ℚ y *ℚ ratio (number_in zs j) p) (ratio_scaled (number_in xs j) d k h positive) (ratio_scaled (number_in xs c) d k h positive)

  module _ (sizes : AreWithin b xs) (others : AreWithin o zs) (top : b * k + nat_abs f * o < m) (bottom : d * k < m) where
    scaled_size : (x : ℤ) → nat_abs (x *ℤ pos k) ≡ nat_abs x * k
    scaled_size x = omega (arith, unsigned_abs-mul x (pos k))

    pub size_at : (j : ℕ) → nat_abs (number_in xs j) * k + nat_abs f * nat_abs (number_in zs j) ≤ b * k + nat_abs f * o
    size_at j =
        let own : nat_abs (number_in xs j) * k ≤ b * k = mul-le-mul (sizes j) (omega arith) in
        let other : nat_abs f * nat_abs (number_in zs j) ≤ nat_abs f * o = mul-le-mul (omega arith) (others j) in
        omega arith

    pub replaced_fits : (j : ℕ) → true ≡ fits_less_product m (ratio (number_in xs j) d) (ratio (number_in xs c) d) (ratio (number_in zs j) p)
    replaced_fits j =
        let at_j : nat_abs (number_in xs j *ℤ pos k) ≡ nat_abs (number_in xs j) * k = scaled_size (number_in xs j) in
        let whole_size = size_at j in
        less_fits (number_in xs c *ℤ pos k) (number_in zs j) f (d * k) p (mul-pos h positive) l clears m (number_in xs j *ℤ pos k) (omega arith) bottom
        ∙ ap₂ (λ x y. fits_less_product m x y (ratio (number_in zs j) p)) (ratio_scaled (number_in xs j) d k h positive) (ratio_scaled (number_in xs c) d k h positive)

    pub replaced_sizes : AreWithin (b * k + nat_abs f * o) ys
    replaced_sizes j =
        let at_j : nat_abs (number_in xs j *ℤ pos k) ≡ nat_abs (number_in xs j) * k = scaled_size (number_in xs j) in
        let of_other : nat_abs (f *ℤ number_in zs j) ≡ nat_abs f * nat_abs (number_in zs j) = unsigned_abs-mul f (number_in zs j) in
        let less : nat_abs ((number_in xs j *ℤ pos k) -ℤ (f *ℤ number_in zs j)) ≤ nat_abs (number_in xs j *ℤ pos k) + nat_abs (f *ℤ number_in zs j) = size_less (number_in xs j *ℤ pos k) (f *ℤ number_in zs j) in
        let whole_size = size_at j in
        rw (new j) (omega arith)

-- ---- a row that is divided by one of its numbers

module _ (xs ys : List ℤ) (d : ℕ) (y : ℤ) (h : 0 < d) (apart : y ≢ pos 0) (new : (j : ℕ) → number_in ys j ≡ turned (number_in xs j) y) where
  size_above : 0 < nat_abs y
  size_above = size_of_nonzero y apart

  pub divided_at : (j : ℕ) → at (over (nat_abs y) ys) j ≡ ratio (number_in xs j) d /ℚ ratio y d
  divided_at j = over_at (nat_abs y) ys j size_above ∙ ap (λ t. ratio t (nat_abs y)) (new j) ∙ sym (common_quotient_is (number_in xs j) y d h apart)

  pub divided_sizes : (b : ℕ) → AreWithin b xs → AreWithin b ys
  divided_sizes b sizes j = rw (new j) (rw (turned_size (number_in xs j) y) (sizes j))
