-- What a pivot does with a row of whole numbers over one denominator.
use Rattle.std.proofs.Common.{◌≡◌, ◌≢◌, ℕ, ◌+◌, ◌*◌, ◌<◌, ◌≤◌, List, map, length, set, Bool, true, false, cond, ℤ, pos, ◌-ℤ◌, ◌*ℤ◌, nat_abs, get_or, Option, Some, None, IfNone, ap, ap₂, sym, ◌∙◌, lt_of_le_of_lt, lt_of_lt_of_le}
use Rattle.std.proofs.Math.Nat.{mul-pos}
use Rattle.std.proofs.lemmas.List.{length-map, get_or-set_same, get_or-set_other}
use Rattle.npp_frac.specs.Rational.{Rational, ratio, zero_ℚ, ◌-ℚ◌, ◌*ℚ◌, ◌/ℚ◌}
use Rattle.npp_frac.specs.Division.{size_of_nonzero}
use Rattle.npp_frac.specs.Fits.{FitsBelow, IsWidth, limit_of, fits_div}
use Rattle.npp_frac.specs.ZeroLaws.{less_zero_product}
use Rattle.npp_lp.specs.Programs.{at}
use Rattle.npp_lp.specs.Verdict.{first_below}
use Rattle.npp_lp.specs.VerdictLaws.{first_below_clear}
use Rattle.npp_simplex.specs.Places.{column_unless, fits_less_product}
use Rattle.npp_simplex.specs.CommonForm.{number_in, over, line_of, turned, AreWithin, IsCommonForm, IsLine}
use Rattle.npp_simplex.proofs.Tables.{at_read}
use Rattle.npp_simplex.proofs.Zeros.{fits_less_zero_product}
use Rattle.npp_simplex.proofs.CommonForms.{over_at, ratio_of_zero, common_quotient_fits}
use Rattle.npp_simplex.proofs.LineForms.{whole_at, divided_at, divided_sizes, replaced_at, replaced_fits, replaced_sizes}

-- where each test holds there is no stop
pub no_stop : (n : ℕ) (fits : ℕ → Bool) → ((j : ℕ) → j < n → true ≡ fits j) → None ≡ first_below n (λ j. column_unless (fits j) j)
no_stop n fits h = sym (first_below_clear (λ j. column_unless (fits j) j) n (λ j l. ap (λ b. column_unless b j) (sym (h j l))))

pub whole_line : (is_whole : Bool) (d : ℕ) (xs : List ℤ) (others : List Rational) (j : ℕ) → is_whole ≡ true → at (line_of is_whole d xs others) j ≡ at (over d xs) j
whole_line is_whole d xs others j e = ap (λ b. at (cond b (over d xs) others) j) e

pub other_line : (is_whole : Bool) (d : ℕ) (xs : List ℤ) (others : List Rational) (j : ℕ) → is_whole ≡ false → at (line_of is_whole d xs others) j ≡ at others j
other_line is_whole d xs others j e = ap (λ b. at (cond b (over d xs) others) j) e

module _ (w limit : ℕ) (narrow : limit ≤ limit_of w) (is_whole : Bool) (d b : ℕ) (xs : List ℤ) (rest line : List Rational)
    (view : line_of is_whole d xs rest ≡ line) (inv : IsLine limit is_whole d b xs (length rest)) (e : is_whole ≡ true) where
  form : IsCommonForm limit d b xs
  form = inv.form e

  number_at : (j : ℕ) → at line j ≡ ratio (number_in xs j) d
  number_at j = let f = form in whole_at is_whole d xs rest line view e f.above j

  size_fits : (j : ℕ) → nat_abs (number_in xs j) < limit_of w
  size_fits j = let f = form in lt_of_lt_of_le (lt_of_le_of_lt (f.sizes j) f.bound) narrow

  -- ---- the row is divided by its number in column c

  module _ (c : ℕ) (y : ℤ) (is : y ≡ number_in xs c) (apart : at line c ≢ zero_ℚ) where
    nonzero : y ≢ pos 0
    nonzero z = let f = form in apart (number_at c ∙ ratio_of_zero (number_in xs c) d f.above (sym is ∙ z))

    divisor_is : ratio y d ≡ at line c
    divisor_is = ap (λ t. ratio t d) is ∙ sym (number_at c)

    pub divide_fits : (j : ℕ) → true ≡ fits_div (limit_of w) (at line j) (at line c)
    divide_fits j =
        let f = form in
        common_quotient_fits (limit_of w) (number_in xs j) y d f.above nonzero (size_fits j) (rw is (size_fits c)) ∙ ap₂ (fits_div (limit_of w)) (sym (number_at j)) divisor_is

    pub divide_stop : None ≡ first_below (length line) (λ j. column_unless (fits_div (limit_of w) (at line j) (at line c)) j)
    divide_stop = no_stop (length line) (λ j. fits_div (limit_of w) (at line j) (at line c)) (λ j l. divide_fits j)

    module _ (ys : List ℤ) (new : (j : ℕ) → number_in ys j ≡ turned (number_in xs j) y) where
      pub divide_is : (j : ℕ) → at (line_of is_whole (nat_abs y) ys rest) j ≡ at line j /ℚ at line c
      divide_is j =
          let f = form in
          whole_line is_whole (nat_abs y) ys rest j e ∙ divided_at xs ys d y f.above nonzero new j ∙ ap₂ ◌/ℚ◌ (sym (number_at j)) divisor_is

      pub divide_inv : length ys ≡ length xs → IsLine limit is_whole (nat_abs y) b ys (length rest)
      divide_inv same =
          let f = form in
          let size : nat_abs y ≤ b = rw is (f.sizes c) in
          record {
            room = same ∙ inv.room;
            form = λ z. record {
              above = size_of_nonzero y nonzero;
              denominator = lt_of_le_of_lt size f.bound;
              bound = f.bound;
              sizes = divided_sizes xs ys d y f.above nonzero new b f.sizes;
            };
          }

  -- ---- the row loses the multiple of another one that clears column c

  module _ (p o : ℕ) (zs : List ℤ) (other : List Rational) (l : 0 < p) (others : AreWithin o zs) (other_at : (j : ℕ) → at other j ≡ ratio (number_in zs j) p) (c k : ℕ) (f y : ℤ) (is : y ≡ number_in xs c) (positive : 0 < k)
      (clears : f *ℤ pos p ≡ y *ℤ pos k) (m s t : ℕ) (is_limit : m ≡ limit) (bound : s ≡ b * k + nat_abs f * o) (denominator : t ≡ d * k) (top : s < m) (bottom : t < m) where
    within : m ≤ limit_of w
    within = rw is_limit narrow

    top_is : b * k + nat_abs f * o < m
    top_is = rw (← bound) top

    bottom_is : d * k < m
    bottom_is = rw (← denominator) bottom

    clears_here : f *ℤ pos p ≡ number_in xs c *ℤ pos k
    clears_here = clears ∙ ap (λ z. z *ℤ pos k) is

    pub reduce_fits : (ys : List ℤ) → ((j : ℕ) → number_in ys j ≡ (number_in xs j *ℤ pos k) -ℤ (f *ℤ number_in zs j)) → (j : ℕ) → true ≡ fits_less_product (limit_of w) (at line j) (at line c) (at other j)
    reduce_fits ys new j =
        let g = form in
        replaced_fits (limit_of w) d b p o c xs ys zs f k g.above l positive clears_here new g.sizes others (lt_of_lt_of_le top_is within) (lt_of_lt_of_le bottom_is within) j
        ∙ ap (λ q. fits_less_product (limit_of w) q (ratio (number_in xs c) d) (ratio (number_in zs j) p)) (sym (number_at j))
        ∙ ap₂ (fits_less_product (limit_of w) (at line j)) (sym (number_at c)) (sym (other_at j))

    pub reduce_is : (ys : List ℤ) → ((j : ℕ) → number_in ys j ≡ (number_in xs j *ℤ pos k) -ℤ (f *ℤ number_in zs j)) → (j : ℕ) → at (line_of is_whole t ys rest) j ≡ at line j -ℚ at line c *ℚ at other j
    reduce_is ys new j =
        let g = form in
        whole_line is_whole t ys rest j e ∙ ap (λ n. at (over n ys) j) denominator
        ∙ replaced_at m d b p o c xs ys zs f k g.above l positive clears_here new j
        ∙ ap (λ q. q -ℚ ratio (number_in xs c) d *ℚ ratio (number_in zs j) p) (sym (number_at j))
        ∙ ap₂ (λ q r. at line j -ℚ q *ℚ r) (sym (number_at c)) (sym (other_at j))

    pub reduce_inv : (ys : List ℤ) → ((j : ℕ) → number_in ys j ≡ (number_in xs j *ℤ pos k) -ℤ (f *ℤ number_in zs j)) → length ys ≡ length xs → IsLine limit is_whole t s ys (length rest)
    reduce_inv ys new same =
        let g = form in
        record {
          room = same ∙ inv.room;
          form = λ z. record {
            above = rw denominator (mul-pos g.above positive);
            denominator = rw (← is_limit) bottom;
            bound = rw (← is_limit) top;
            sizes = rw bound (replaced_sizes m d b p o c xs ys zs f k g.above l positive clears_here new g.sizes others top_is bottom_is);
          };
        }

-- ---- where its number in column c is 0 nothing changes

pub zero_fits : (w : ℕ) → IsWidth w → (line other : List Rational) (c : ℕ) → ((j : ℕ) → j < length line → FitsBelow (limit_of w) (at line j)) → at line c ≡ zero_ℚ
    → None ≡ first_below (length line) (λ j. column_unless (fits_less_product (limit_of w) (at line j) (at line c) (at other j)) j)
zero_fits w wide line other c fits none = no_stop (length line) (λ j. fits_less_product (limit_of w) (at line j) (at line c) (at other j)) (λ j l. fits_less_zero_product w (at line j) (at line c) (at other j) wide (fits j l) none)

pub zero_stays : (line other : List Rational) (c j : ℕ) → at line c ≡ zero_ℚ → at line j ≡ at line j -ℚ at line c *ℚ at other j
zero_stays line other c j none = less_zero_product (at line j) (at line c) (at other j) none

-- ---- rows in which numbers are set to 0

module _ (d : ℕ) (xs : List ℤ) (h : 0 < d) where
  pub cleared_here : (j : ℕ) → j < length xs → at (over d (set xs j (pos 0))) j ≡ zero_ℚ
  cleared_here j l = over_at d (set xs j (pos 0)) j h ∙ ratio_of_zero (number_in (set xs j (pos 0)) j) d h (get_or-set_same xs j (pos 0) (pos 0) l)

  pub cleared_other : (j k : ℕ) → k ≢ j → at (over d (set xs j (pos 0))) k ≡ at (over d xs) k
  cleared_other j k apart = over_at d (set xs j (pos 0)) k h ∙ ap (λ t. ratio t d) (get_or-set_other xs j k (pos 0) (pos 0) apart) ∙ sym (over_at d xs k h)

  pub all_cleared : ((j : ℕ) → number_in xs j ≡ pos 0) → (j : ℕ) → at (over d xs) j ≡ zero_ℚ
  all_cleared none j = over_at d xs j h ∙ ratio_of_zero (number_in xs j) d h (none j)

-- ---- a row of fractions that is divided, or loses a multiple of another one

module _ {N : Type 0} (v : N → Rational) (m : ℕ) (line : List Rational) (fs : List N) (c : ℕ) (q : N) (is : map v fs ≡ line) (l : c < length fs) (read : q ≡ get_or fs c q) where
  factor_is : v q ≡ at line c
  factor_is = sym (at_read v fs c q l read) ∙ ap (λ z. at z c) is

  pub divisor_nonzero : at line c ≢ zero_ℚ → v q ≢ zero_ℚ
  divisor_nonzero apart e = apart (sym factor_is ∙ e)

  pub fractions_length : length fs ≡ length line
  fractions_length = sym (length-map fs v) ∙ ap length is

  pub quotients_stop : first_below (length fs) (λ j. column_unless (fits_div m (at (map v fs) j) (v q)) j) ≡ first_below (length line) (λ j. column_unless (fits_div m (at line j) (at line c)) j)
  quotients_stop =
      ap (λ n. first_below n (λ j. column_unless (fits_div m (at (map v fs) j) (v q)) j)) fractions_length
      ∙ ap (λ z. first_below (length line) (λ j. column_unless (fits_div m (at z j) (v q)) j)) is
      ∙ ap (λ r. first_below (length line) (λ j. column_unless (fits_div m (at line j) r) j)) factor_is

  pub quotients_are : {T : Type 0} (o : Option T) (ys : List N) → IfNone o ((j : ℕ) → j < length fs → at (map v ys) j ≡ at (map v fs) j /ℚ v q)
      → IfNone o ((j : ℕ) → j < length line → at (map v ys) j ≡ at line j /ℚ at line c)
  quotients_are None ys h = λ j k. h j (rw fractions_length k) ∙ ap₂ ◌/ℚ◌ (ap (λ z. at z j) is) factor_is
  quotients_are (Some x) ys h = h

  module _ (other : List Rational) where
    pub fractions_stop : first_below (length fs) (λ j. column_unless (fits_less_product m (at (map v fs) j) (v q) (at other j)) j) ≡ first_below (length line) (λ j. column_unless (fits_less_product m (at line j) (at line c) (at other j)) j)
    fractions_stop =
        ap (λ n. first_below n (λ j. column_unless (fits_less_product m (at (map v fs) j) (v q) (at other j)) j)) fractions_length
        ∙ ap (λ z. first_below (length line) (λ j. column_unless (fits_less_product m (at z j) (v q) (at other j)) j)) is
        ∙ ap (λ r. first_below (length line) (λ j. column_unless (fits_less_product m (at line j) r (at other j)) j)) factor_is

    pub fractions_reduced : {T : Type 0} (o : Option T) (ys : List N) → IfNone o ((j : ℕ) → j < length fs → at (map v ys) j ≡ at (map v fs) j -ℚ v q *ℚ at other j)
        → IfNone o ((j : ℕ) → j < length line → at (map v ys) j ≡ at line j -ℚ at line c *ℚ at other j)
    fractions_reduced None ys h = λ j k. h j (rw fractions_length k) ∙ ap₂ (λ x y. x -ℚ y *ℚ at other j) (ap (λ z. at z j) is) factor_is
    fractions_reduced (Some x) ys h = h
