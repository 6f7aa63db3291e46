-- Rows of words that are changed number by number.
use Rattle.std.proofs.Common.{◌≡◌, ℕ, zero, suc, negsuc, add-one, false, ◌-ℤ◌, ◌*ℤ◌, ◌+◌, ◌*◌, ◌^◌, FitsSigned, to_z, of_z, to_z-of_z, ap₂, ◌<◌, ◌≤◌, List, length, set, get_or, ℤ, pos, nat_abs, arith, ap, sym, ◌∙◌, refl, inl, inr, eq-or-lt_of_le}
use Rattle.std.proofs.lemmas.List.{ext_get_or, get_or_past, get_or_default, get_or-set_same, get_or-set_other, get_or_read, length-set}
use Rattle.std.proofs.lemmas.Bool.{cases_lt}
use Rattle.std.proofs.Math.Nat.{mul-le-mul, eq-zero-or-pos}
use mir.Syntax.{Width}
use mir.Val.{hbits}
use Rattle.std.proofs.lemmas.Int.{ints, unsigned_abs-mul, fits_signed_from_abs}
use Rattle.npp_frac.specs.Rational.{whole}
use Rattle.npp_frac.specs.Order.{whole_injective}
use Rattle.npp_simplex.specs.Steps.{is_nonzero, nonzero_columns}
use Rattle.npp_simplex.specs.CommonForm.{number_in}
use Rattle.npp_simplex.proofs.Nonzero.{IsGap, zero_if, columns_within, first_column, next_column}

-- the numbers below i are those that `new` makes of the first ones, and the others are the first ones
pub record IsChangedBelow (first now : List ℤ) (new : ℕ → ℤ → ℤ) (i : ℕ) : Type 0 where
  pub size : length now ≡ length first
  pub done : (k : ℕ) → k < i → number_in now k ≡ new k (number_in first k)
  pub rest : (k : ℕ) → i ≤ k → number_in now k ≡ number_in first k

pub none_changed : (first : List ℤ) (new : ℕ → ℤ → ℤ) → IsChangedBelow first first new 0
none_changed first new = record { size = refl; done = λ k l. absurd (omega arith); rest = λ k l. refl }

module _ (first now : List ℤ) (new : ℕ → ℤ → ℤ) (i : ℕ) (h : IsChangedBelow first now new i) where
  pub one_changed : (x : ℤ) → i < length now → x ≡ new i (number_in first i) → IsChangedBelow first (set now i x) new (i + 1)
  one_changed x l e = record {
    size = length-set now i x ∙ h.size;
    done = λ k less. elim (eq-or-lt_of_le (let le : k ≤ i = omega arith in le)) [
      | inl same ↦ ap (number_in (set now i x)) same ∙ get_or-set_same now i x (pos 0) l ∙ e ∙ ap (λ k. new k (number_in first k)) (sym same)
      | inr below ↦ get_or-set_other now i k x (pos 0) (omega arith) ∙ h.done k below
    ];
    rest = λ k less. get_or-set_other now i k x (pos 0) (omega arith) ∙ h.rest k (omega arith);
  }

  -- where `new` keeps 0, all numbers are changed, also those past the end
  pub all_changed : i ≡ length first → ((k : ℕ) → length first ≤ k → new k (pos 0) ≡ pos 0) → (k : ℕ) → number_in now k ≡ new k (number_in first k)
  all_changed e keeps k = elim (cases_lt k i) [
    | inl below ↦ h.done k below
    | inr past ↦ h.rest k past ∙ get_or_past first k (pos 0) (omega arith) ∙ sym (keeps k (omega arith)) ∙ ap (new k) (sym (get_or_past first k (pos 0) (omega arith)))
  ]

-- a row that was written over by the numbers of another one
pub copied : (first now ws : List ℤ) (i : ℕ) → IsChangedBelow first now (λ k x. number_in ws k) i → i ≡ length ws → length first ≡ length ws → now ≡ ws
copied first now ws i h e same = ext_get_or (pos 0) now ws (h.size ∙ same) (λ k l. h.done k (omega (arith, l, h.size, same, e)))

-- what was read of a row is its number there
pub word_read : (xs : List ℤ) (k : ℕ) (x : ℤ) → k < length xs → x ≡ get_or xs k x → x ≡ number_in xs k
word_read xs k x l e = get_or_read xs k x l e (pos 0)

-- ---- words that are computed

zero_product : (z : ℤ) → pos 0 *ℤ z ≡ pos 0
zero_product z = omega (arith, ints, unsigned_abs-mul (pos 0) z)

-- words of any width
module _ (w : Width) where
  zero_word : 0 < 2 ^ hbits w → to_z w (of_z w (pos 0)) ≡ pos 0
  zero_word h = to_z-of_z (fits_signed_from_abs w (pos 0) h)

  no_product : (f z : ℤ) → nat_abs f ≡ 0 → 0 < 2 ^ hbits w → to_z w (of_z w (to_z w (of_z w f) *ℤ to_z w (of_z w z))) ≡ f *ℤ z
  no_product (pos zero) z e h = ap (λ t. to_z w (of_z w t)) (ap (λ t. t *ℤ to_z w (of_z w z)) (zero_word h) ∙ zero_product (to_z w (of_z w z))) ∙ zero_word h ∙ sym (zero_product z)
  no_product (pos (suc n)) z e h = absurd (omega arith)
  no_product (negsuc n) z e h = absurd (omega arith)

  -- a product of words, where it fits
  product_word : (f z : ℤ) → FitsSigned w f → nat_abs f * nat_abs z < 2 ^ hbits w → to_z w (of_z w (to_z w (of_z w f) *ℤ to_z w (of_z w z))) ≡ f *ℤ z
  product_word f z fits small = elim (eq-zero-or-pos (nat_abs f)) [
    | inl none ↦ no_product f z none (omega arith)
    | inr some ↦ (
        let least : 1 * nat_abs z ≤ nat_abs f * nat_abs z = mul-le-mul some (omega arith) in
        let inner : FitsSigned w z = fits_signed_from_abs w z (omega arith) in
        let outer : FitsSigned w (f *ℤ z) = fits_signed_from_abs w (f *ℤ z) (omega (arith, unsigned_abs-mul f z)) in
        rw (to_z-of_z fits, to_z-of_z inner, to_z-of_z outer) refl)
  ]

  -- a word less a product
  module _ (a f z : ℤ) (fits : FitsSigned w f) (small : nat_abs a + nat_abs f * nat_abs z < 2 ^ hbits w) where
    pub difference_fits : FitsSigned w (to_z w (of_z w a) -ℤ to_z w (of_z w (to_z w (of_z w f) *ℤ to_z w (of_z w z))))
    difference_fits =
        let first : FitsSigned w a = fits_signed_from_abs w a (omega arith) in
        let product = product_word f z fits (omega arith) in
        rw (to_z-of_z first, product) (fits_signed_from_abs w (a -ℤ f *ℤ z) (omega (arith, ints, unsigned_abs-mul f z)))

    pub difference_is : to_z w (of_z w (to_z w (of_z w a) -ℤ to_z w (of_z w (to_z w (of_z w f) *ℤ to_z w (of_z w z))))) ≡ a -ℤ f *ℤ z
    difference_is =
        let first : FitsSigned w a = fits_signed_from_abs w a (omega arith) in
        to_z-of_z difference_fits ∙ ap₂ (λ x y. x -ℤ y) (to_z-of_z first) (product_word f z fits (omega arith))

-- ---- a row that loses a multiple of another one, at each column in turn where the other one is not 0

less_none : (x f z : ℤ) → z ≡ pos 0 → x ≡ x -ℤ (f *ℤ z)
less_none x f z e = rw e (omega (arith, ints))

none_if : (z : ℤ) → is_nonzero (whole z) ≡ false → z ≡ pos 0
none_if z h = whole_injective (zero_if (whole z) h)

module _ (first : List ℤ) (f : ℤ) (other : List ℤ) (xs : List ℕ) (e : xs ≡ nonzero_columns (λ j. whole (number_in other j)) (length first)) where
  past_zeros : (now : List ℤ) (j k : ℕ) → IsChangedBelow first now (λ k x. x -ℤ (f *ℤ number_in other k)) j → IsGap (λ j. is_nonzero (whole (number_in other j))) j k → IsChangedBelow first now (λ k x. x -ℤ (f *ℤ number_in other k)) k
  past_zeros now j k h gap = record {
    size = h.size;
    done = λ i l. elim (cases_lt i j) [
      | inl before ↦ h.done i before
      | inr after ↦ h.rest i after ∙ less_none (number_in first i) f (number_in other i) (none_if (number_in other i) (gap.none i after l))
    ];
    rest = λ i l. h.rest i (let order = gap.order in omega arith);
  }

  pub begins : IsChangedBelow first first (λ k x. x -ℤ (f *ℤ number_in other k)) (get_or xs 0 (length first))
  begins = past_zeros first 0 (get_or xs 0 (length first)) (none_changed first (λ k x. x -ℤ (f *ℤ number_in other k))) (first_column (λ j. whole (number_in other j)) (length first) xs e)

  pub within : (s : ℕ) → s < length xs → get_or xs s 0 < length first
  within s l = columns_within (λ j. whole (number_in other j)) (length first) xs e s 0 l

  -- at a column that is to be changed the row is still the first one
  pub unchanged : (now : List ℤ) (s : ℕ) → IsChangedBelow first now (λ k x. x -ℤ (f *ℤ number_in other k)) (get_or xs s (length first)) → s < length xs → number_in now (get_or xs s 0) ≡ number_in first (get_or xs s 0)
  unchanged now s h l = let is = get_or_default xs s (length first) 0 l in h.rest (get_or xs s 0) (omega arith)

  pub goes_on : (now : List ℤ) (s : ℕ) → IsChangedBelow first now (λ k x. x -ℤ (f *ℤ number_in other k)) (get_or xs s (length first)) → s < length xs → (x : ℤ) → x ≡ number_in first (get_or xs s 0) -ℤ (f *ℤ number_in other (get_or xs s 0))
      → IsChangedBelow first (set now (get_or xs s 0) x) (λ k x. x -ℤ (f *ℤ number_in other k)) (get_or xs (s + 1) (length first))
  goes_on now s h l x exact =
      let n = length first in
      let is : get_or xs s 0 ≡ get_or xs s (length first) = get_or_default xs s 0 (length first) l in
      let less : get_or xs s (length first) < length now = omega (arith, within s l, is, h.size) in
      let more : IsChangedBelow first (set now (get_or xs s (length first)) x) (λ k x. x -ℤ (f *ℤ number_in other k)) (get_or xs s (length first) + 1) =
      one_changed first now (λ k x. x -ℤ (f *ℤ number_in other k)) (get_or xs s (length first)) h x less (exact ∙ ap (λ i. number_in first i -ℤ (f *ℤ number_in other i)) is) in
      rw (is, add-one) (past_zeros (set now (get_or xs s n) x) (suc (get_or xs s n)) (get_or xs (suc s) n) (rw add-one at more) (next_column (λ j. whole (number_in other j)) n xs e s l))

  pub ends : (now : List ℤ) (s : ℕ) → IsChangedBelow first now (λ k x. x -ℤ (f *ℤ number_in other k)) (get_or xs s (length first)) → length xs ≤ s → length other ≡ length first → (k : ℕ) → number_in now k ≡ number_in first k -ℤ (f *ℤ number_in other k)
  ends now s h l same k =
      all_changed first now (λ k x. x -ℤ (f *ℤ number_in other k)) (get_or xs s (length first)) h (get_or_past xs s (length first) l) (λ k past.
      sym (less_none (pos 0) f (number_in other k) (get_or_past other k (pos 0) (omega arith)))) k
