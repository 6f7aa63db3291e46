-- The laws of checked sums.
use Rattle.std.specs.Prelude.{◌≡◌, ℕ, zero, suc, ◌+◌, ◌<◌, true, false, List, [], ◌∷◌, length, slice_index_or, Option, Some, None, Ok, Err, refl}
use Rattle.std.proofs.Common.{sym, ◌∙◌, ap, add-one}
use Rattle.npp_frac.specs.Rational.{Rational, zero_ℚ, ◌+ℚ◌, ◌*ℚ◌}
use Rattle.npp_frac.specs.Ring.{zero-+ℚ, +ℚ-zero, +ℚ_assoc}
use Rattle.npp_frac.specs.Sums.{sum_to, sum_by}
use Rattle.npp_frac.specs.Fits.{fits_add, fits_mul}
use Rattle.npp_frac.specs.declared.refusal.Op.TheVariants.{Add, Mul}
use Rattle.npp_frac.specs.declared.refusal.Overflow.{Overflow}
use Rattle.npp_lp.specs.Programs.{Term, at, product_sum, terms_at}
use Rattle.npp_lp.specs.Checked.{no_term}
use Rattle.npp_lp.specs.Sums.{joining_overflow, joined_sum, sum_overflow, checked_sum}
use Rattle.npp_lp.specs.VerdictLaws.{first_below_more, first_below_found, unless_ok, unless_err}

-- one product joins a sum where both operations fit
pub joined_sum_fits : (m : ℕ) (sum a b : Rational) → true ≡ fits_mul m a b → true ≡ fits_add m sum (a *ℚ b) → joined_sum m sum a b ≡ Ok (sum +ℚ a *ℚ b)
unfolding joined_sum
joined_sum_fits m sum a b f g = rw (← f, ← g) refl

pub joined_sum_mul : (m : ℕ) (sum a b : Rational) → false ≡ fits_mul m a b → joined_sum m sum a b ≡ Err (record { op = Mul; left = a; right = b })
unfolding joined_sum
joined_sum_mul m sum a b f = rw (← f) refl

pub joined_sum_add : (m : ℕ) (sum a b : Rational) → true ≡ fits_mul m a b → false ≡ fits_add m sum (a *ℚ b) → joined_sum m sum a b ≡ Err (record { op = Add; left = sum; right = a *ℚ b })
unfolding joined_sum
joined_sum_add m sum a b f g = rw (← f, ← g) refl

module _ (m : ℕ) (a b : ℕ → Rational) where
  step : ℕ → Option (Overflow Rational)
  step i = joining_overflow m (product_sum i a b) (a i) (b i)

  pub checked_sum_none : checked_sum m 0 a b ≡ Ok zero_ℚ
  unfolding checked_sum sum_to
  checked_sum_none = refl

  -- a sum that was formed is the sum, and each of its operations fits
  pub checked_sum_parts : (n : ℕ) (s : Rational) → checked_sum m n a b ≡ Ok s → (sum_overflow m n a b ≡ None) × (product_sum n a b ≡ s)
  unfolding checked_sum
  checked_sum_parts n s e = unless_ok (sum_overflow m n a b) (product_sum n a b) s e

  -- one more product
  pub checked_sum_more : (i : ℕ) (s t : Rational) → checked_sum m i a b ≡ Ok s → joined_sum m s (a i) (b i) ≡ Ok t → checked_sum m (i + 1) a b ≡ Ok t
  unfolding checked_sum joined_sum sum_to step
  checked_sum_more i s t e j =
      let before : (sum_overflow m i a b ≡ None) × (product_sum i a b ≡ s) = checked_sum_parts i s e in
      let here : (joining_overflow m s (a i) (b i) ≡ None) × (s +ℚ a i *ℚ b i ≡ t) = unless_ok (joining_overflow m s (a i) (b i)) (s +ℚ a i *ℚ b i) t j in
      let fits : step i ≡ None = rw before.1 here.0 in
      let total : product_sum (suc i) a b ≡ t = ap (λ x. x +ℚ a i *ℚ b i) before.1 ∙ here.1 in
      let all : sum_overflow m (i + 1) a b ≡ None = first_below_more step i before.0 fits in
      rw all (rw add-one (ap Ok total))

  -- the first product that cannot join
  pub checked_sum_stops : (n i : ℕ) (s : Rational) (o : Overflow Rational) → i < n → checked_sum m i a b ≡ Ok s → joined_sum m s (a i) (b i) ≡ Err o → checked_sum m n a b ≡ Err o
  unfolding checked_sum joined_sum step
  checked_sum_stops n i s o h e j =
      let before : (sum_overflow m i a b ≡ None) × (product_sum i a b ≡ s) = checked_sum_parts i s e in
      let here : joining_overflow m s (a i) (b i) ≡ Some o = unless_err (joining_overflow m s (a i) (b i)) (s +ℚ a i *ℚ b i) o j in
      let stops : step i ≡ Some o = rw before.1 here in
      let all : sum_overflow m n a b ≡ Some o = first_below_found step n i o h before.0 stops in
      rw all refl

  -- where each operation fits, the sum is formed
  pub checked_sum_fits : (n : ℕ) → sum_overflow m n a b ≡ None → checked_sum m n a b ≡ Ok (product_sum n a b)
  unfolding checked_sum
  checked_sum_fits n e = rw e refl

sum_to_first : (n : ℕ) (f : ℕ → Rational) → sum_to (suc n) f ≡ f 0 +ℚ sum_to n (λ k. f (suc k))
unfolding sum_to
sum_to_first zero f = zero-+ℚ (f 0) ∙ sym (+ℚ-zero (f 0))
sum_to_first (suc n) f = ap (λ t. t +ℚ f (suc n)) (sum_to_first n f) ∙ +ℚ_assoc (f 0) (sum_to n (λ k. f (suc k))) (f (suc n))

-- the sum of terms at a point, term by term in order
pub terms_in_order : (ts : List Term) (x : List Rational) → product_sum (length ts) (λ k. (slice_index_or ts k no_term).value) (λ k. at x (slice_index_or ts k no_term).column) ≡ terms_at ts x
unfolding sum_by sum_to
terms_in_order [] x = refl
terms_in_order (t ∷ ts) x =
    sum_to_first (length ts) (λ k. (slice_index_or (t ∷ ts) k no_term).value *ℚ at x (slice_index_or (t ∷ ts) k no_term).column)
    ∙ ap (λ z. t.value *ℚ at x t.column +ℚ z) (terms_in_order ts x)
