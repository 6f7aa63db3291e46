-- What one step of a checked sum gives.
use Rattle.std.proofs.Common.{◌≡◌, ℕ, true, false, Result, Ok, Err, is_ok, IfOk, IfErr, IsErrAnd, sym, ◌∙◌, ap}
use Rattle.npp_frac.specs.Rational.{Rational, ◌+ℚ◌, ◌*ℚ◌}
use Rattle.npp_frac.specs.Fits.{fits_add, fits_mul}
use Rattle.npp_frac.specs.declared.refusal.Op.TheVariants.{Add, Mul}
use Rattle.npp_frac.specs.declared.refusal.Overflow.{Overflow}
use Rattle.npp_lp.specs.Sums.{joined_sum}
use Rattle.npp_lp.specs.SumLaws.{joined_sum_fits, joined_sum_mul, joined_sum_add}
use Rattle.npp_lp.specs.Meaning.{overflow_of, sum_result}

module _ {N : Type 0} (value : N → Rational) (m : ℕ) where
  -- where the product does not fit
  pub mul_refused : (r : Result N (Overflow N)) (e : Overflow N) (sum a b : N) → IsErrAnd r (λ f. f ≡ e) → e ≡ record { op = Mul; left = a; right = b } → false ≡ fits_mul m (value a) (value b) → sum_result value r ≡ joined_sum m (value sum) (value a) (value b)
  mul_refused (Ok s) e sum a b is refused f = absurd is
  mul_refused (Err o) e sum a b is refused f =
      ap (λ t. Err (overflow_of value t)) (is ∙ refused) ∙ sym (joined_sum_mul m (value sum) (value a) (value b) f)

  -- where it fits, what the sum answers
  pub added : (r : Result N (Overflow N)) (sum product a b : N) → value product ≡ value a *ℚ value b → true ≡ fits_mul m (value a) (value b) → is_ok r ≡ fits_add m (value sum) (value product) → IfOk r (λ s. value s ≡ value sum +ℚ value product) → IfErr r (λ e. e ≡ record { op = Add; left = sum; right = product }) → sum_result value r ≡ joined_sum m (value sum) (value a) (value b)
  added (Ok s) sum product a b is f g exact refused =
      ap Ok (exact ∙ ap (λ t. value sum +ℚ t) is) ∙ sym (joined_sum_fits m (value sum) (value a) (value b) f (g ∙ ap (fits_add m (value sum)) is))
  added (Err e) sum product a b is f g exact refused =
      ap (λ t. Err (overflow_of value t)) refused
      ∙ ap (λ t. Err (record { op = Add; left = value sum; right = t })) is
      ∙ sym (joined_sum_add m (value sum) (value a) (value b) f (g ∙ ap (fits_add m (value sum)) is))
