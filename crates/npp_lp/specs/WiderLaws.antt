-- What fits at a width fits at each wider one, with the same value.
use Rattle.std.specs.Prelude.{◌≡◌, ℕ, ◌≤◌, Bool, true, false, List, length, Option, None, Ok, IsOk, is_ok, refl}
use Rattle.std.proofs.Common.{sym, ◌∙◌, ap}
use Rattle.npp_frac.specs.Rational.{Rational, ◌*ℚ◌}
use Rattle.npp_frac.specs.Fits.{fits_add, fits_mul}
use Rattle.npp_frac.specs.FitsLaws.{fits_add_wider, fits_mul_wider}
use Rattle.npp_frac.specs.declared.refusal.Overflow.{Overflow}
use Rattle.npp_lp.specs.VerdictLaws.{first_below_none, first_below_clear}
use Rattle.npp_lp.specs.Programs.{LinearProgram, row_of, product_sum, at}
use Rattle.npp_lp.specs.Duals.{coefficient}
use Rattle.npp_lp.specs.Sums.{joining_overflow, sum_overflow, checked_sum}
use Rattle.npp_lp.specs.SumLaws.{checked_sum_parts, checked_sum_fits}
use Rattle.npp_lp.specs.Checked.{MultiplierSumsFit}
use Rattle.npp_lp.specs.DualVerdict.{dual_verdict}
use Rattle.npp_lp.specs.FarkasVerdict.{farkas_verdict}
use Rattle.npp_lp.specs.AnswerLaws.{dual_verdict_sound, farkas_verdict_sound}
use Rattle.npp_lp.specs.PassLaws.{checked_sum_formed, dual_verdict_of_answer, farkas_verdict_of_answer, sums_fit_of_dual, sums_fit_of_farkas}

module _ (m n : ℕ) (le : m ≤ n) where
  by_tests : (sum a b : Rational) (f g f' g' : Bool) → f ≡ fits_mul m a b → g ≡ fits_add m sum (a *ℚ b) → f' ≡ fits_mul n a b → g' ≡ fits_add n sum (a *ℚ b) → joining_overflow m sum a b ≡ None → joining_overflow n sum a b ≡ None
  by_tests sum a b true true true true ef eg ef' eg' none = rw (← ef', ← eg') refl
  by_tests sum a b true true true false ef eg ef' eg' none = (let yes = fits_add_wider m n sum (a *ℚ b) le eg in let no : true ≡ false = yes ∙ sym eg' in cc)
  by_tests sum a b true true false g' ef eg ef' eg' none = (let yes = fits_mul_wider m n a b le ef in let no : true ≡ false = yes ∙ sym ef' in cc)
  by_tests sum a b true false f' g' ef eg ef' eg' none = (let stops = rw (← ef, ← eg) at none in cc)
  by_tests sum a b false g f' g' ef eg ef' eg' none = (let stops = rw (← ef) at none in cc)

  -- one product
  pub joins_wider : (sum a b : Rational) → joining_overflow m sum a b ≡ None → joining_overflow n sum a b ≡ None
  joins_wider sum a b none = by_tests sum a b (fits_mul m a b) (fits_add m sum (a *ℚ b)) (fits_mul n a b) (fits_add n sum (a *ℚ b)) refl refl refl refl none

  -- a sum
  pub checked_sum_wider : (k : ℕ) (a b : ℕ → Rational) (s : Rational) → checked_sum m k a b ≡ Ok s → checked_sum n k a b ≡ Ok s
  checked_sum_wider k a b s e =
      let parts = checked_sum_parts m a b k s e in
      let f : ℕ → Option (Overflow Rational) = λ i. joining_overflow m (product_sum i a b) (a i) (b i) in
      let g : ℕ → Option (Overflow Rational) = λ i. joining_overflow n (product_sum i a b) (a i) (b i) in
      let all : sum_overflow n k a b ≡ None = first_below_clear g k (λ i l. joins_wider (product_sum i a b) (a i) (b i) (first_below_none f k i parts.0 l)) in
      checked_sum_fits n a b k all ∙ ap Ok parts.1

  fits_wider : (k : ℕ) (a b : ℕ → Rational) → IsOk (checked_sum m k a b) → IsOk (checked_sum n k a b)
  fits_wider k a b fits = ap is_ok (checked_sum_wider k a b (product_sum k a b) (checked_sum_formed m k a b fits))

  -- the sums of multipliers
  pub multiplier_sums_wider : (p : LinearProgram) (y : List Rational) → MultiplierSumsFit m p y → MultiplierSumsFit n p y
  multiplier_sums_wider p y fits = record {
    columns = λ j l. fits_wider (length p.rows) (λ i. coefficient (row_of p i).terms j) (at y) (fits.columns j l);
    right = fits_wider (length p.rows) (λ i. (row_of p i).right) (at y) fits.right;
  }

  -- a dual answer that passes its check
  pub dual_verdict_wider : (p : LinearProgram) (y : List Rational) (v : Rational) → length y ≡ length p.rows → dual_verdict m p y ≡ Ok v → dual_verdict n p y ≡ Ok v
  dual_verdict_wider p y v size e = dual_verdict_of_answer n p y v (dual_verdict_sound m p y v size e) (multiplier_sums_wider p y (sums_fit_of_dual m p y v e))

  -- a Farkas answer that passes its check
  pub farkas_verdict_wider : (p : LinearProgram) (y : List Rational) → length y ≡ length p.rows → farkas_verdict m p y ≡ Ok tt → farkas_verdict n p y ≡ Ok tt
  farkas_verdict_wider p y size e = farkas_verdict_of_answer n p y (farkas_verdict_sound m p y size e) (multiplier_sums_wider p y (sums_fit_of_farkas m p y e))
