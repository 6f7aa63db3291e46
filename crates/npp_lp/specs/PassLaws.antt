-- A dual answer and a Farkas answer pass their checks exactly where the sums fit.
use Rattle.std.specs.Prelude.{◌≡◌, ℕ, true, false, cond, List, length, Some, None, Ok, IsOk, is_ok, option_map, refl}
use Rattle.std.proofs.Common.{sym, ◌∙◌, ap}
use Rattle.npp_frac.specs.Rational.{Rational, zero_ℚ, is_less, ◌≤ℚ◌, ◌<ℚ◌}
use Rattle.npp_frac.specs.Order.{is_less_of_<ℚ, is_less_of_≤ℚ}
use Rattle.npp_frac.specs.declared.refusal.Overflow.{Overflow as Stop}
use Rattle.npp_lp.specs.declared.faults.DualFault.TheVariants as dual
use Rattle.npp_lp.specs.declared.faults.FarkasFault.TheVariants as farkas
use Rattle.npp_lp.specs.Verdict.{first_below, first_negative, unless, sum_fault}
use Rattle.npp_lp.specs.VerdictLaws.{first_below_none, first_below_clear, first_of_not_negative, unless_parts, unless_none, unless_fits, sum_fault_none}
use Rattle.npp_lp.specs.Programs.{LinearProgram, at, row_of, product_sum}
use Rattle.npp_lp.specs.Duals.{coefficient, right_value, IsDualAnswer, IsFarkasAnswer}
use Rattle.npp_lp.specs.Sums.{checked_sum, sum_overflow}
use Rattle.npp_lp.specs.Checked.{checked_column, checked_right, MultiplierSumsFit}
use Rattle.npp_lp.specs.DualVerdict as dual_check
use Rattle.npp_lp.specs.FarkasVerdict as farkas_check
use Rattle.npp_lp.specs.DualVerdict.{dual_verdict}
use Rattle.npp_lp.specs.FarkasVerdict.{farkas_verdict}
use Rattle.npp_lp.specs.AnswerLaws.{dual_value, farkas_value}

-- a sum that fits is formed
pub checked_sum_formed : (m n : ℕ) (a b : ℕ → Rational) → IsOk (checked_sum m n a b) → checked_sum m n a b ≡ Ok (product_sum n a b)
unfolding checked_sum
checked_sum_formed m n a b fits = unless_fits (sum_overflow m n a b) (product_sum n a b) fits

-- a sum that fits and is at least a bound is not below it
no_fault_at_least : {F : Type 0} → (m n : ℕ) (a b : ℕ → Rational) (bound : Rational) (overflow : Stop Rational → F) (fault : F) → IsOk (checked_sum m n a b) → bound ≤ℚ product_sum n a b → sum_fault overflow (λ s. cond (is_less s bound) (Some fault) None) (checked_sum m n a b) ≡ None
no_fault_at_least m n a b bound overflow fault fits h =
    let formed : checked_sum m n a b ≡ Ok (product_sum n a b) = checked_sum_formed m n a b fits in
    let enough : is_less (product_sum n a b) bound ≡ false = is_less_of_≤ℚ (product_sum n a b) bound h in
    rw (formed, enough) refl

pub dual_verdict_of_answer : (m : ℕ) (p : LinearProgram) (y : List Rational) (v : Rational) → IsDualAnswer p y v → MultiplierSumsFit m p y → dual_verdict m p y ≡ Ok v
unfolding dual_verdict
dual_verdict_of_answer m p y v d fits =
    let signs : option_map dual.NegativeRow (first_negative y) ≡ None = ap (option_map dual.NegativeRow) (first_of_not_negative y d.not_negative) in
    let columns : first_below p.columns (dual_check.column_fault m p y) ≡ None =
    first_below_clear (dual_check.column_fault m p y) p.columns (λ j l. no_fault_at_least m (length p.rows) (λ i. coefficient (row_of p i).terms j) (at y) (at p.goal j) dual.Overflow (dual.Column j) (fits.columns j l) (d.columns j l)) in
    let total : checked_right m p y ≡ Ok v = checked_sum_formed m (length p.rows) (λ i. (row_of p i).right) (at y) fits.right ∙ ap Ok (sym d.value) in
    unless_none _ _ signs ∙ unless_none _ _ columns ∙ ap dual_check.value_verdict total

farkas_value_below : (r : Rational) → r <ℚ zero_ℚ → farkas_check.value_verdict (Ok r) ≡ Ok tt
farkas_value_below r h = let below : is_less r zero_ℚ ≡ true = is_less_of_<ℚ r zero_ℚ h in rw below refl

pub farkas_verdict_of_answer : (m : ℕ) (p : LinearProgram) (y : List Rational) → IsFarkasAnswer p y → MultiplierSumsFit m p y → farkas_verdict m p y ≡ Ok tt
unfolding farkas_verdict
farkas_verdict_of_answer m p y f fits =
    let signs : option_map farkas.NegativeRow (first_negative y) ≡ None = ap (option_map farkas.NegativeRow) (first_of_not_negative y f.not_negative) in
    let columns : first_below p.columns (farkas_check.column_fault m p y) ≡ None =
    first_below_clear (farkas_check.column_fault m p y) p.columns (λ j l. no_fault_at_least m (length p.rows) (λ i. coefficient (row_of p i).terms j) (at y) zero_ℚ farkas.Overflow (farkas.Column j) (fits.columns j l) (f.columns j l)) in
    let total : checked_right m p y ≡ Ok (right_value p y) = checked_sum_formed m (length p.rows) (λ i. (row_of p i).right) (at y) fits.right in
    unless_none _ _ signs ∙ unless_none _ _ columns ∙ ap farkas_check.value_verdict total ∙ farkas_value_below (right_value p y) f.value

-- the sums of a check that is Ok fit
pub sums_fit_of_dual : (m : ℕ) (p : LinearProgram) (y : List Rational) (v : Rational) → dual_verdict m p y ≡ Ok v → MultiplierSumsFit m p y
unfolding dual_verdict
sums_fit_of_dual m p y v e =
    let rows = unless_parts (option_map dual.NegativeRow (first_negative y)) (unless (first_below p.columns (dual_check.column_fault m p y)) (dual_check.value_verdict (checked_right m p y))) v e in
    let columns = unless_parts (first_below p.columns (dual_check.column_fault m p y)) (dual_check.value_verdict (checked_right m p y)) v rows.1 in
    record {
      columns = λ j l. ap is_ok (sum_fault_none dual.Overflow (λ s. cond (is_less s (at p.goal j)) (Some (dual.Column j)) None) (checked_column m p y j) (first_below_none (dual_check.column_fault m p y) p.columns j columns.0 l)).1;
      right = ap is_ok (dual_value (checked_right m p y) v columns.1);
    }

pub sums_fit_of_farkas : (m : ℕ) (p : LinearProgram) (y : List Rational) → farkas_verdict m p y ≡ Ok tt → MultiplierSumsFit m p y
unfolding farkas_verdict
sums_fit_of_farkas m p y e =
    let rows = unless_parts (option_map farkas.NegativeRow (first_negative y)) (unless (first_below p.columns (farkas_check.column_fault m p y)) (farkas_check.value_verdict (checked_right m p y))) tt e in
    let columns = unless_parts (first_below p.columns (farkas_check.column_fault m p y)) (farkas_check.value_verdict (checked_right m p y)) tt rows.1 in
    record {
      columns = λ j l. ap is_ok (sum_fault_none farkas.Overflow (λ s. cond (is_less s zero_ℚ) (Some (farkas.Column j)) None) (checked_column m p y j) (first_below_none (farkas_check.column_fault m p y) p.columns j columns.0 l)).1;
      right = ap is_ok (farkas_value (checked_right m p y) columns.1).1;
    }
