-- What the verdicts say of a program.
use Rattle.std.specs.Prelude.{◌≡◌, ℕ, Bool, true, false, cond, List, length, slice_index_or, Some, None, Result, Ok, Err, option_map, refl}
use Rattle.std.proofs.Common.{sym, subst}
use Rattle.std.proofs.lemmas.List.{get_or_default}
use Rattle.npp_frac.specs.Rational.{Rational, zero_ℚ, is_less, ◌≤ℚ◌, ◌<ℚ◌}
use Rattle.npp_frac.specs.Order.{is_less_yes, is_less_no}
use Rattle.npp_frac.specs.declared.refusal.Overflow.{Overflow as Stop}
use Rattle.npp_lp.specs.declared.faults.DualFault.TheVariants as dual
use Rattle.npp_lp.specs.declared.faults.FarkasFault.TheVariants as farkas
use Rattle.npp_lp.specs.declared.faults.PrimalFault.TheVariants as primal
use Rattle.npp_lp.specs.Verdict.{first_below, first_negative, unless, sum_fault}
use Rattle.npp_lp.specs.VerdictLaws.{first_below_none, unless_parts, option_map_none, cond_none, sum_fault_none, not_negative_of_first}
use Rattle.npp_lp.specs.Programs.{Row, LinearProgram, at, row_of, no_row, product_sum, terms_at, goal_at, IsPoint}
use Rattle.npp_lp.specs.Duals.{coefficient, IsDualAnswer, IsFarkasAnswer}
use Rattle.npp_lp.specs.Sums.{checked_sum}
use Rattle.npp_lp.specs.SumLaws.{checked_sum_parts, terms_in_order}
use Rattle.npp_lp.specs.Checked.{no_term, checked_right, checked_goal}
use Rattle.npp_lp.specs.DualVerdict as dual_check
use Rattle.npp_lp.specs.FarkasVerdict as farkas_check
use Rattle.npp_lp.specs.PrimalVerdict as primal_check
use Rattle.npp_lp.specs.DualVerdict.{dual_verdict}
use Rattle.npp_lp.specs.FarkasVerdict.{farkas_verdict}
use Rattle.npp_lp.specs.PrimalVerdict.{primal_verdict}

-- a checked sum that is judged to be at least a bound is at least that
at_least_of_fault : {F : Type 0} → (m n : ℕ) (a b : ℕ → Rational) (bound : Rational) (overflow : Stop Rational → F) (fault : F) → sum_fault overflow (λ s. cond (is_less s bound) (Some fault) None) (checked_sum m n a b) ≡ None → bound ≤ℚ product_sum n a b
at_least_of_fault m n a b bound overflow fault e =
    let found = sum_fault_none overflow (λ s. cond (is_less s bound) (Some fault) None) (checked_sum m n a b) e in
    let P : Rational → Type 0 = λ q. bound ≤ℚ q in
    subst P (sym (checked_sum_parts m a b n found.0 found.1).1) (is_less_no found.0 bound (cond_none (is_less found.0 bound) fault found.2))

-- and one that is judged to be at most a bound is at most that
at_most_of_fault : {F : Type 0} → (m n : ℕ) (a b : ℕ → Rational) (bound : Rational) (overflow : Stop Rational → F) (fault : F) → sum_fault overflow (λ s. cond (is_less bound s) (Some fault) None) (checked_sum m n a b) ≡ None → product_sum n a b ≤ℚ bound
at_most_of_fault m n a b bound overflow fault e =
    let found = sum_fault_none overflow (λ s. cond (is_less bound s) (Some fault) None) (checked_sum m n a b) e in
    let P : Rational → Type 0 = λ q. q ≤ℚ bound in
    subst P (sym (checked_sum_parts m a b n found.0 found.1).1) (is_less_no bound found.0 (cond_none (is_less bound found.0) fault found.2))

pub dual_value : (r : Result Rational (Stop Rational)) (v : Rational) → dual_check.value_verdict r ≡ Ok v → r ≡ Ok v
dual_value (Ok w) v e = cc
dual_value (Err o) v e = cc

-- where a check of a dual answer is Ok, it is one, with that value
pub dual_verdict_sound : (m : ℕ) (p : LinearProgram) (y : List Rational) (v : Rational) → length y ≡ length p.rows → dual_verdict m p y ≡ Ok v → IsDualAnswer p y v
unfolding dual_verdict
dual_verdict_sound m p y v size e =
    let rows = unless_parts (option_map dual.NegativeRow (first_negative y)) (unless (first_below p.columns (dual_check.column_fault m p y)) (dual_check.value_verdict (checked_right m p y))) v e in
    let columns = unless_parts (first_below p.columns (dual_check.column_fault m p y)) (dual_check.value_verdict (checked_right m p y)) v rows.1 in
    let total = dual_value (checked_right m p y) v columns.1 in
    record {
      size = size;
      not_negative = not_negative_of_first y (option_map_none dual.NegativeRow (first_negative y) rows.0);
      columns = λ j l. at_least_of_fault m (length p.rows) (λ i. coefficient (row_of p i).terms j) (at y) (at p.goal j) dual.Overflow (dual.Column j) (first_below_none (dual_check.column_fault m p y) p.columns j columns.0 l);
      value = sym (checked_sum_parts m (λ i. (row_of p i).right) (at y) (length p.rows) v total).1;
    }

pub ok_of_cond : {T F : Type 0} → (t : T) (f : F) (b : Bool) → ◌≡◌ {A = Result T F} (cond b (Ok t) (Err f)) (Ok t) → b ≡ true
ok_of_cond t f true e = refl
ok_of_cond t f false e = cc

pub farkas_value : (r : Result Rational (Stop Rational)) → farkas_check.value_verdict r ≡ Ok tt → (v : Rational) × (r ≡ Ok v) × (v <ℚ zero_ℚ)
farkas_value (Ok w) e = (w, refl, is_less_yes w zero_ℚ (ok_of_cond (tt {0}) farkas.NotBelowZero (is_less w zero_ℚ) e))
farkas_value (Err o) e = cc

-- where a check of a Farkas answer is Ok, it is one
pub farkas_verdict_sound : (m : ℕ) (p : LinearProgram) (y : List Rational) → length y ≡ length p.rows → farkas_verdict m p y ≡ Ok tt → IsFarkasAnswer p y
unfolding farkas_verdict
farkas_verdict_sound m p y size e =
    let rows = unless_parts (option_map farkas.NegativeRow (first_negative y)) (unless (first_below p.columns (farkas_check.column_fault m p y)) (farkas_check.value_verdict (checked_right m p y))) tt e in
    let columns = unless_parts (first_below p.columns (farkas_check.column_fault m p y)) (farkas_check.value_verdict (checked_right m p y)) tt rows.1 in
    let total = farkas_value (checked_right m p y) columns.1 in
    let P : Rational → Type 0 = λ q. q <ℚ zero_ℚ in
    record {
      size = size;
      not_negative = not_negative_of_first y (option_map_none farkas.NegativeRow (first_negative y) rows.0);
      columns = λ j l. at_least_of_fault m (length p.rows) (λ i. coefficient (row_of p i).terms j) (at y) zero_ℚ farkas.Overflow (farkas.Column j) (first_below_none (farkas_check.column_fault m p y) p.columns j columns.0 l);
      value = subst P (sym (checked_sum_parts m (λ i. (row_of p i).right) (at y) (length p.rows) total.0 total.1).1) total.2;
    }

primal_value : (r : Result Rational (Stop Rational)) (v : Rational) → primal_check.value_verdict r ≡ Ok v → r ≡ Ok v
primal_value (Ok w) v e = cc
primal_value (Err o) v e = cc

-- where a check of a point is Ok, it is one
pub primal_verdict_point : (m : ℕ) (p : LinearProgram) (x : List Rational) (v : Rational) → length x ≡ p.columns → primal_verdict m p x ≡ Ok v → IsPoint p x
unfolding primal_verdict
primal_verdict_point m p x v size e =
    let columns = unless_parts (option_map primal.NegativeColumn (first_negative x)) (unless (first_below (length p.rows) (primal_check.row_fault m p x)) (primal_check.value_verdict (checked_goal m p x))) v e in
    let rows = unless_parts (first_below (length p.rows) (primal_check.row_fault m p x)) (primal_check.value_verdict (checked_goal m p x)) v columns.1 in
    record {
      size = size;
      not_negative = not_negative_of_first x (option_map_none primal.NegativeColumn (first_negative x) columns.0);
      rows = λ i d l.
          let here : terms_at (row_of p i).terms x ≤ℚ (row_of p i).right =
          rw (← terms_in_order (row_of p i).terms x) (at_most_of_fault m (length (row_of p i).terms) (λ k. (slice_index_or (row_of p i).terms k no_term).value) (λ k. at x (slice_index_or (row_of p i).terms k no_term).column) (row_of p i).right primal.Overflow (primal.Row i) (first_below_none (primal_check.row_fault m p x) (length p.rows) i rows.0 l)) in
          let P : Row → Type 0 = λ r. terms_at r.terms x ≤ℚ r.right in
          subst P (get_or_default p.rows i no_row d l) here;
    }

-- and its goal is the value
pub primal_verdict_goal : (m : ℕ) (p : LinearProgram) (x : List Rational) (v : Rational) → primal_verdict m p x ≡ Ok v → goal_at p x ≡ v
unfolding primal_verdict
primal_verdict_goal m p x v e =
    let columns = unless_parts (option_map primal.NegativeColumn (first_negative x)) (unless (first_below (length p.rows) (primal_check.row_fault m p x)) (primal_check.value_verdict (checked_goal m p x))) v e in
    let rows = unless_parts (first_below (length p.rows) (primal_check.row_fault m p x)) (primal_check.value_verdict (checked_goal m p x)) v columns.1 in
    (checked_sum_parts m (at p.goal) (at x) p.columns v (primal_value (checked_goal m p x) v rows.1)).1
