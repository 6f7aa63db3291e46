-- The sums of the rows that multipliers name are those of all rows, with 0 for each other row.
use Rattle.std.proofs.Common.{◌≡◌, ℕ, zero, suc, ◌+◌, ◌-◌, ◌<◌, ◌≤◌, List, [], ◌∷◌, ◌++◌, length, Bool, true, false, cond, Option, Some, None, Result, Ok, Err, refl, sym, ◌∙◌, ap, ap₂, subst, arith}
use Rattle.std.specs.Prelude.{option_map}
use Rattle.std.specs.List.{fold}
use Rattle.std.proofs.lemmas.List.Sums.{fold-append}
use Rattle.std.proofs.lemmas.List.FromFn.{length-map-range_with_len}
use Rattle.npp_frac.specs.Rational.{Rational, zero_ℚ, is_less, ◌+ℚ◌, ◌*ℚ◌}
use Rattle.npp_frac.specs.Fits.{FitsBelow, IsWidth, limit_of, fits_add, fits_mul}
use Rattle.npp_frac.specs.FitsResults.{FitsBelow-sum, FitsAdd_of}
use Rattle.npp_frac.specs.ZeroLaws.{FitsBelow-zero}
use Rattle.npp_frac.specs.Order.{is_less_of_≤ℚ, ≤ℚ_refl}
use Rattle.npp_frac.specs.Sums.{sum_by, sum_to}
use Rattle.npp_frac.specs.declared.refusal.Overflow.{Overflow}
use Rattle.npp_lp.specs.declared.multiplier.RowMultiplier.{RowMultiplier}
use Rattle.npp_lp.specs.Verdict.{or_else, first_below, first_negative, unless, sum_fault}
use Rattle.npp_lp.specs.VerdictLaws.{first_below_same}
use Rattle.npp_lp.specs.Programs.{LinearProgram, at, row_of, product_sum}
use Rattle.npp_lp.specs.Duals.{coefficient}
use Rattle.npp_lp.specs.Sums.{joining_overflow, joined_sum, sum_overflow, checked_sum}
use Rattle.npp_lp.specs.SumLaws.{checked_sum_none, joined_sum_fits, joined_sum_mul, joined_sum_add}
use Rattle.npp_lp.specs.ZeroSums.{joined_sum-zero_right}
use Rattle.npp_lp.specs.Checked.{checked_column, checked_right}
use Rattle.npp_lp.specs.declared.faults.DualFault.TheVariants as dual
use Rattle.npp_lp.specs.declared.faults.FarkasFault.TheVariants as farkas
use Rattle.npp_lp.specs.DualVerdict as dual_check
use Rattle.npp_lp.specs.FarkasVerdict as farkas_check
use Rattle.npp_lp.specs.DualVerdict.{dual_verdict}
use Rattle.npp_lp.specs.FarkasVerdict.{farkas_verdict}
use Rattle.npp_lp.specs.Sparse.{AreRowMultipliers, multiplier_at, dense}
use Rattle.npp_lp.specs.SparseLaws.{RiseFrom, rise_of_multipliers, none_before, first_named, later_named, at-dense}
use Rattle.npp_lp.specs.RunningSums.{Sums, column_of, joined, first_negative_row, AreEmpty, TakesRow, taken_sum, AreSumsOf, dual_of_sums, farkas_of_sums}

-- what is formed over all rows in order, with nothing to do where a multiplier is 0, is formed over the named rows alone
module _ {S : Type 0} (P : ℕ → S) (step : S → ℕ → Rational → S) (b : ℕ → Rational) (n : ℕ) (more : (i : ℕ) → i < n → step (P i) i (b i) ≡ P (suc i)) (skip : (i : ℕ) → i < n → b i ≡ zero_ℚ → P (suc i) ≡ P i) where
  passed : (a k : ℕ) → a + k ≤ n → ((i : ℕ) → a ≤ i → i < a + k → b i ≡ zero_ℚ) → P (a + k) ≡ P a
  passed a zero h none = ap P (omega arith)
  passed a (suc k) h none =
      let next : a + suc k ≡ suc (a + k) = omega arith in
      ap P next ∙ skip (a + k) (omega arith) (none (a + k) (omega arith) (omega arith)) ∙ passed a k (omega arith) (λ i l m. none i l (omega arith))

  passed_to : (a e : ℕ) → a ≤ e → e ≤ n → ((i : ℕ) → a ≤ i → i < e → b i ≡ zero_ℚ) → P e ≡ P a
  passed_to a e l h none =
      let end : a + (e - a) ≡ e = omega arith in
      ap P (sym end) ∙ passed a (e - a) (omega arith) (λ i k m. none i k (omega arith))

  pub folded : (a : ℕ) (ys : List (RowMultiplier Rational)) → RiseFrom a n ys → ((i : ℕ) → a ≤ i → i < n → b i ≡ multiplier_at ys i) → fold (λ s y. step s y.row y.value) (P a) ys ≡ P n
  unfolding sum_by
  folded a [] rise same = sym (passed_to a n rise (omega arith) (λ i l m. same i l m))
  folded a (y ∷ ys) rise same =
      let before : P y.row ≡ P a = passed_to a y.row rise.0 (omega (arith, rise.1)) (λ i l m. same i l (omega (arith, rise.1)) ∙ none_before n y.row i (y ∷ ys) (omega arith, rise.1, rise.2) m) in
      let here : b y.row ≡ y.value = same y.row rise.0 rise.1 ∙ first_named n a y ys rise in
      let next : step (P a) y.row y.value ≡ P (y.row + 1) = ap₂ (λ s q. step s y.row q) (sym before) (sym here) ∙ more y.row rise.1 ∙ ap P (omega arith) in
      ap (λ s. fold (λ t z. step t z.row z.value) s ys) next
      ∙ folded (y.row + 1) ys rise.2 (λ i l m. same i (omega (arith, rise.0)) m ∙ later_named y ys i (omega arith))

-- ---- sums

joined_none : (m : ℕ) (o : Option (Overflow Rational)) (s a b : Rational) → joined m (unless o (Ok s)) a b ≡ unless (or_else o (joining_overflow m s a b)) (Ok (s +ℚ a *ℚ b))
unfolding joined_sum
joined_none m None s a b = refl
joined_none m (Some o) s a b = refl

-- one more row
pub joined_more : (m i : ℕ) (a b : ℕ → Rational) → joined m (checked_sum m i a b) (a i) (b i) ≡ checked_sum m (suc i) a b
unfolding checked_sum sum_to
joined_more m i a b = joined_none m (sum_overflow m i a b) (product_sum i a b) (a i) (b i)

joined_fits : (m : ℕ) (s a b t : Rational) (f g : Bool) → f ≡ fits_mul m a b → g ≡ fits_add m s (a *ℚ b) → joined_sum m s a b ≡ Ok t → FitsBelow m t
joined_fits m s a b t false g ef eg e = (let no = joined_sum_mul m s a b ef in cc)
joined_fits m s a b t true false ef eg e = (let no = joined_sum_add m s a b ef eg in cc)
joined_fits m s a b t true true ef eg e =
    let is = joined_sum_fits m s a b ef eg in
    subst (FitsBelow m) (let same : s +ℚ a *ℚ b ≡ t = cc in same) (FitsBelow-sum m s (a *ℚ b) (FitsAdd_of m s (a *ℚ b) eg))

-- a sum that was formed is a value of the width
pub joined_below : (m : ℕ) (r : Result Rational (Overflow Rational)) (a b t : Rational) → joined m r a b ≡ Ok t → FitsBelow m t
joined_below m (Ok s) a b t e = joined_fits m s a b t (fits_mul m a b) (fits_add m s (a *ℚ b)) refl refl e
joined_below m (Err o) a b t e = cc

pub checked_sum_below : (w i : ℕ) (a b : ℕ → Rational) (t : Rational) → IsWidth w → checked_sum (limit_of w) i a b ≡ Ok t → FitsBelow (limit_of w) t
checked_sum_below w zero a b t wide e =
    let none = checked_sum_none (limit_of w) a b in
    subst (FitsBelow (limit_of w)) (let same : zero_ℚ ≡ t = cc in same) (FitsBelow-zero w wide)
checked_sum_below w (suc i) a b t wide e = joined_below (limit_of w) (checked_sum (limit_of w) i a b) (a i) (b i) t (joined_more (limit_of w) i a b ∙ e)

-- a multiplier of 0 changes no sum
pub joined-zero : (w : ℕ) (r : Result Rational (Overflow Rational)) (a b : Rational) → IsWidth w → ((t : Rational) → r ≡ Ok t → FitsBelow (limit_of w) t) → b ≡ zero_ℚ → joined (limit_of w) r a b ≡ r
joined-zero w (Ok s) a b wide fits e = joined_sum-zero_right w s a b wide (fits s refl) e
joined-zero w (Err o) a b wide fits e = refl

module _ (w : ℕ) (wide : IsWidth w) (n : ℕ) (ys : List (RowMultiplier Rational)) (are : AreRowMultipliers n ys) where
  rise : RiseFrom 0 n ys
  rise = rise_of_multipliers n ys are

  same_at : (i : ℕ) → 0 ≤ i → i < n → at (dense n ys) i ≡ multiplier_at ys i
  same_at i l m = at-dense n ys i m

  pub taken_is_checked : (a : ℕ → Rational) → taken_sum (limit_of w) a ys ≡ checked_sum (limit_of w) n a (at (dense n ys))
  taken_is_checked a =
      let P : ℕ → Result Rational (Overflow Rational) = λ i. checked_sum (limit_of w) i a (at (dense n ys)) in
      ap (λ r. fold (λ s y. joined (limit_of w) s (a y.row) y.value) r ys) (sym (checked_sum_none (limit_of w) a (at (dense n ys))))
      ∙ folded P (λ s i v. joined (limit_of w) s (a i) v) (at (dense n ys)) n
      (λ i l. joined_more (limit_of w) i a (at (dense n ys)))
      (λ i l e. sym (joined_more (limit_of w) i a (at (dense n ys))) ∙ joined-zero w (P i) (a i) (at (dense n ys) i) wide (λ t f. checked_sum_below w i a (at (dense n ys)) t wide f) e)
      0 ys rise same_at

  none_at_zero : (i : ℕ) (q : Rational) → q ≡ zero_ℚ → cond (is_less q zero_ℚ) (Some i) None ≡ None
  none_at_zero i q e = let no : is_less q zero_ℚ ≡ false = ap (λ t. is_less t zero_ℚ) e ∙ is_less_of_≤ℚ zero_ℚ zero_ℚ (≤ℚ_refl zero_ℚ) in rw no refl

  or_none : {F : Type 0} → (o : Option F) → or_else o None ≡ o
  or_none None = refl
  or_none (Some x) = refl

  pub taken_negative : fold (λ first y. first_negative_row first y.row y.value) None ys ≡ first_negative (dense n ys)
  taken_negative =
      let f : ℕ → Option ℕ = λ i. cond (is_less (at (dense n ys) i) zero_ℚ) (Some i) None in
      let size : length (dense n ys) ≡ n = length-map-range_with_len (multiplier_at ys) 0 n in
      folded (λ i. first_below i f) (λ s i v. first_negative_row s i v) (at (dense n ys)) n (λ i l. refl)
      (λ i l e. ap (or_else (first_below i f)) (none_at_zero i (at (dense n ys) i) e) ∙ or_none (first_below i f)) 0 ys rise same_at
      ∙ ap (λ k. first_below k f) (sym size)

-- ---- a row more, and the verdicts

-- no row, no sum
pub sums_of_none : (m : ℕ) (p : LinearProgram) (s : Sums Rational) → AreEmpty p.columns s → AreSumsOf m p [] s
sums_of_none m p s h = record { size = h.size; negative = h.negative; columns = h.columns; right = h.right }

-- the sums with one more row of the program
pub sums_of_more : (m : ℕ) (p : LinearProgram) (ys : List (RowMultiplier Rational)) (y : RowMultiplier Rational) (s t : Sums Rational) → AreSumsOf m p ys s → TakesRow m s t y.row (row_of p y.row).terms (row_of p y.row).right y.value → AreSumsOf m p (ys ++ y ∷ []) t
sums_of_more m p ys y s t are takes = record {
  size = takes.size ∙ are.size;
  negative = takes.negative ∙ ap (λ o. first_negative_row o y.row y.value) are.negative ∙ sym (fold-append (λ first z. first_negative_row first z.row z.value) None ys (y ∷ []));
  columns = λ j l. takes.columns j (rw are.size l) ∙ ap (λ r. joined m r (coefficient (row_of p y.row).terms j) y.value) (are.columns j l) ∙ sym (fold-append (λ r z. joined m r (coefficient (row_of p z.row).terms j) z.value) (Ok zero_ℚ) ys (y ∷ []));
  right = takes.right ∙ ap (λ r. joined m r (row_of p y.row).right y.value) are.right ∙ sym (fold-append (λ r z. joined m r (row_of p z.row).right z.value) (Ok zero_ℚ) ys (y ∷ []));
}

module _ (w : ℕ) (wide : IsWidth w) (p : LinearProgram) (ys : List (RowMultiplier Rational)) (s : Sums Rational) (named : AreRowMultipliers (length p.rows) ys) (are : AreSumsOf (limit_of w) p ys s) where
  -- the sum of a column is the checked sum over all rows
  pub column_is : (j : ℕ) → j < p.columns → column_of s j ≡ checked_column (limit_of w) p (dense (length p.rows) ys) j
  column_is j l = are.columns j l ∙ taken_is_checked w wide (length p.rows) ys named (λ i. coefficient (row_of p i).terms j)

  pub right_is : s.right ≡ checked_right (limit_of w) p (dense (length p.rows) ys)
  right_is = are.right ∙ taken_is_checked w wide (length p.rows) ys named (λ i. (row_of p i).right)

  negative_is : s.negative ≡ first_negative (dense (length p.rows) ys)
  negative_is = are.negative ∙ taken_negative w wide (length p.rows) ys named

  -- the sums of the named rows have the verdict of a check of the whole vector
  pub dual_of_sums_is : dual_of_sums s p.goal ≡ dual_verdict (limit_of w) p (dense (length p.rows) ys)
  unfolding dual_verdict
  dual_of_sums_is =
      ap₂ (λ o n. dual_check.dual_judgement o n (column_of s) p.goal s.right) negative_is are.size
      ∙ ap₂ (λ f r. unless (option_map dual.NegativeRow (first_negative (dense (length p.rows) ys))) (unless f (dual_check.value_verdict r)))
      (first_below_same p.columns (dual_check.sum_fault_at (column_of s) p.goal) (dual_check.column_fault (limit_of w) p (dense (length p.rows) ys)) (λ j l. ap (sum_fault dual.Overflow (λ x. cond (is_less x (at p.goal j)) (Some (dual.Column j)) None)) (column_is j l)))
      right_is

  pub farkas_of_sums_is : farkas_of_sums s ≡ farkas_verdict (limit_of w) p (dense (length p.rows) ys)
  unfolding farkas_verdict
  farkas_of_sums_is =
      ap₂ (λ o n. farkas_check.farkas_judgement o n (column_of s) s.right) negative_is are.size
      ∙ ap₂ (λ f r. unless (option_map farkas.NegativeRow (first_negative (dense (length p.rows) ys))) (unless f (farkas_check.value_verdict r)))
      (first_below_same p.columns (farkas_check.sum_fault_at (column_of s)) (farkas_check.column_fault (limit_of w) p (dense (length p.rows) ys)) (λ j l. ap (sum_fault farkas.Overflow (λ x. cond (is_less x zero_ℚ) (Some (farkas.Column j)) None)) (column_is j l)))
      right_is
