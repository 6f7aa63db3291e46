-- The sums of a check fit exactly where the answer passes it.
use Rattle.std.proofs.Common.{◌≡◌, ℕ, ◌<◌, Bool, true, false, ◌&&◌, List, refl, sym, arith}
use Rattle.std.specs.Prelude.{Result, Ok, Err, is_ok}
use Rattle.std.specs.List.{range_with_len, list_all}
use Rattle.npp_frac.specs.Rational.{Rational}
use Rattle.npp_lp.specs.declared.faults.DualFault.{DualFault}
use Rattle.npp_lp.specs.declared.faults.FarkasFault.{FarkasFault}
use Rattle.npp_lp.specs.Programs.{LinearProgram}
use Rattle.npp_lp.specs.Duals.{IsDualAnswer, IsFarkasAnswer}
use Rattle.npp_lp.specs.Checked.{checked_column, checked_right, MultiplierSumsFit}
use Rattle.npp_lp.specs.DualVerdict.{dual_verdict}
use Rattle.npp_lp.specs.FarkasVerdict.{farkas_verdict}
use Rattle.npp_lp.specs.PassLaws.{dual_verdict_of_answer, farkas_verdict_of_answer, sums_fit_of_dual, sums_fit_of_farkas}
use Rattle.npp_lp.specs.Meaning.{dual_result, farkas_result}
use Rattle.npp_inverse.specs.Work.{sums_fit}
use Rattle.npp_inverse.proofs.OfferLaws.{all_range, not_all_range}

in_range : (f : ℕ → Bool) (n j : ℕ) → list_all f (range_with_len 0 n) ≡ true → j < n → f j ≡ true
in_range f n j all l = by (f j) refl
  where
    by : (b : Bool) → f j ≡ b → b ≡ true
    by true e = refl
    by false e = (let none : list_all f (range_with_len 0 n) ≡ false = not_all_range f 0 n j (omega arith) (omega (arith, l)) e in cc)

first_of : (a b : Bool) → (a && b) ≡ true → a ≡ true
first_of true b e = refl
first_of false b e = cc

second_of : (a b : Bool) → (a && b) ≡ true → b ≡ true
second_of true b e = e
second_of false b e = cc

module _ (m : ℕ) (p : LinearProgram) (y : List Rational) where
  fit_yes : MultiplierSumsFit m p y → sums_fit m p y ≡ true
  fit_yes h =
      let columns : list_all (λ j. is_ok (checked_column m p y j)) (range_with_len 0 p.columns) ≡ true = all_range (λ j. is_ok (checked_column m p y j)) 0 p.columns (λ j l u. h.columns j (omega (arith, u))) in
      let right : is_ok (checked_right m p y) ≡ true = h.right in
      rw (columns, right) refl

  fit_of : sums_fit m p y ≡ true → MultiplierSumsFit m p y
  fit_of e = record {
    columns = λ j l. in_range (λ j. is_ok (checked_column m p y j)) p.columns j (first_of (list_all (λ j. is_ok (checked_column m p y j)) (range_with_len 0 p.columns)) (is_ok (checked_right m p y)) e) l;
    right = second_of (list_all (λ j. is_ok (checked_column m p y j)) (range_with_len 0 p.columns)) (is_ok (checked_right m p y)) e;
  }

  dual_passes : (v : Rational) → dual_verdict m p y ≡ Ok v → true ≡ sums_fit m p y
  dual_passes v e = sym (fit_yes (sums_fit_of_dual m p y v e))

  dual_fails : (v : Rational) (f : DualFault Rational) → IsDualAnswer p y v → dual_verdict m p y ≡ Err f → false ≡ sums_fit m p y
  dual_fails v f d e = by (sums_fit m p y) refl
    where
      by : (b : Bool) → sums_fit m p y ≡ b → false ≡ b
      by true t = (let passes = dual_verdict_of_answer m p y v d (fit_of t) in cc)
      by false t = refl

  farkas_passes : farkas_verdict m p y ≡ Ok tt → true ≡ sums_fit m p y
  farkas_passes e = sym (fit_yes (sums_fit_of_farkas m p y e))

  farkas_fails : (f : FarkasFault Rational) → IsFarkasAnswer p y → farkas_verdict m p y ≡ Err f → false ≡ sums_fit m p y
  farkas_fails f d e = by (sums_fit m p y) refl
    where
      by : (b : Bool) → sums_fit m p y ≡ b → false ≡ b
      by true t = (let passes = farkas_verdict_of_answer m p y d (fit_of t) in cc)
      by false t = refl

  -- whatever the code's numbers
  pub dual_tested : {N : Type 0} (value : N → Rational) (v : Rational) (r : Result N (DualFault N)) → IsDualAnswer p y v → dual_result value r ≡ dual_verdict m p y → is_ok r ≡ sums_fit m p y
  dual_tested value v (Ok w) d e = dual_passes (value w) (sym e)
  dual_tested value v (Err f) d e = dual_fails v _ d (sym e)

  pub farkas_tested : {N : Type 0} (value : N → Rational) (r : Result (Unit {0}) (FarkasFault N)) → IsFarkasAnswer p y → farkas_result value r ≡ farkas_verdict m p y → is_ok r ≡ sums_fit m p y
  farkas_tested value (Ok w) d e = farkas_passes (sym e)
  farkas_tested value (Err f) d e = farkas_fails _ d (sym e)
