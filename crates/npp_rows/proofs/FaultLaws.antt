-- Chains of faults: what is answered where each earlier test passes.
use Rattle.std.proofs.Common.{◌≡◌, ℕ, Bool, true, false, List, Option, Some, None, Result, Ok, Err, refl, sym, ap, subst, ◌∙◌, inl, inr}
use Rattle.std.specs.Prelude.{◌⊎◌, ◌&&◌, not, nat_lt, IfOk, OnErr, IsErrAnd, MatchResult}
use Rattle.npp_frac.specs.Rational.{Rational}
use Rattle.npp_frac.specs.Fits.{limit_of}
use Rattle.npp_lp.specs.declared.faults.FarkasFault.{FarkasFault}
use Rattle.npp_lp.specs.FarkasVerdict.{farkas_verdict}
use Rattle.npp_lp.specs.Verdict.{or_else, unless}
use Rattle.npp_rows.specs.declared.names.Multiplier.{Multiplier}
use Rattle.npp_rows.specs.declared.cut.CutRow.{CutRow}
use Rattle.npp_rows.specs.declared.cut.CutFault.{CutFault}
use Rattle.npp_rows.specs.declared.cut.CutFault.TheVariants.{BadName, BadOrder, NotPositive, Memory}
use Rattle.npp_rows.specs.PathModel.{PathModel}
use Rattle.npp_rows.specs.RowOrder.{are_rows, are_in_order, are_positive, multipliers_of}
use Rattle.npp_rows.specs.Named.{NamedProgram, numbered}
use Rattle.npp_rows.specs.Cuts.{Cut, IsCut, conflict_cut}
use Rattle.npp_rows.specs.Inverse.{conflict_program}
use Rattle.npp_rows.specs.Meaning.{cut_value, cut_fault_value, derivation_result}
use Rattle.npp_rows.specs.Derivations.{fault_if, is_path, multipliers_fault, farkas_fault, farkas_cut_fault, conflict_fault}
use Rattle.npp_rows.specs.Taken.{Taken, AreAdded, AreTaken}

-- ---- one test after another

module _ {T : Type 0} where
  -- a test that fails gives its fault
  pub refused_here : (b : Bool) (f : CutFault Rational) (rest : Option (CutFault Rational)) (a : Result T (CutFault Rational)) → b ≡ false → Err f ≡ unless (or_else (fault_if (not b) f) rest) a
  refused_here true f rest a e = cc
  refused_here false f rest a e = refl

  -- after a test that passes the rest is judged
  pub judged_later : (b : Bool) (f : CutFault Rational) (rest : Option (CutFault Rational)) (a : Result T (CutFault Rational)) → b ≡ true → unless (or_else (fault_if (not b) f) rest) a ≡ unless rest a
  judged_later true f rest a e = refl
  judged_later false f rest a e = cc

  -- a fault that is found
  pub refused_by : (o rest : Option (CutFault Rational)) (f : CutFault Rational) (a : Result T (CutFault Rational)) → o ≡ Some f → Err f ≡ unless (or_else o rest) a
  refused_by None rest f a e = cc
  refused_by (Some x) rest f a e = ap Err (let same : f ≡ x = cc in same)

  -- and none
  pub judged_after : (o rest : Option (CutFault Rational)) (a : Result T (CutFault Rational)) → o ≡ None → unless (or_else o rest) a ≡ unless rest a
  judged_after None rest a e = refl
  judged_after (Some x) rest a e = cc

  -- ---- names, order and sign

  first_of_three : (a b c : Bool) (rest : Option (CutFault Rational)) (r : Result T (CutFault Rational)) → a ≡ false
      → Err BadName ≡ unless (or_else (or_else (fault_if (not a) BadName) (or_else (fault_if (not b) BadOrder) (fault_if (not c) NotPositive))) rest) r
  first_of_three true b c rest r e = cc
  first_of_three false b c rest r e = refl

  second_of_three : (a b c : Bool) (rest : Option (CutFault Rational)) (r : Result T (CutFault Rational)) → a ≡ true → b ≡ false
      → Err BadOrder ≡ unless (or_else (or_else (fault_if (not a) BadName) (or_else (fault_if (not b) BadOrder) (fault_if (not c) NotPositive))) rest) r
  second_of_three true true c rest r e f = cc
  second_of_three true false c rest r e f = refl
  second_of_three false b c rest r e f = cc

  third_of_three : (a b c : Bool) (rest : Option (CutFault Rational)) (r : Result T (CutFault Rational)) → a ≡ true → b ≡ true → c ≡ false
      → Err NotPositive ≡ unless (or_else (or_else (fault_if (not a) BadName) (or_else (fault_if (not b) BadOrder) (fault_if (not c) NotPositive))) rest) r
  third_of_three true true true rest r e f h = cc
  third_of_three true true false rest r e f h = refl
  third_of_three true false c rest r e f h = cc
  third_of_three false b c rest r e f h = cc

  none_of_three : (a b c : Bool) (rest : Option (CutFault Rational)) (r : Result T (CutFault Rational)) → a ≡ true → b ≡ true → c ≡ true
      → unless (or_else (or_else (fault_if (not a) BadName) (or_else (fault_if (not b) BadOrder) (fault_if (not c) NotPositive))) rest) r ≡ unless rest r
  none_of_three true true true rest r e f h = refl
  none_of_three true true false rest r e f h = cc
  none_of_three true false c rest r e f h = cc
  none_of_three false b c rest r e f h = cc

  module _ (p : NamedProgram) (ys : List (Multiplier Rational)) (rest : Option (CutFault Rational)) (a : Result T (CutFault Rational)) where
    pub refused_for_rows : are_rows p.rows ys ≡ false → Err BadName ≡ unless (or_else (multipliers_fault p ys) rest) a
    refused_for_rows e = first_of_three (are_rows p.rows ys) (are_in_order ys) (are_positive ys) rest a e

    pub refused_for_order : are_rows p.rows ys ≡ true → are_in_order ys ≡ false → Err BadOrder ≡ unless (or_else (multipliers_fault p ys) rest) a
    refused_for_order e f = second_of_three (are_rows p.rows ys) (are_in_order ys) (are_positive ys) rest a e f

    pub refused_for_sign : are_rows p.rows ys ≡ true → are_in_order ys ≡ true → are_positive ys ≡ false → Err NotPositive ≡ unless (or_else (multipliers_fault p ys) rest) a
    refused_for_sign e f h = third_of_three (are_rows p.rows ys) (are_in_order ys) (are_positive ys) rest a e f h

    pub multipliers_pass : are_rows p.rows ys ≡ true → are_in_order ys ≡ true → are_positive ys ≡ true → unless (or_else (multipliers_fault p ys) rest) a ≡ unless rest a
    multipliers_pass e f h = none_of_three (are_rows p.rows ys) (are_in_order ys) (are_positive ys) rest a e f h

-- ---- rows of the code

module _ {N : Type 0} (value : N → Rational) where
  -- a row that is answered is the row of the verdict
  pub cut_of_verdict : (f : Option (CutFault Rational)) (want : Cut) (r : Result (CutRow N) (CutFault N)) → (r ≡ Err Memory) ⊎ (derivation_result value r ≡ unless f (Ok want)) → IfOk r (λ c. cut_value value c ≡ want)
  cut_of_verdict f want (Err e) h = tt
  cut_of_verdict None want (Ok c) (inl e) = cc
  cut_of_verdict None want (Ok c) (inr e) = cc
  cut_of_verdict (Some x) want (Ok c) (inl e) = cc
  cut_of_verdict (Some x) want (Ok c) (inr e) = cc

  pub cut_given : (m : PathModel) (want : Cut) (r : Result (CutRow N) (CutFault N)) → IsCut m want → IfOk r (λ c. cut_value value c ≡ want) → IfOk r (λ c. IsCut m (cut_value value c))
  cut_given m want (Ok c) is e = subst (λ (d : Cut). IsCut m d) (sym e) is
  cut_given m want (Err f) is e = tt

  pub row_given : (want : Cut) (v : Result Cut (CutFault Rational)) (r : Result (CutRow N) (CutFault N)) → v ≡ Ok want → IfOk r (λ c. cut_value value c ≡ want) → OnErr r (r ≡ Err Memory)
      → (r ≡ Err Memory) ⊎ (derivation_result value r ≡ v)
  row_given want v (Ok c) e row refused = inr ((let is : ◌≡◌ {A = Result Cut (CutFault Rational)} (Ok (cut_value value c)) (Ok want) = ap Ok row in is) ∙ sym e)
  row_given want v (Err f) e row refused = inl refused

  -- the verdict of another chain of faults
  pub verdict_moved : (v u : Result Cut (CutFault Rational)) (r : Result (CutRow N) (CutFault N)) → v ≡ u → (r ≡ Err Memory) ⊎ (derivation_result value r ≡ v) → (r ≡ Err Memory) ⊎ (derivation_result value r ≡ u)
  verdict_moved v u r e (inl h) = inl h
  verdict_moved v u r e (inr h) = inr (h ∙ e)

  -- a fault that is handed on
  pub fault_handed : (v : Result Cut (CutFault Rational)) (r : Result (CutRow N) (CutFault N)) (f : CutFault N) → IsErrAnd r (λ e. e ≡ f) → (f ≡ Memory) ⊎ (Err (cut_fault_value value f) ≡ v)
      → (r ≡ Err Memory) ⊎ (derivation_result value r ≡ v)
  fault_handed v (Ok c) f is h = absurd is
  fault_handed v (Err e) f is (inl m) = inl (ap Err (is ∙ m))
  fault_handed v (Err e) f is (inr h) = inr (ap (λ x. Err (cut_fault_value value x)) is ∙ h)

  pub found_handed : {T : Type 0} (r : Result T (CutFault N)) (f : CutFault N) (P : T → Type 0) (o : Option (CutFault Rational)) → IsErrAnd r (λ e. e ≡ f) → o ≡ Some (cut_fault_value value f)
      → MatchResult r P (λ e. o ≡ Some (cut_fault_value value e))
  found_handed (Ok x) f P o is h = absurd is
  found_handed (Err e) f P o is h = h ∙ ap (λ x. Some (cut_fault_value value x)) (sym is)

  pub found_or_memory : {T : Type 0} (r : Result T (CutFault N)) (f : CutFault N) (P : T → Type 0) (o : Option (CutFault Rational)) → IsErrAnd r (λ e. e ≡ f) → (f ≡ Memory) ⊎ (o ≡ Some (cut_fault_value value f))
      → MatchResult r P (λ e. (e ≡ Memory) ⊎ (o ≡ Some (cut_fault_value value e)))
  found_or_memory (Ok x) f P o is h = absurd is
  found_or_memory (Err e) f P o is (inl m) = inl (is ∙ m)
  found_or_memory (Err e) f P o is (inr h) = inr (h ∙ ap (λ x. Some (cut_fault_value value x)) (sym is))

-- ---- conflicts

module _ {N : Type 0} (value : N → Rational) (w : ℕ) (m : PathModel) (k p l q : ℕ) (ys : List (Multiplier Rational)) (names : (nat_lt k l && is_path m k p && is_path m l q) ≡ true)
    (rows : are_rows (conflict_program m k p l q).rows ys ≡ true) (order : are_in_order ys ≡ true) (positive : are_positive ys ≡ true) where
  pub all_taken : (t : Taken N) → AreAdded value (limit_of w) (conflict_program m k p l q) ys t → AreTaken value (limit_of w) (conflict_program m k p l q) ys t
  all_taken t added = record { rows = rows; order = order; positive = positive; added = added }

  only_sums : unless (conflict_fault (limit_of w) m k p l q ys) (Ok (conflict_cut k p l q)) ≡ unless (farkas_fault (limit_of w) (conflict_program m k p l q) ys) (Ok (conflict_cut k p l q))
  only_sums =
      judged_later (nat_lt k l && is_path m k p && is_path m l q) BadName (or_else (multipliers_fault (conflict_program m k p l q) ys) (farkas_fault (limit_of w) (conflict_program m k p l q) ys)) (Ok (conflict_cut k p l q)) names
      ∙ multipliers_pass (conflict_program m k p l q) ys (farkas_fault (limit_of w) (conflict_program m k p l q) ys) (Ok (conflict_cut k p l q)) rows order positive

  pub conflict_proved : Ok tt ≡ farkas_verdict (limit_of w) (numbered (conflict_program m k p l q)) (multipliers_of (conflict_program m k p l q).rows ys)
      → unless (conflict_fault (limit_of w) m k p l q ys) (Ok (conflict_cut k p l q)) ≡ Ok (conflict_cut k p l q)
  conflict_proved e = only_sums ∙ ap (λ (r : Result (Unit {0}) (FarkasFault Rational)). unless (farkas_cut_fault r) (Ok (conflict_cut k p l q))) (sym e)

  pub conflict_refused : (f : FarkasFault Rational) (x : CutFault Rational) → Err f ≡ farkas_verdict (limit_of w) (numbered (conflict_program m k p l q)) (multipliers_of (conflict_program m k p l q).rows ys)
      → Some x ≡ farkas_cut_fault (Err f) → Err x ≡ unless (conflict_fault (limit_of w) m k p l q ys) (Ok (conflict_cut k p l q))
  conflict_refused f x e same =
      sym (only_sums ∙ ap (λ (r : Result (Unit {0}) (FarkasFault Rational)). unless (farkas_cut_fault r) (Ok (conflict_cut k p l q))) (sym e)
      ∙ ap (λ (o : Option (CutFault Rational)). unless o (Ok (conflict_cut k p l q))) (sym same))
