-- The multipliers above 0 of a dual answer, and of a Farkas answer, pass the check of a block.
use Rattle.std.proofs.Common.{◌≡◌, ℕ, ◌<◌, Bool, true, false, List, length, get_or, Option, Some, None, All, refl, ap, ◌∙◌, arith}
use Rattle.std.specs.Prelude.{not, is_ok}
use Rattle.std.specs.List.{AllPairs, range_with_len, list_all}
use Rattle.std.proofs.lemmas.Bool.{and_parts}
use Rattle.std.proofs.lemmas.List.{length-map}
use Rattle.npp_frac.specs.Rational.{Rational}
use Rattle.npp_lp.specs.Programs.{LinearProgram, IsLinearProgram, AreTerms}
use Rattle.npp_lp.specs.Checked.{checked_column, checked_right, MultiplierSumsFit}
use Rattle.std.proofs.lemmas.List.Elements.{All-map}
use Rattle.npp_lp.specs.Duals.{IsDualAnswer, IsFarkasAnswer}
use Rattle.npp_lp.specs.DualVerdict.{dual_verdict}
use Rattle.npp_lp.specs.FarkasVerdict.{farkas_verdict}
use Rattle.npp_lp.specs.PassLaws.{dual_verdict_of_answer, farkas_verdict_of_answer}
use Rattle.npp_rows.specs.declared.cut.CutFault.{CutFault}
use Rattle.npp_rows.specs.declared.cut.CutFault.TheVariants.{BadName, BadOrder, NotPositive}
use Rattle.npp_lp.specs.Verdict.{or_else}
use Rattle.npp_rows.specs.Named.{NamedProgram, numbered}
use Rattle.npp_rows.specs.RowOrder.{is_before, are_rows, are_in_order, are_positive}
use Rattle.npp_leaf.specs.PositiveMultipliers.{positive_multipliers}
use Rattle.npp_rows.specs.Derivations.{multipliers_fault, fault_if}
use Rattle.npp_rows.proofs.NamedLaws.{terms_are_in_order}
use Rattle.npp_rows.proofs.ProgramLaws.{row_named}
use Rattle.npp_leaf.proofs.PositiveLaws.{positive_rows, positive_rise, positive_signs, positive_again}
use Rattle.npp_inverse.specs.Work.{sums_fit}
use Rattle.npp_inverse.proofs.OfferLaws.{not_all_range}
use Rattle.npp_leaf.specs.Passes.{PassesAsDual, PassesAsFarkas}

-- ---- a named program is a linear program

pub program_rows : (p : NamedProgram) → All (λ r. AreTerms (numbered p).columns r.terms) (numbered p).rows
program_rows p =
    All-map (λ r. AreTerms (length p.columns) r.terms) (row_named p) p.rows (λ i d l. terms_are_in_order (p.entry (get_or p.rows i d)) p.columns)

pub program_is : (p : NamedProgram) → IsLinearProgram (numbered p)
program_is p = record { rows = program_rows p; goal = length-map p.columns p.goal }

-- ---- the sums of a check

in_range : (f : ℕ → Bool) (n j : ℕ) → list_all f (range_with_len 0 n) ≡ true → j < n → f j ≡ true
in_range f n j all l = by (f j) refl
  where
    by : (b : Bool) → f j ≡ b → b ≡ true
    by true e = refl
    by false e = (let none : list_all f (range_with_len 0 n) ≡ false = not_all_range f 0 n j (omega arith) (omega (arith, l)) e in cc)

fit_of : (limit : ℕ) (p : LinearProgram) (y : List Rational) → sums_fit limit p y ≡ true → MultiplierSumsFit limit p y
fit_of limit p y e =
    let parts = and_parts (list_all (λ j. is_ok (checked_column limit p y j)) (range_with_len 0 p.columns)) (is_ok (checked_right limit p y)) e in
    record { columns = λ j l. in_range (λ j. is_ok (checked_column limit p y j)) p.columns j parts.0 l; right = parts.1 }

-- ---- multipliers of its rows

no_fault : (b : Bool) (f : CutFault Rational) → b ≡ true → fault_if (not b) f ≡ None
no_fault true f e = refl
no_fault false f e = cc

nor_next : {F : Type 0} (o u : Option F) → o ≡ None → u ≡ None → or_else o u ≡ None
nor_next None u e f = f
nor_next (Some x) u e f = cc

module _ (limit : ℕ) (p : NamedProgram) (rise : AllPairs (λ r s. is_before r s ≡ true) p.rows) (y : List Rational) where
  listed : multipliers_fault p (positive_multipliers p.rows y) ≡ None
  listed =
      let ys = positive_multipliers p.rows y in
      nor_next (fault_if (not (are_rows p.rows ys)) BadName) (or_else (fault_if (not (are_in_order ys)) BadOrder) (fault_if (not (are_positive ys)) NotPositive))
      (no_fault (are_rows p.rows ys) BadName (positive_rows p.rows y))
      (nor_next (fault_if (not (are_in_order ys)) BadOrder) (fault_if (not (are_positive ys)) NotPositive)
      (no_fault (are_in_order ys) BadOrder (positive_rise p.rows y rise))
      (no_fault (are_positive ys) NotPositive (positive_signs p.rows y)))

  pub passes_dual : (v : Rational) → IsDualAnswer (numbered p) y v → sums_fit limit (numbered p) y ≡ true → PassesAsDual limit p (positive_multipliers p.rows y) v
  passes_dual v dual fits = record {
    listed = listed;
    checked =
        ap (dual_verdict limit (numbered p)) (positive_again p.rows y (dual.size ∙ length-map p.rows (row_named p)) rise dual.not_negative)
        ∙ dual_verdict_of_answer limit (numbered p) y v dual (fit_of limit (numbered p) y fits);
  }

  pub passes_farkas : IsFarkasAnswer (numbered p) y → sums_fit limit (numbered p) y ≡ true → PassesAsFarkas limit p (positive_multipliers p.rows y)
  passes_farkas farkas fits = record {
    listed = listed;
    checked =
        ap (farkas_verdict limit (numbered p)) (positive_again p.rows y (farkas.size ∙ length-map p.rows (row_named p)) rise farkas.not_negative)
        ∙ farkas_verdict_of_answer limit (numbered p) y farkas (fit_of limit (numbered p) y fits);
  }
