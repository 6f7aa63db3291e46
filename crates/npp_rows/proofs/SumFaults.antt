-- What the code finds of a rounded combination: its first fault, and the row that it gives.
use Rattle.std.proofs.Common.{◌≡◌, ℕ, Bool, true, false, List, length, map, Some, None, Result, Ok, Err, sym, ap, subst, ◌∙◌}
use Rattle.std.specs.Prelude.{◌⊎◌, IfOk}
use Rattle.std.proofs.lemmas.List.{length-map}
use Rattle.npp_frac.specs.Rational.{Rational}
use Rattle.npp_frac.specs.Fits.{IsWidth, limit_of}
use Rattle.npp_lp.specs.Verdict.{or_else, first_below, sum_fault, unless}
use Rattle.npp_lp.specs.RunningSums.{Sums, AreSumsOf}
use Rattle.npp_lp.specs.Checked.{checked_right}
use Rattle.npp_rows.specs.declared.names.ColumnName.{ColumnName}
use Rattle.npp_rows.specs.declared.names.Multiplier.{Multiplier}
use Rattle.npp_rows.specs.declared.cut.CutRow.{CutRow}
use Rattle.npp_rows.specs.declared.cut.CutFault.{CutFault}
use Rattle.npp_rows.specs.declared.cut.CutFault.TheVariants.{BadName, BadOrder, NotPositive, Overflow, Memory}
use Rattle.npp_rows.specs.PathModel.{PathModel}
use Rattle.npp_rows.specs.RowOrder.{are_rows, are_in_order, are_positive, multipliers_of, DoRise}
use Rattle.npp_rows.specs.Named.{NamedProgram, numbered}
use Rattle.npp_rows.specs.Cuts.{Cut, IsCut}
use Rattle.npp_rows.specs.Relax.{relaxation, relaxation_rows, relaxation_columns}
use Rattle.npp_rows.specs.Meaning.{cut_value, derivation_result}
use Rattle.npp_rows.specs.Derivations.{toll_column_fault, share_column_fault, combination_fault, round_fault, round_cut}
use Rattle.npp_rows.specs.Parts.{IsAllowed}
use Rattle.npp_rows.specs.Taken.{placed}
use Rattle.npp_rows.specs.Rounding.{toll_fault_at, rounding_fault, rounded_cut}
use Rattle.npp_rows.proofs.RoundingLaws.{tolls_named, rounding_named, rounded_is_cut}
use Rattle.npp_rows.proofs.FaultLaws.{refused_by, refused_for_rows, refused_for_order, refused_for_sign, multipliers_pass, cut_of_verdict, cut_given}

-- ---- the verdict of a rounded combination

module _ (w : ℕ) (wide : IsWidth w) (p : NamedProgram) (ys : List (Multiplier Rational)) where
  abbrev pub round_verdict : Result Cut (CutFault Rational)
  round_verdict = unless (round_fault (limit_of w) p ys) (Ok (round_cut p (multipliers_of p.rows ys)))

  pub round_bad_rows : are_rows p.rows ys ≡ false → Err BadName ≡ round_verdict
  round_bad_rows e = refused_for_rows p ys (combination_fault (limit_of w) p (multipliers_of p.rows ys)) (Ok (round_cut p (multipliers_of p.rows ys))) e

  module _ (rows : are_rows p.rows ys ≡ true) where
    pub round_bad_order : are_in_order ys ≡ false → Err BadOrder ≡ round_verdict
    round_bad_order e = refused_for_order p ys (combination_fault (limit_of w) p (multipliers_of p.rows ys)) (Ok (round_cut p (multipliers_of p.rows ys))) rows e

    module _ (order : are_in_order ys ≡ true) where
      pub round_bad_sign : are_positive ys ≡ false → Err NotPositive ≡ round_verdict
      round_bad_sign e = refused_for_sign p ys (combination_fault (limit_of w) p (multipliers_of p.rows ys)) (Ok (round_cut p (multipliers_of p.rows ys))) rows order e

      module _ (positive : are_positive ys ≡ true) (rises : DoRise p.rows) (s : Sums Rational) (sums : AreSumsOf (limit_of w) (numbered p) (placed p.rows ys) s) (columns : List ColumnName) (same : columns ≡ p.columns) where
        only_sums : round_verdict ≡ unless (combination_fault (limit_of w) p (multipliers_of p.rows ys)) (Ok (round_cut p (multipliers_of p.rows ys)))
        only_sums = multipliers_pass p ys (combination_fault (limit_of w) p (multipliers_of p.rows ys)) (Ok (round_cut p (multipliers_of p.rows ys))) rows order positive

        tolls_moved : first_below (length columns) (toll_fault_at columns s) ≡ first_below (length p.columns) (toll_fault_at p.columns s)
        tolls_moved = ap (λ cs. first_below (length cs) (toll_fault_at cs s)) same

        pub toll_refused : (f : CutFault Rational) → first_below (length columns) (toll_fault_at columns s) ≡ Some f → Err f ≡ round_verdict
        toll_refused f e =
            refused_by (first_below (length p.columns) (toll_column_fault (limit_of w) p (multipliers_of p.rows ys)))
            (or_else (first_below (length p.columns) (share_column_fault (limit_of w) p (multipliers_of p.rows ys))) (sum_fault Overflow (λ x. None) (checked_right (limit_of w) (numbered p) (multipliers_of p.rows ys))))
            f (Ok (round_cut p (multipliers_of p.rows ys)))
            (sym (tolls_moved ∙ tolls_named w wide p rises ys rows order s sums) ∙ e)
            ∙ sym only_sums

        pub round_proved : first_below (length columns) (toll_fault_at columns s) ≡ None
            → unless (rounding_fault columns s) (Ok (rounded_cut columns s)) ≡ round_verdict
        round_proved none =
            ap (λ cs. unless (rounding_fault cs s) (Ok (rounded_cut cs s))) same
            ∙ rounding_named w wide p rises ys rows order s sums (sym tolls_moved ∙ none)
            ∙ sym only_sums

-- the rows of a relaxation with the cuts of the code
pub rows_of_cuts : {N : Type 0} (value : N → Rational) (m : PathModel) (parts : List (List ℕ)) (cuts : List (CutRow N)) (ys : List (Multiplier Rational)) (b : Bool)
    → are_rows (relaxation_rows m parts (length cuts)) ys ≡ b → are_rows (relaxation m parts (map (cut_value value) cuts)).rows ys ≡ b
rows_of_cuts value m parts cuts ys b e = ap (λ n. are_rows (relaxation_rows m parts n) ys) (length-map cuts (cut_value value)) ∙ e

-- the row that is answered is a cut row
pub rounded_row : {N : Type 0} (value : N → Rational) (m : PathModel) (parts : List (List ℕ)) (s : Sums Rational) (columns : List ColumnName) (r : Result (CutRow N) (CutFault N)) → IsAllowed m parts → columns ≡ relaxation_columns m parts
    → (r ≡ Err Memory) ⊎ (derivation_result value r ≡ unless (rounding_fault columns s) (Ok (rounded_cut columns s))) → IfOk r (λ c. IsCut m (cut_value value c))
rounded_row value m parts s columns r allowed same h =
    cut_given value m (rounded_cut columns s) r (subst (λ (cs : List ColumnName). IsCut m (rounded_cut cs s)) (sym same) (rounded_is_cut m parts s allowed)) (cut_of_verdict value (rounding_fault columns s) (rounded_cut columns s) r h)
