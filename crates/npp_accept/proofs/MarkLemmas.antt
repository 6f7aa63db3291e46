-- The numbers of a mark are small: the cap bounds its pivot, and the sizes of the node's program its place.
use Rattle.std.proofs.Common.{◌≡◌, ◌∙◌, subst, refl, ℕ, ◌≤◌, Bool, true, false, cond, List, [], length, Some, arith}
use Rattle.std.proofs.lemmas.List.{length-map}
use Rattle.npp_frac.specs.Rational.{Rational}
use Rattle.npp_lp.specs.Programs.{LinearProgram}
use Rattle.npp_simplex.specs.Run.{Outcome, Optimal, Infeasible, Unbounded, Overflow, Capped, run}
use Rattle.npp_rows.specs.declared.mark.Mark.{Mark}
use Rattle.npp_rows.specs.declared.mark.Mark.TheVariants as mark
use Rattle.npp_rows.specs.Inverse.{inverse}
use Rattle.npp_rows.specs.Limits.{IsWithinLimits}
use Rattle.npp_rows.specs.Named.{NamedProgram, numbered}
use Rattle.npp_rows.specs.Parts.{IsAllowed, is_full, first_choice}
use Rattle.npp_rows.specs.Relax.{relaxation, is_large}
use Rattle.npp_rows.specs.Response.{reply_fits}
use Rattle.npp_rows.proofs.ProgramLaws.{row_named}
use Rattle.npp_inverse.specs.Work.{Ending, AtPoint, WithoutPoint, AtMark, step_as, pivot_cap, sums_fit, judged, program_work, relaxation_work, with_reply, inverse_work}
use Rattle.npp_search.specs.Problem.{Problem, work_on}
use Rattle.npp_cert_text.specs.Form.{IsMark}
use Rattle.npp_accept.proofs.RunLemmas.{run_stops}
use Rattle.npp_accept.proofs.SizeLemmas.{relaxation_rows_few, choice_rows_few, choice_columns_few, relaxation_columns_few}

-- ---- a mark

point_or_sum : (b : Bool) (x y : List Rational) (v : Rational) (k : Mark) → cond b (AtPoint x y v) (AtMark mark.Sum) ≡ AtMark k → IsMark k
point_or_sum true x y v k e = cc
point_or_sum false x y v k e = let same : mark.Sum ≡ k = cc in subst IsMark same tt

none_or_sum : (b : Bool) (y : List Rational) (k : Mark) → cond b (WithoutPoint y) (AtMark mark.Sum) ≡ AtMark k → IsMark k
none_or_sum true y k e = cc
none_or_sum false y k e = let same : mark.Sum ≡ k = cc in subst IsMark same tt

judged_mark : (limit cap : ℕ) (p : LinearProgram) (k : Mark) → length p.rows ≤ 67108864 → p.columns ≤ 67108864 → cap ≤ 100000 → (out : Outcome) → run (Some limit) cap p ≡ out → judged limit p out ≡ AtMark k → IsMark k
judged_mark limit cap p k rows columns few (Optimal x y v n) is e = point_or_sum (sums_fit limit p y) x y v k e
judged_mark limit cap p k rows columns few (Infeasible y n) is e = none_or_sum (sums_fit limit p y) y k e
judged_mark limit cap p k rows columns few (Unbounded d n) is e = let same : mark.Sum ≡ k = cc in subst IsMark same tt
judged_mark limit cap p k rows columns few (Overflow n place) is e =
    let same : mark.Overflow n (step_as place.step) place.row place.column ≡ k = cc in
    let stop = run_stops (Some limit) cap p n place is in
    subst IsMark same (omega (arith, stop.pivot, few), omega (arith, stop.inside.row, rows), omega (arith, stop.inside.column, rows, columns))
judged_mark limit cap p k rows columns few Capped is e = let same : mark.Capped ≡ k = cc in subst IsMark same tt

program_mark : (limit : ℕ) (p : LinearProgram) (k : Mark) → length p.rows ≤ 67108864 → p.columns ≤ 67108864 → program_work limit p ≡ AtMark k → IsMark k
unfolding program_work
program_mark limit p k rows columns e = judged_mark limit pivot_cap p k rows columns (omega arith) (run (Some limit) pivot_cap p) refl e

rows_kept : (p : NamedProgram) → length p.rows ≤ 67108864 → length (numbered p).rows ≤ 67108864
rows_kept p few = omega (arith, length-map p.rows (row_named p), few)

module _ (P : Problem) (limits : IsWithinLimits P.paths) where
  relaxation_mark : (parts : List (List ℕ)) (k : Mark) → IsAllowed P.paths parts → relaxation_work P.limit (relaxation P.paths parts []) ≡ AtMark k → IsMark k
  unfolding relaxation_work
  relaxation_mark parts k allowed e = by (is_large (relaxation P.paths parts [])) e
    where
      by : (b : Bool) → cond b (AtMark mark.Large) (program_work P.limit (numbered (relaxation P.paths parts []))) ≡ AtMark k → IsMark k
      by true e = let same : mark.Large ≡ k = cc in subst IsMark same tt
      by false e =
          program_mark P.limit (numbered (relaxation P.paths parts [])) k
          (rows_kept (relaxation P.paths parts []) (relaxation_rows_few P.paths limits parts allowed)) (relaxation_columns_few P.paths limits parts allowed) e

  inverse_mark : (choice : List ℕ) (k : Mark) → inverse_work P.limit P.paths choice ≡ AtMark k → IsMark k
  unfolding inverse_work
  inverse_mark choice k e = by (program_work P.limit (numbered (inverse P.paths choice))) refl e
    where
      by : (end : Ending) → program_work P.limit (numbered (inverse P.paths choice)) ≡ end → with_reply P.limit P.paths end ≡ AtMark k → IsMark k
      by (AtPoint x y v) is e = point_or_sum (reply_fits P.limit P.paths x) x y v k e
      by (WithoutPoint y) is e = cc
      by (AtMark j) is e =
          program_mark P.limit (numbered (inverse P.paths choice)) k (rows_kept (inverse P.paths choice) (choice_rows_few P.paths limits)) (choice_columns_few P.paths limits choice) (is ∙ e)

  pub work_mark : (parts : List (List ℕ)) (k : Mark) → IsAllowed P.paths parts → work_on P parts ≡ AtMark k → IsMark k
  work_mark parts k allowed e = by (is_full parts) e
    where
      by : (b : Bool) → cond b (inverse_work P.limit P.paths (first_choice parts)) (relaxation_work P.limit (relaxation P.paths parts [])) ≡ AtMark k → IsMark k
      by true e = inverse_mark (first_choice parts) k e
      by false e = relaxation_mark parts k allowed e
