-- The programs of full choices tell the truth: a point gives the optimum with tolls that earn as much, and where there is none
-- the program has none.
use Rattle.std.proofs.Common.{◌≡◌, ℕ, true, cond, List, [], length, refl, sym, ◌∙◌, subst, ap, Some}
use Rattle.npp_frac.specs.Rational.{Rational, ◌≤ℚ◌}
use Rattle.npp_lp.specs.Programs.{IsInfeasible, IsOptimum}
use Rattle.npp_lp.specs.DualLaws.{no_point_of_farkas, optimum_of_answers}
use Rattle.npp_rows.specs.PathModel.{PathModel}
use Rattle.npp_rows.specs.Parts.{is_full, first_choice, IsAllowed}
use Rattle.npp_rows.specs.Rows.{IsChoice}
use Rattle.npp_rows.specs.Named.{NamedProgram, numbered}
use Rattle.npp_rows.specs.Relax.{relaxation}
use Rattle.npp_rows.specs.Inverse.{inverse}
use Rattle.npp_rows.specs.Response.{Reply, reply}
use Rattle.npp_rows.proofs.PointLaws.{columns_are}
use Rattle.npp_inverse.specs.Work.{Ending, AtPoint, WithoutPoint, inverse_work, relaxation_work}
use Rattle.npp_inverse.specs.Offers.{HasUsefulPaths}
use Rattle.npp_inverse.proofs.BestLaws.{best_tolls_are}
use Rattle.npp_tree.specs.Family.{Family}
use Rattle.npp_tree.specs.Points.{tolls_of}
use Rattle.npp_leaf.proofs.AnswerLaws.{program_rows, program_is}
use Rattle.npp_leaf.proofs.WorkLaws.{IsAnswered, inverse_answered}
use Rattle.npp_leaf.proofs.TollLaws.{choice_of_family}
use Rattle.npp_search.specs.Problem.{Problem, program_of, work_on, reply_to}
use Rattle.npp_search.proofs.EndLaws.{IsFaithful}
use Rattle.npp_search.proofs.FoundLaws.{HasReply, inverse_has_reply, reply_there, choice_tolls}

module _ (P : Problem) (choice : List ℕ) (x y : List Rational) (v : Rational) (solved : inverse_work P.limit P.paths choice ≡ AtPoint x y v) where
  answered : IsAnswered P.limit (numbered (inverse P.paths choice)) (AtPoint x y v)
  answered = subst (λ (e : Ending). IsAnswered P.limit (numbered (inverse P.paths choice)) e) solved (inverse_answered P.limit P.paths choice (program_is (inverse P.paths choice)))

  pub choice_optimum : IsOptimum (numbered (inverse P.paths choice)) v
  choice_optimum = optimum_of_answers (numbered (inverse P.paths choice)) x y v (program_rows (inverse P.paths choice)) answered.proved.point answered.proved.goal answered.proved.dual

  choice_size : length x ≡ length P.paths.caps
  choice_size = answered.proved.point.size ∙ columns_are P.paths choice

  pub choice_reply : reply_to P (tolls_of P.paths x) ≡ Some (reply P.paths x)
  choice_reply =
      ap (reply_to P) (choice_tolls P.paths x choice_size)
      ∙ reply_there P.limit P.paths x (subst (λ (e : Ending). HasReply P.limit P.paths e) solved (inverse_has_reply P.limit P.paths choice))

  pub choice_earns : HasUsefulPaths P.paths → (family : Family) → choice ≡ first_choice family → IsAllowed P.paths family → v ≤ℚ (reply P.paths x).revenue
  choice_earns useful family same allowed =
      let picks = subst (λ (c : List ℕ). IsChoice P.paths c) (sym same) (choice_of_family P.paths family allowed) in
      (best_tolls_are P.paths choice x y v (reply P.paths x) useful picks answered.proved refl).earns

choice_infeasible : (limit : ℕ) (m : PathModel) (choice : List ℕ) (y : List Rational) → inverse_work limit m choice ≡ WithoutPoint y → IsInfeasible (numbered (inverse m choice))
choice_infeasible limit m choice y ends =
    no_point_of_farkas (numbered (inverse m choice)) y (program_rows (inverse m choice))
    (subst (λ (e : Ending). IsAnswered limit (numbered (inverse m choice)) e) ends (inverse_answered limit m choice (program_is (inverse m choice)))).proved

-- ---- of a node that is a full choice

module _ (P : Problem) (family : Family) (full : is_full family ≡ true) where
  full_work : work_on P family ≡ inverse_work P.limit P.paths (first_choice family)
  full_work = ap (λ b. cond b (inverse_work P.limit P.paths (first_choice family)) (relaxation_work P.limit (relaxation P.paths family []))) full

  full_program : program_of P family ≡ inverse P.paths (first_choice family)
  full_program = ap (λ b. cond b (inverse P.paths (first_choice family)) (relaxation P.paths family [])) full

  full_solved : (x y : List Rational) (v : Rational) → work_on P family ≡ AtPoint x y v → IsOptimum (numbered (program_of P family)) v
  full_solved x y v solved =
      subst (λ (p : NamedProgram). IsOptimum (numbered p) v) (sym full_program) (choice_optimum P (first_choice family) x y v (sym full_work ∙ solved))

  full_no_point : (y : List Rational) → work_on P family ≡ WithoutPoint y → IsInfeasible (numbered (program_of P family))
  full_no_point y ends =
      subst (λ (p : NamedProgram). IsInfeasible (numbered p)) (sym full_program) (choice_infeasible P.limit P.paths (first_choice family) y (sym full_work ∙ ends))

  full_earns : HasUsefulPaths P.paths → IsAllowed P.paths family → (x y : List Rational) (v : Rational) → work_on P family ≡ AtPoint x y v
      → (r : Reply) × (reply_to P (tolls_of P.paths x) ≡ Some r) × (v ≤ℚ r.revenue)
  full_earns useful allowed x y v solved =
      let here = sym full_work ∙ solved in
      (reply P.paths x, choice_reply P (first_choice family) x y v here, choice_earns P (first_choice family) x y v here useful family refl allowed)

pub faithful : (P : Problem) → HasUsefulPaths P.paths → IsFaithful P
faithful P useful = record {
  solved = λ family x y v full h. full_solved P family full x y v h;
  no_point = λ family y full h. full_no_point P family full y h;
  earns = λ family x y v allowed full h. full_earns P family full useful allowed x y v h;
}
