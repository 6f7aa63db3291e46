-- The work on an inverse program with the reply to its tolls, and what it proves.
use Rattle.std.proofs.Common.{◌≡◌, ℕ, cond, List, length, map, Option, Some, None, sym, ap, ◌∙◌, subst, arith, All}
use Rattle.std.specs.Prelude.{slice_index_or}
use Rattle.std.proofs.lemmas.List.Elements.{All-map}
use Rattle.npp_frac.specs.Rational.{Rational, ◌≤ℚ◌}
use Rattle.npp_lp.specs.Programs.{AreTerms, goal_at}
use Rattle.npp_lp.specs.DualLaws.{optimum_of_answers}
use Rattle.npp_simplex.specs.Proved.{AreOptimal}
use Rattle.npp_rows.specs.declared.mark.Mark.TheVariants as mark
use Rattle.npp_rows.specs.declared.names.ColumnName.TheVariants.{Toll}
use Rattle.npp_rows.specs.PathModel.{PathModel, tolls}
use Rattle.npp_rows.specs.Parts.{chosen}
use Rattle.npp_rows.specs.Named.{numbered, terms_from}
use Rattle.npp_rows.specs.Inverse.{inverse, choice_rows, choice_entry, choice_right}
use Rattle.npp_rows.specs.Response.{reply, Reply, reply_stop, is_whole_reply}
use Rattle.npp_rows.proofs.NamedLaws.{terms_are_in_order}
use Rattle.npp_rows.specs.Rows.{IsChoice}
use Rattle.npp_inverse.specs.Offers.{HasUsefulPaths}
use Rattle.npp_inverse.proofs.EarnLaws.{earns_goal}
use Rattle.npp_inverse.specs.Work.{Ending, AtPoint, AtMark, program_work, with_reply, inverse_work}
use Rattle.npp_inverse.specs.Best.{AreBestTolls}
use Rattle.npp_rows.proofs.PointLaws.{columns_are, cap_below, point_below}

module _ (limit : ℕ) (m : PathModel) (choice : List ℕ) where
  pub found_work : (x y : List Rational) (v : Rational) → AtPoint x y v ≡ program_work limit (numbered (inverse m choice)) → reply_stop limit m x ≡ None
      → AtPoint x y v ≡ inverse_work limit m choice
  unfolding inverse_work
  found_work x y v e fits = ap (λ (o : Option ℕ). cond (is_whole_reply o) (AtPoint x y v) (AtMark mark.Sum)) (sym fits) ∙ ap (with_reply limit m) e

  pub sum_work : (x y : List Rational) (v : Rational) (k : ℕ) → AtPoint x y v ≡ program_work limit (numbered (inverse m choice)) → reply_stop limit m x ≡ Some k
      → AtMark mark.Sum ≡ inverse_work limit m choice
  unfolding inverse_work
  sum_work x y v k e fits = ap (λ (o : Option ℕ). cond (is_whole_reply o) (AtPoint x y v) (AtMark mark.Sum)) (sym fits) ∙ ap (with_reply limit m) e

  pub other_work : (e : Ending) → with_reply limit m e ≡ e → e ≡ program_work limit (numbered (inverse m choice)) → e ≡ inverse_work limit m choice
  unfolding inverse_work
  other_work e same is = sym same ∙ ap (with_reply limit m) is

module _ (m : PathModel) (choice : List ℕ) where
  pub in_order : All (λ r. AreTerms (numbered (inverse m choice)).columns r.terms) (numbered (inverse m choice)).rows
  in_order =
      All-map (λ r. AreTerms (length (map Toll (tolls m))) r.terms) (λ r. record { terms = terms_from 0 (choice_entry m (λ k. Some (chosen choice k)) r) (map Toll (tolls m)); right = choice_right m (λ k. Some (chosen choice k)) r }) (choice_rows m (λ k. Some (chosen choice k)))
      (λ i d l. terms_are_in_order (choice_entry m (λ k. Some (chosen choice k)) (slice_index_or (choice_rows m (λ k. Some (chosen choice k))) i d)) (map Toll (tolls m)))

  pub best_tolls_are : (T y : List Rational) (v : Rational) (r : Reply) → HasUsefulPaths m → IsChoice m choice → AreOptimal (numbered (inverse m choice)) T y v → r ≡ reply m T → AreBestTolls m choice T y v r
  best_tolls_are T y v r useful picks h replied =
      let size : length T ≡ length m.caps = h.point.size ∙ columns_are m choice in
      record {
        point = h.point;
        goal = h.goal;
        dual = h.dual;
        optimum = optimum_of_answers (numbered (inverse m choice)) T y v in_order h.point h.goal h.dual;
        capped = λ a l. (h.point.not_negative a _ (omega (arith, l, size)), cap_below m choice T size (choice_right m (λ k. Some (chosen choice k))) (point_below m choice T size h.point) a l);
        replied = replied;
        earns = subst (λ (q : Rational). q ≤ℚ r.revenue) h.goal
            (subst (λ (x : Reply). goal_at (numbered (inverse m choice)) T ≤ℚ x.revenue) (sym replied) (earns_goal m choice T useful picks h.point));
      }
