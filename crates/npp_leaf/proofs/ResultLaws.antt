-- What a call that gives the evidence of a node owes beside it.
use Rattle.std.proofs.Common.{◌≡◌, ℕ, true, false, cond, List, Result, sym, ap, ◌∙◌, subst}
use Rattle.std.specs.Prelude.{IfOk, IfSome, option_map}
use Rattle.npp_frac.specs.Rational.{Rational}
use Rattle.npp_rows.specs.PathModel.{PathModel}
use Rattle.npp_rows.specs.Named.{numbered}
use Rattle.npp_rows.specs.Cuts.{Cut}
use Rattle.npp_rows.specs.NodeProgram.{node_program}
use Rattle.npp_simplex.proofs.Refining.{if_ok}
use Rattle.npp_tree.specs.Bounds.{bound_value}
use Rattle.npp_tree.specs.Family.{Family}
use Rattle.npp_tree.specs.Evidence.{evidence_value}
use Rattle.npp_leaf.specs.declared.work.LeafWork.{LeafWork}
use Rattle.npp_leaf.specs.Found.{Found, found_value}
use Rattle.npp_leaf.specs.Work.{choice_work, family_work, leaf_work}
use Rattle.npp_leaf.specs.Passes.{Passes, IsOptimal, BoundsWithCuts}
use Rattle.npp_leaf.specs.FoundTolls.{FindsTolls}
use Rattle.npp_rows.specs.Parts.{IsAllowed, is_full, first_choice}
use Rattle.npp_inverse.specs.Offers.{HasUsefulPaths}
use Rattle.npp_net.specs.Network.{Network}
use Rattle.npp_rows.specs.Promises.{IsModelOf}
use Rattle.npp_leaf.proofs.LeafLaws.{leaf_passes, leaf_optimum, optimum_bounds}
use Rattle.npp_leaf.proofs.TollLaws.{leaf_tolls}

module _ {N E : Type 0} (value : N → Rational) (limit : ℕ) (m : PathModel) (parts : Family) (cuts : List Cut) (r : Result (LeafWork N) E) where
  -- the work on a full choice, and on any other family
  pub full_ok : (choice : List ℕ) → is_full parts ≡ true → choice ≡ first_choice parts → IfOk r (λ w. found_value value w ≡ choice_work limit m choice) → IfOk r (λ w. found_value value w ≡ leaf_work limit m parts cuts)
  full_ok choice full same h =
      if_ok r (λ w. found_value value w ≡ choice_work limit m choice) (λ w. found_value value w ≡ leaf_work limit m parts cuts)
      (λ w e. e ∙ ap (choice_work limit m) same ∙ ap (λ b. cond b (choice_work limit m (first_choice parts)) (family_work limit m parts cuts)) (sym full)) h

  pub family_ok : is_full parts ≡ false → IfOk r (λ w. found_value value w ≡ family_work limit m parts cuts) → IfOk r (λ w. found_value value w ≡ leaf_work limit m parts cuts)
  family_ok other h =
      if_ok r (λ w. found_value value w ≡ family_work limit m parts cuts) (λ w. found_value value w ≡ leaf_work limit m parts cuts)
      (λ w e. e ∙ ap (λ b. cond b (choice_work limit m (first_choice parts)) (family_work limit m parts cuts)) (sym other)) h

module _ {N E : Type 0} (value : N → Rational) (limit : ℕ) (m : PathModel) (parts : Family) (cuts : List Cut) (r : Result (LeafWork N) E)
    (h : IfOk r (λ w. found_value value w ≡ leaf_work limit m parts cuts)) where
  pub passes_ok : IfOk r (λ w. Passes limit (node_program m cuts parts) (evidence_value value w.evidence) (option_map bound_value w.value))
  passes_ok =
      if_ok r (λ w. found_value value w ≡ leaf_work limit m parts cuts) (λ w. Passes limit (node_program m cuts parts) (evidence_value value w.evidence) (option_map bound_value w.value))
      (λ w e. subst (λ (f : Found). Passes limit (node_program m cuts parts) f.evidence f.value) (sym e) (leaf_passes limit m parts cuts)) h

  pub optimum_ok : IfOk r (λ w. IfSome (option_map bound_value w.value) (IsOptimal (numbered (node_program m cuts parts))))
  optimum_ok =
      if_ok r (λ w. found_value value w ≡ leaf_work limit m parts cuts) (λ w. IfSome (option_map bound_value w.value) (IsOptimal (numbered (node_program m cuts parts))))
      (λ w e. subst (λ (f : Found). IfSome f.value (IsOptimal (numbered (node_program m cuts parts)))) (sym e) (leaf_optimum limit m parts cuts)) h

  pub tolls_ok : HasUsefulPaths m → IsAllowed m parts → IfOk r (λ w. FindsTolls m (found_value value w))
  tolls_ok useful allowed =
      if_ok r (λ w. found_value value w ≡ leaf_work limit m parts cuts) (λ w. FindsTolls m (found_value value w))
      (λ w e. subst (FindsTolls m) (sym e) (leaf_tolls limit m parts cuts useful allowed)) h

  pub bounds_ok : (net : Network) → IsModelOf net m → IsAllowed m parts → IfOk r (λ w. BoundsWithCuts net m cuts parts (option_map bound_value w.value))
  bounds_ok net model allowed =
      if_ok r (λ w. IfSome (option_map bound_value w.value) (IsOptimal (numbered (node_program m cuts parts)))) (λ w. BoundsWithCuts net m cuts parts (option_map bound_value w.value))
      (λ w best. optimum_bounds net m parts cuts (option_map bound_value w.value) model allowed best) optimum_ok
