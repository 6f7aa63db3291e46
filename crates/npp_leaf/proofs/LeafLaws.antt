-- What the evidence of a node proves: it passes the check of its block, its value is the optimum of the node's program, and
-- so bounds each outcome of the piece.
use Rattle.std.proofs.Common.{◌≡◌, ℕ, Bool, true, false, cond, List, length, Option, Some, None, refl, subst}
use Rattle.std.specs.Prelude.{IfSome}
use Rattle.std.specs.List.{AllPairs}
use Rattle.npp_frac.specs.Rational.{Rational, ◌≤ℚ◌}
use Rattle.npp_lp.specs.DualLaws.{no_point_of_farkas, optimum_of_answers}
use Rattle.npp_net.specs.Network.{Network}
use Rattle.npp_net.specs.Toll.{TollVector}
use Rattle.npp_rows.specs.PathModel.{PathModel}
use Rattle.npp_rows.specs.Parts.{is_full, first_choice, chosen, IsAllowed}
use Rattle.npp_rows.specs.Named.{NamedProgram, numbered, vector}
use Rattle.npp_rows.specs.RowOrder.{is_before}
use Rattle.npp_rows.specs.Cuts.{Cut}
use Rattle.npp_rows.specs.Relax.{relaxation}
use Rattle.npp_rows.specs.Inverse.{inverse}
use Rattle.npp_rows.specs.NodeProgram.{node_program}
use Rattle.npp_rows.specs.Piece.{AreValidCuts, earned, outcome_number}
use Rattle.npp_rows.specs.Promises.{IsModelOf, IsPointOf}
use Rattle.npp_rows.proofs.InverseLaws.{node_holds}
use Rattle.npp_rows.proofs.RowPlaces.{relaxation_rows_rise, choice_rows_rise}
use Rattle.npp_inverse.specs.Work.{Ending, AtPoint, WithoutPoint, AtMark, relaxation_work, inverse_work}
use Rattle.npp_tree.specs.Bounds.{BoundValue, Empty, At, IsWithin}
use Rattle.npp_tree.specs.Family.{Family}
use Rattle.npp_leaf.specs.Found.{Found, relaxation_found, choice_found}
use Rattle.npp_leaf.specs.Work.{choice_work, family_work, leaf_work}
use Rattle.npp_leaf.specs.Passes.{Passes, IsOptimal, BoundsPiece, BoundsWithCuts}
use Rattle.npp_leaf.proofs.AnswerLaws.{program_rows, program_is, passes_dual, passes_farkas}
use Rattle.npp_leaf.proofs.WorkLaws.{IsAnswered, relaxation_answered, inverse_answered}

-- ---- by the ending

-- what is found passes the check of its block
abbrev pub FoundPasses : ℕ → NamedProgram → Found → Type 0
FoundPasses limit p f = Passes limit p f.evidence f.value

module _ (limit : ℕ) (m : PathModel) (p : NamedProgram) (rise : AllPairs (λ r s. is_before r s ≡ true) p.rows) where
  family_passes : (parts : Family) (e : Ending) → IsAnswered limit (numbered p) e → FoundPasses limit p (relaxation_found m parts p.rows e)
  family_passes parts (AtPoint x y v) h = (v, refl, passes_dual limit p rise y v h.proved.dual h.fits)
  family_passes parts (WithoutPoint y) h = (refl, passes_farkas limit p rise y h.proved h.fits)
  family_passes parts (AtMark k) h = refl

  choice_passes : (e : Ending) → IsAnswered limit (numbered p) e → FoundPasses limit p (choice_found m p.rows e)
  choice_passes (AtPoint x y v) h = (v, refl, passes_dual limit p rise y v h.proved.dual h.fits)
  choice_passes (WithoutPoint y) h = (refl, passes_farkas limit p rise y h.proved h.fits)
  choice_passes (AtMark k) h = refl

module _ (limit : ℕ) (m : PathModel) (p : NamedProgram) where
  family_optimum : (parts : Family) (e : Ending) → IsAnswered limit (numbered p) e → IfSome (relaxation_found m parts p.rows e).value (IsOptimal (numbered p))
  family_optimum parts (AtPoint x y v) h = optimum_of_answers (numbered p) x y v (program_rows p) h.proved.point h.proved.goal h.proved.dual
  family_optimum parts (WithoutPoint y) h = no_point_of_farkas (numbered p) y (program_rows p) h.proved
  family_optimum parts (AtMark k) h = tt

  choice_optimum : (e : Ending) → IsAnswered limit (numbered p) e → IfSome (choice_found m p.rows e).value (IsOptimal (numbered p))
  choice_optimum (AtPoint x y v) h = optimum_of_answers (numbered p) x y v (program_rows p) h.proved.point h.proved.goal h.proved.dual
  choice_optimum (WithoutPoint y) h = no_point_of_farkas (numbered p) y (program_rows p) h.proved
  choice_optimum (AtMark k) h = tt

-- ---- of a node

module _ (limit : ℕ) (m : PathModel) (parts : Family) (cuts : List Cut) where
  pub leaf_passes : FoundPasses limit (node_program m cuts parts) (leaf_work limit m parts cuts)
  leaf_passes = by (is_full parts)
    where
      by : (b : Bool) → FoundPasses limit (cond b (inverse m (first_choice parts)) (relaxation m parts cuts)) (cond b (choice_work limit m (first_choice parts)) (family_work limit m parts cuts))
      by true =
          choice_passes limit m (inverse m (first_choice parts)) (choice_rows_rise m (λ k. Some (chosen (first_choice parts) k))) (inverse_work limit m (first_choice parts))
          (inverse_answered limit m (first_choice parts) (program_is (inverse m (first_choice parts))))
      by false =
          family_passes limit m (relaxation m parts cuts) (relaxation_rows_rise m parts (length cuts)) parts (relaxation_work limit (relaxation m parts cuts))
          (relaxation_answered limit (relaxation m parts cuts) (program_is (relaxation m parts cuts)))

  pub leaf_optimum : IfSome (leaf_work limit m parts cuts).value (IsOptimal (numbered (node_program m cuts parts)))
  leaf_optimum = by (is_full parts)
    where
      by : (b : Bool) → IfSome (cond b (choice_work limit m (first_choice parts)) (family_work limit m parts cuts)).value (IsOptimal (numbered (cond b (inverse m (first_choice parts)) (relaxation m parts cuts))))
      by true =
          choice_optimum limit m (inverse m (first_choice parts)) (inverse_work limit m (first_choice parts))
          (inverse_answered limit m (first_choice parts) (program_is (inverse m (first_choice parts))))
      by false =
          family_optimum limit m (relaxation m parts cuts) parts (relaxation_work limit (relaxation m parts cuts))
          (relaxation_answered limit (relaxation m parts cuts) (program_is (relaxation m parts cuts)))

-- ---- of its piece

within_optimal : (net : Network) (m : PathModel) (p : NamedProgram) (t : TollVector) (choice : List ℕ) (b : BoundValue) → IsPointOf net m p t choice → IsOptimal (numbered p) b → IsWithin (earned net m t choice) b
within_optimal net m p t choice Empty is none = absurd (none (vector p (outcome_number m t choice)) is.point)
within_optimal net m p t choice (At v) is best = subst (λ (q : Rational). q ≤ℚ v) is.goal (best.bound (vector p (outcome_number m t choice)) is.point)

bounds_by : (net : Network) (m : PathModel) (parts : Family) (cuts : List Cut) (value : Option BoundValue) → IsModelOf net m → IsAllowed m parts → AreValidCuts net m cuts
    → IfSome value (IsOptimal (numbered (node_program m cuts parts))) → IfSome value (BoundsPiece net m parts)
bounds_by net m parts cuts None model allowed valid h = tt
bounds_by net m parts cuts (Some b) model allowed valid h =
    λ t choice piece. within_optimal net m (node_program m cuts parts) t choice b (node_holds net m parts cuts model allowed valid t choice piece) h

-- a value that is the optimum bounds the piece
pub optimum_bounds : (net : Network) (m : PathModel) (parts : Family) (cuts : List Cut) (value : Option BoundValue) → IsModelOf net m → IsAllowed m parts
    → IfSome value (IsOptimal (numbered (node_program m cuts parts))) → BoundsWithCuts net m cuts parts value
optimum_bounds net m parts cuts value model allowed h valid = bounds_by net m parts cuts value model allowed valid h
