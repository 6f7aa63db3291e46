-- The tolls that the work on a node gives are from 0 to the caps, and best tolls earn at least the value of the evidence.
use Rattle.std.proofs.Common.{◌≡◌, ℕ, ◌<◌, Bool, true, false, cond, List, [], length, All, refl, ◌∙◌, arith}
use Rattle.std.specs.Prelude.{slice_index}
use Rattle.std.proofs.lemmas.List.{get_or-map, get_or_default, length-map}
use Rattle.npp_rows.specs.PathModel.{PathModel}
use Rattle.npp_rows.specs.Parts.{is_full, first_choice, part_at, IsAllowed}
use Rattle.npp_rows.specs.Named.{numbered}
use Rattle.npp_rows.specs.Cuts.{Cut}
use Rattle.npp_rows.specs.Rows.{IsChoice}
use Rattle.npp_rows.specs.Relax.{relaxation}
use Rattle.npp_rows.specs.Inverse.{inverse}
use Rattle.npp_rows.specs.Response.{reply}
use Rattle.npp_inverse.specs.Offers.{HasUsefulPaths}
use Rattle.npp_inverse.specs.Work.{Ending, AtPoint, WithoutPoint, AtMark, relaxation_work, inverse_work}
use Rattle.npp_inverse.proofs.BestLaws.{best_tolls_are}
use Rattle.npp_tree.specs.Family.{Family}
use Rattle.npp_leaf.specs.Found.{relaxation_found, choice_found}
use Rattle.npp_leaf.specs.Work.{choice_work, family_work, leaf_work}
use Rattle.npp_leaf.specs.FoundTolls.{FindsTolls}
use Rattle.npp_leaf.proofs.PointLaws.{tolls_capped}
use Rattle.npp_leaf.proofs.AnswerLaws.{program_is}
use Rattle.npp_leaf.proofs.WorkLaws.{IsAnswered, relaxation_answered, inverse_answered}

-- ---- the choice of a family

pub first_of_part : (m : PathModel) (parts : Family) (k : ℕ) → k < length parts → slice_index (first_choice parts) k ≡ slice_index (part_at parts k) 0
first_of_part m parts k l = get_or-map (λ part. slice_index part 0) parts k [] 0 l

-- each part has a path
pub parts_some : (m : PathModel) (parts : Family) → IsAllowed m parts → All (λ part. 0 < length part) parts
parts_some m parts allowed = λ i d l. rw (get_or_default parts i d [] l) (allowed.each i l).some

-- it names a useful path of each commodity
pub choice_of_family : (m : PathModel) (parts : Family) → IsAllowed m parts → IsChoice m (first_choice parts)
choice_of_family m parts allowed = record {
  size = length-map parts (λ part. slice_index part 0) ∙ allowed.size;
  each = λ k u.
      let l : k < length parts = omega (arith, u, allowed.size) in
      let part = allowed.each k l in
      rw (first_of_part m parts k l) (part.in_range 0 0 part.some);
}

-- ---- by the ending

module _ (limit : ℕ) (m : PathModel) where
  family_tolls : (parts : Family) (cuts : List Cut) (e : Ending) → IsAnswered limit (numbered (relaxation m parts cuts)) e → FindsTolls m (relaxation_found m parts (relaxation m parts cuts).rows e)
  family_tolls parts cuts (AtPoint x y v) h = record { point = tolls_capped m parts cuts x h.proved.point; best = tt }
  family_tolls parts cuts (WithoutPoint y) h = record { point = tt; best = tt }
  family_tolls parts cuts (AtMark k) h = record { point = tt; best = tt }

  choice_tolls : (choice : List ℕ) (e : Ending) → HasUsefulPaths m → IsChoice m choice → IsAnswered limit (numbered (inverse m choice)) e → FindsTolls m (choice_found m (inverse m choice).rows e)
  choice_tolls choice (AtPoint x y v) useful picks h =
      let best = best_tolls_are m choice x y v (reply m x) useful picks h.proved refl in
      record { point = tt; best = record { capped = best.capped; replied = refl; earns = best.earns } }
  choice_tolls choice (WithoutPoint y) useful picks h = record { point = tt; best = tt }
  choice_tolls choice (AtMark k) useful picks h = record { point = tt; best = tt }

-- ---- of a node

pub leaf_tolls : (limit : ℕ) (m : PathModel) (parts : Family) (cuts : List Cut) → HasUsefulPaths m → IsAllowed m parts → FindsTolls m (leaf_work limit m parts cuts)
leaf_tolls limit m parts cuts useful allowed = by (is_full parts)
  where
    by : (b : Bool) → FindsTolls m (cond b (choice_work limit m (first_choice parts)) (family_work limit m parts cuts))
    by true =
        choice_tolls limit m (first_choice parts) (inverse_work limit m (first_choice parts)) useful (choice_of_family m parts allowed)
        (inverse_answered limit m (first_choice parts) (program_is (inverse m (first_choice parts))))
    by false =
        family_tolls limit m parts cuts (relaxation_work limit (relaxation m parts cuts)) (relaxation_answered limit (relaxation m parts cuts) (program_is (relaxation m parts cuts)))
