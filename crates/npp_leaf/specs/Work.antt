-- The evidence of a node as a fact of the instance, the paths that the node allows, and the cuts: it does not depend on how
-- the node was reached.
use Rattle.std.specs.Prelude.{ℕ, List, if◌then◌else◌}
use Rattle.npp_rows.specs.PathModel.{PathModel}
use Rattle.npp_rows.specs.Parts.{is_full, first_choice}
use Rattle.npp_rows.specs.Cuts.{Cut}
use Rattle.npp_rows.specs.Relax.{relaxation}
use Rattle.npp_rows.specs.Inverse.{inverse}
use Rattle.npp_inverse.specs.Work.{relaxation_work, inverse_work}
use Rattle.npp_tree.specs.Family.{Family}
use Rattle.npp_leaf.specs.Found.{Found, relaxation_found, choice_found}

-- the work on a full choice is that on its inverse program
abbrev pub choice_work : ℕ → PathModel → List ℕ → Found
choice_work limit m choice = choice_found m (inverse m choice).rows (inverse_work limit m choice)

-- and on any other family that on its relaxation with the cuts
abbrev pub family_work : ℕ → PathModel → Family → List Cut → Found
family_work limit m parts cuts = relaxation_found m parts (relaxation m parts cuts).rows (relaxation_work limit (relaxation m parts cuts))

-- what the work on a node finds, with numbers below a limit
abbrev pub leaf_work : ℕ → PathModel → Family → List Cut → Found
leaf_work limit m parts cuts = if is_full parts then choice_work limit m (first_choice parts) else family_work limit m parts cuts
