use Rattle.std.proofs.Common.{◌≡◌, ◌∙◌, List, ℕ, map, sym, ap, subst}
use Rattle.npp_frac.specs.Fits.{limit_of}
use Rattle.npp_rows.specs.Inverse.{inverse}
use Rattle.npp_rows.specs.Meaning.{multiplier_value}
use Rattle.npp_rows.specs.Parts.{first_choice}
use Rattle.npp_rows.specs.Rows.{IsChoice}
use Rattle.npp_tree.specs.Bounds.{bound_value}
use Rattle.npp_check.specs.Judges.{Judges}
use Rattle.npp_check.specs.NodeLines.{proof_by}
use Rattle.npp_check.specs.Standing.{AreOfRows}
use Rattle.npp_check.proofs.TreeStandLemmas.{parts_some, first_is_choice}
use Rattle.npp_check.proofs.node_proof.choice_value.Goals as goal

pub first_choice-requires : goal.first_choice-requires
first_choice-requires g c = rw c.entries.ensures (parts_some c.args.table.now c.args.allowed.now.parts c.requires.allowed)

pub inverse_value-requires-clause-choice : goal.inverse_value-requires-clause-choice
inverse_value-requires-clause-choice g c =
    let same : c.deref.result.now ≡ first_choice c.args.allowed.now.parts = c.deref.ensures.value ∙ c.in_ok-choice.ensures ∙ ap first_choice c.entries.ensures in
    subst (IsChoice c.args.table.now) (sym same) (first_is_choice c.args.table.now c.args.allowed.now.parts c.requires.allowed)

pub inverse_value-requires-clause-rows : goal.inverse_value-requires-clause-rows
inverse_value-requires-clause-rows g c =
    let same : c.deref.result.now ≡ first_choice c.args.allowed.now.parts = c.deref.ensures.value ∙ c.in_ok-choice.ensures ∙ ap first_choice c.entries.ensures in
    subst (λ (choice : List ℕ). AreOfRows (inverse c.args.table.now choice) (map (multiplier_value g.N.Exact.rational) c.args.block.now.multipliers.items)) (sym same) c.requires.rows

pub returns : goal.returns
returns g c =
    let same : c.deref.result.now ≡ first_choice c.args.allowed.now.parts = c.deref.ensures.value ∙ c.in_ok-choice.ensures ∙ ap first_choice c.entries.ensures in
    subst (λ (choice : List ℕ). Judges bound_value c.inverse_value.result (proof_by (limit_of g.N.Exact.WIDTH) (inverse c.args.table.now choice) c.args.block.now.answer (map (multiplier_value g.N.Exact.rational) c.args.block.now.multipliers.items))) same c.inverse_value.ensures
