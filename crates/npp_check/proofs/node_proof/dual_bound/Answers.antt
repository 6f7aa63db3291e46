use Rattle.std.proofs.Common.{ap, sym, ◌∙◌}
use Rattle.npp_check.specs.Multipliers.{dual_value}
use Rattle.npp_check.proofs.NodeProofLemmas.{at_ok}
use Rattle.npp_check.proofs.node_proof.dual_bound.Goals as goal

pub returns-in-Ok : goal.returns-in-Ok
returns-in-Ok g c = λ p ys rises same taken. ap at_ok c.widen.ensures ∙ ap dual_value (c.in-Ok.ensures p ys rises same taken)

pub returns-in-Err : goal.returns-in-Err
returns-in-Err g c = λ p ys rises same taken. sym c.rule_of_dual.ensures ∙ ap dual_value (c.in-Err.ensures p ys rises same taken)
