use Rattle.std.proofs.Common.{ap, sym, ◌∙◌}
use Rattle.npp_check.specs.Multipliers.{farkas_value}
use Rattle.npp_check.proofs.node_proof.farkas_bound.Goals as goal

pub returns-in-Ok : goal.returns-in-Ok
returns-in-Ok g c = λ p ys rises taken. ap farkas_value (c.in-Ok.ensures p ys rises taken)

pub returns-in-Err : goal.returns-in-Err
returns-in-Err g c = λ p ys rises taken. sym c.rule_of_farkas.ensures ∙ ap farkas_value (c.in-Err.ensures p ys rises taken)
