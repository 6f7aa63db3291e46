use Rattle.npp_check.proofs.NodeProofLemmas.{dual_overflows, dual_refused}
use Rattle.npp_check.proofs.node_proof.rule_of_dual.Goals as goal

pub returns-in-Overflow : goal.returns-in-Overflow
returns-in-Overflow g c = dual_overflows g.N.Exact.rational c.args.fault c.in-Overflow.field-0 c.in-Overflow.is

pub returns-in_default : goal.returns-in_default
returns-in_default g c = dual_refused g.N.Exact.rational c.args.fault c.in_default.not-Overflow
