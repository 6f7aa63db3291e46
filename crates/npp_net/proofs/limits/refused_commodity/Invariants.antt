use Rattle.std.proofs.Common.{◌≡◌, drop}
use Rattle.npp_net.specs.Refusal.{refusal_of_commodity, first_of_list}
use Rattle.npp_net.proofs.limits.refused_commodity.Given as goal

-- what is left decides
abbrev pub invariant-loop-k : goal.invariant-loop-k
invariant-loop-k l = first_of_list (refusal_of_commodity l.nodes) (drop l.k-index l.commodities) ≡ first_of_list (refusal_of_commodity l.nodes) l.commodities
