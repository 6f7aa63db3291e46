use Rattle.std.proofs.Common.{◌≡◌, drop}
use Rattle.npp_net.specs.Refusal.{refusal_of_arc, first_of_list}
use Rattle.npp_net.proofs.limits.refused_arc.Given as goal

-- what is left decides
abbrev pub invariant-loop-x : goal.invariant-loop-x
invariant-loop-x l = first_of_list (refusal_of_arc l.nodes) (drop l.x-index l.arcs) ≡ first_of_list (refusal_of_arc l.nodes) l.arcs
