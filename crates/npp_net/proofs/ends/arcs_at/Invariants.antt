use Rattle.npp_net.specs.Ends.{AreArcsAt}
use Rattle.npp_net.proofs.ends.arcs_at.Given as goal

abbrev pub invariant-loop-i : goal.invariant-loop-i
invariant-loop-i l = AreArcsAt l.fn.end l.arcs l.i l.fn.nodes l.lists.items
