use Rattle.npp_net.proofs.IndexLemmas.{ListsTollsBelow}
use Rattle.npp_net.proofs.index.toll_arcs.Given as goal

abbrev pub invariant-loop-i : goal.invariant-loop-i
invariant-loop-i l = ListsTollsBelow l.arcs l.i l.found.items
