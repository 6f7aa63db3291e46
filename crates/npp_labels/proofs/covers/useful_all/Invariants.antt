use Rattle.npp_labels.proofs.CoverLemmas.{HasCovers}
use Rattle.npp_labels.proofs.covers.useful_all.Given as goal

abbrev pub invariant-loop-k : goal.invariant-loop-k
invariant-loop-k l = HasCovers l.instance.arcs l.instance.commodities l.k l.covers.items l.paths
