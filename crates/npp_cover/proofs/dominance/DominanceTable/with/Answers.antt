use Rattle.std.proofs.Common.{◌<◌, sym, subst, length, map, set}
use Rattle.npp_cover.specs.Dominance.{TableValue, PutsIn, nodes_of}
use Rattle.npp_cover.proofs.DominanceLemmas.{pairs_in, puts_pair}
use Rattle.npp_cover.proofs.dominance.DominanceTable.with.Goals as goal

pub returns : goal.returns
returns c =
    let lt : c.args.label.node.0 < length (map pairs_in c.self.inside.by_node.items) = subst (λ (t : TableValue). c.args.label.node.0 < nodes_of t) (sym c.self.view_is) c.requires in
    subst (λ (t : TableValue). PutsIn c.args.label t (map pairs_in (set c.self.inside.by_node.items c.args.label.node.0 c.put.new.blocks))) c.self.view_is
    (puts_pair c.args.label c.self.inside.by_node.items c.index_mut.result.now c.put.new.blocks lt c.index_mut.ensures.value c.in_ok-put.ensures.answers)
