use Rattle.std.proofs.Common.{map, take, ap, sym, ◌∙◌}
use Rattle.std.proofs.lemmas.List.{take_all}
use Rattle.npp_tree.specs.Bounds.{BoundValue, bound_value, greater}
use Rattle.npp_tree.specs.Outcome.{entry_value}
use Rattle.npp_tree.specs.Tree.{leaves_bound}
use Rattle.npp_tree.proofs.LeafLaws.{bound_below_more, leaf_counts, split_counts, leaves_bound-preorder}
use Rattle.npp_tree.proofs.GreaterLaws.{greater-empty}
use Rattle.npp_tree.proofs.bound.bound_of.Goals as goal
use Rattle.npp_tree.proofs.bound.bound_of.Goals.{in-Leaf, in_default}

pub loop-node-preserved : goal.loop-node-preserved
loop-node-preserved g c =
    let n = c.node-item.result in
    let more = bound_below_more g.N.Exact.rational c.entries-node-items.result.now c.loop-node.node-index c.node-item.result c.loop-node-test.true c.node-item.is in
    elim c.match-node.branch [
      | in-Leaf w ↦ ap bound_value w.greatest-is ∙ w.greater-greatest.ensures
          ∙ ap (λ (b : BoundValue). greater b (bound_value c.node-item.result.bound)) c.loop-node.invariant
          ∙ ap (λ (b : BoundValue). greater (leaves_bound (map (entry_value g.N.Exact.rational) (take c.loop-node.node-index c.entries-node-items.result.now))) b)
          (sym (leaf_counts g.N.Exact.rational c.node-item.result w.in-Leaf.is))
          ∙ sym more
      | in_default w ↦ ap bound_value w.greatest-is ∙ c.loop-node.invariant
          ∙ sym (greater-empty (leaves_bound (map (entry_value g.N.Exact.rational) (take c.loop-node.node-index c.entries-node-items.result.now))))
          ∙ ap (λ (b : BoundValue). greater (leaves_bound (map (entry_value g.N.Exact.rational) (take c.loop-node.node-index c.entries-node-items.result.now))) b)
          (sym (split_counts g.N.Exact.rational c.node-item.result w.in_default.not-Leaf))
          ∙ sym more
    ]

pub returns-clause-leaves : goal.returns-clause-leaves
returns-clause-leaves g c =
    let whole = take_all c.loop-node.node-index c.entries-node-items.result.now c.loop-node-test.false in
    rw whole at c.loop-node.invariant ∙ ap (λ ns. leaves_bound (map (entry_value g.N.Exact.rational) ns)) c.entries-node-items.ensures

pub returns-clause-tree : goal.returns-clause-tree
returns-clause-tree g c t e = returns-clause-leaves g c ∙ ap leaves_bound e ∙ leaves_bound-preorder t
