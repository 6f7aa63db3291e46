use Rattle.std.proofs.Common.{◌≡◌, map, take}
use Rattle.npp_tree.specs.Bounds.{bound_value}
use Rattle.npp_tree.specs.Outcome.{entry_value}
use Rattle.npp_tree.specs.Tree.{leaves_bound}
use Rattle.npp_tree.proofs.bound.bound_of.Given as goal

-- it is the greatest bound of a leaf among the nodes so far
abbrev pub invariant-loop-node : goal.invariant-loop-node
invariant-loop-node g l = bound_value l.greatest ≡ leaves_bound (map (entry_value g.N.Exact.rational) (take l.node-index l.node-items))
