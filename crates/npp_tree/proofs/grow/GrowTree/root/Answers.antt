use Rattle.std.proofs.Common.{subst}
use Rattle.npp_tree.specs.Tree.{Tree}
use Rattle.npp_tree.specs.Keyed.{Held, HasKeys}
use Rattle.npp_tree.proofs.grow.GrowTree.root.Goals as goal

pub returns-clause-keys : goal.returns-clause-keys
returns-clause-keys g c = subst (λ (t : Tree Held). HasKeys t) c.self.view_is c.self.invariant.keys
