-- What finished nodes add up to does not depend on how they hang together.
use Rattle.std.proofs.Common.{◌≡◌, ◌+◌, arith}
use Rattle.npp_tree.specs.Bounds.{greater}
use Rattle.npp_tree.specs.Family.{Division}
use Rattle.npp_tree.specs.Tree.{Node, Tree, Split, opened_count, opened_in, tree_bound}
use Rattle.npp_tree.proofs.GreaterLaws.{greater_assoc}
use Rattle.npp_check.specs.Stages.{Sum, with_tree}

-- a node with two children adds itself, and then the one and the other
pub sum_of_split : (s : Sum) (n : Node) (d : Division) (a b : Tree Node) → opened_count n.evidence ≡ 1
    → with_tree s (Split n d a b) ≡ with_tree (with_tree (record { opened = s.opened + 1; bound = s.bound }) a) b
sum_of_split s n d a b e =
    let o : s.opened + (opened_count n.evidence + opened_in a + opened_in b) ≡ s.opened + 1 + opened_in a + opened_in b = omega (arith, e) in
    let g : greater s.bound (greater (tree_bound a) (tree_bound b)) ≡ greater (greater s.bound (tree_bound a)) (tree_bound b) = greater_assoc s.bound (tree_bound a) (tree_bound b) in
    λ i. record { opened = o i; bound = g i }
