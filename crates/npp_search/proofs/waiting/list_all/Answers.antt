use Rattle.std.proofs.Common.{List, ◌++◌, sym, subst}
use Rattle.std.specs.List.Sorted.{IsPermutation}
use Rattle.std.proofs.lemmas.List.Sorted.{IsPermutation-trans}
use Rattle.npp_search.specs.declared.waiting.Waiting.{Waiting}
use Rattle.npp_search.proofs.HeapLaws.{moves_over, one_fewer}
use Rattle.npp_search.proofs.waiting.list_all.Goals as goal

pub loop-node-smaller : goal.loop-node-smaller
loop-node-smaller c = one_fewer c.loop-node.ranked.nodes c.pop.new.self.nodes c.in-Some.node c.in-Some.ensures.nodes

pub loop-node-preserved : goal.loop-node-preserved
loop-node-preserved c =
    let ranked = c.loop-node.ranked.nodes in
    let rest = c.pop.new.self.nodes in
    let listed = c.loop-node.listed in
    IsPermutation-trans (c.args.ranked.now.nodes ++ c.args.listed.now) (ranked ++ listed) (rest ++ c.push.new.self) c.loop-node.invariant
    (subst (λ (ws : List Waiting). IsPermutation (ranked ++ listed) (rest ++ ws)) (sym c.in_ok-push.ensures.ok) (moves_over ranked rest listed c.in-Some.node c.in-Some.ensures.nodes))
