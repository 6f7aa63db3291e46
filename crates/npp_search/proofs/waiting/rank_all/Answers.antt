use Rattle.std.proofs.Common.{List, ◌++◌, ◌∙◌, sym, subst}
use Rattle.std.specs.List.Sorted.{IsPermutation}
use Rattle.std.proofs.lemmas.List.Sorted.{IsPermutation-trans}
use Rattle.npp_search.specs.declared.waiting.Waiting.{Waiting}
use Rattle.npp_search.proofs.HeapLaws.{moves_back}
use Rattle.npp_search.proofs.waiting.rank_all.Goals as goal

pub loop-node-preserved : goal.loop-node-preserved
loop-node-preserved c =
    let ranked = c.loop-node.ranked.nodes in
    let more = c.push.new.self.nodes in
    let listed = c.loop-node.listed in
    let rest = c.pop.new.self in (
      c.push.ensures.order ∙ c.loop-node.invariant.0,
      IsPermutation-trans (c.args.ranked.now.nodes ++ c.args.listed.now) (ranked ++ listed) (more ++ rest) c.loop-node.invariant.1
          (subst (λ (ws : List Waiting). IsPermutation (ranked ++ ws) (more ++ rest)) (sym c.in-Some.ensures) (moves_back ranked more rest c.in-Some.node c.in_ok-push.ensures.nodes)),
    )
