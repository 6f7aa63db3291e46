use Rattle.std.proofs.Common.{◌∷◌, map, subst, heap_items}
use Rattle.std.specs.List.Sorted.{IsPermutation}
use Rattle.std.proofs.lemmas.List.Elements.{All-cons}
use Rattle.std.proofs.lemmas.List.Sorted.{IsPermutation-map, All-permutation}
use Rattle.npp_search.specs.declared.ranked.Ranked.{Ranked}
use Rattle.npp_search.specs.Rank.{RankingValue, IsAtLevel, node_of}
use Rattle.npp_search.proofs.ranking.Ranking.push.Goals as goal

pub invariant_of-self-2 : goal.invariant_of-self-2
invariant_of-self-2 c =
    let told = c.in_ok-push.ensures in
    let order = c.self.inside.order in
    let added : Ranked = record { level = c.level_of-level.result; node = c.args.node } in (
      told.heap_order c.self.invariant.0,
      All-permutation (IsAtLevel order) (added ∷ heap_items c.self.inside.heap) (heap_items c.push.new.self) told.permutation
          (All-cons (IsAtLevel order) added (heap_items c.self.inside.heap) c.level_of-level.ensures c.self.invariant.1),
    )

pub returns-clause-nodes : goal.returns-clause-nodes
returns-clause-nodes c =
    subst (λ (v : RankingValue). IsPermutation (c.args.node ∷ v.nodes) (map node_of (heap_items c.push.new.self))) c.self.view_is
    (IsPermutation-map node_of _ _ c.in_ok-push.ensures.permutation)
