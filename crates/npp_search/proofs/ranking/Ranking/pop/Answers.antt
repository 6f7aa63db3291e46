use Rattle.std.proofs.Common.{◌∷◌, map, subst, heap_items}
use Rattle.std.specs.List.Sorted.{IsPermutation}
use Rattle.std.proofs.lemmas.List.Elements.{All-head, All-tail}
use Rattle.std.proofs.lemmas.List.Sorted.{IsPermutation-map, All-permutation}
use Rattle.npp_search.specs.Rank.{RankingValue, IsAtLevel, IsFirst, node_of}
use Rattle.npp_search.proofs.HeapLaws.{greatest_is_first}
use Rattle.npp_search.proofs.ranking.Ranking.pop.Goals as goal

pub invariant_of-self-2 : goal.invariant_of-self-2
invariant_of-self-2 c =
    let told = c.in_ok-node.ensures in
    let order = c.self.inside.order in
    let x = c.in_ok-node.field-0 in (
      (told.heap_order c.self.invariant.0).0,
      All-tail (IsAtLevel order) x (heap_items c.pop.new.self) (All-permutation (IsAtLevel order) (heap_items c.self.inside.heap) (x ∷ heap_items c.pop.new.self) told.permutation c.self.invariant.1),
    )

pub returns-clause-nodes : goal.returns-clause-nodes
returns-clause-nodes c =
    subst (λ (v : RankingValue). IsPermutation v.nodes (c.in_ok-node.field-0.node ∷ map node_of (heap_items c.pop.new.self))) c.self.view_is
    (IsPermutation-map node_of _ _ c.in_ok-node.ensures.permutation)

pub returns-clause-first : goal.returns-clause-first
returns-clause-first c =
    let told = c.in_ok-node.ensures in
    let order = c.self.inside.order in
    let x = c.in_ok-node.field-0 in
    let at = All-head (IsAtLevel order) x (heap_items c.pop.new.self) (All-permutation (IsAtLevel order) (heap_items c.self.inside.heap) (x ∷ heap_items c.pop.new.self) told.permutation c.self.invariant.1) in
    subst (λ (v : RankingValue). IsFirst v.order v.nodes x.node) c.self.view_is (greatest_is_first order x (heap_items c.self.inside.heap) at c.self.invariant.1 (told.heap_order c.self.invariant.0).1)
