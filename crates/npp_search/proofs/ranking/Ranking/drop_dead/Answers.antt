use Rattle.std.proofs.Common.{List, map, sym, subst, rules, heap_items}
use Rattle.std.specs.Prelude.{filter}
use Rattle.std.specs.List.Sorted.{IsPermutation}
use Rattle.std.proofs.lemmas.Fn.{filter_same}
use Rattle.std.proofs.lemmas.List.Elements.{All-filter}
use Rattle.std.proofs.lemmas.List.Sorted.{IsPermutation-map, All-permutation}
use Rattle.npp_frac.specs.Rational.{is_less}
use Rattle.npp_frac.specs.Wide.{value_of_wide}
use Rattle.npp_search.specs.declared.ranked.Ranked.{Ranked}
use Rattle.npp_search.specs.declared.waiting.Waiting.{Waiting}
use Rattle.npp_search.specs.Rank.{RankingValue, IsAtLevel, node_of}
use Rattle.npp_search.specs.Search.{bound_at, still_waiting}
use Rattle.npp_search.proofs.TakeLaws.{filter_of_map}
use Rattle.npp_search.proofs.ranking.Ranking.drop_dead.Goals as goal

pub invariant_of-self : goal.invariant_of-self
invariant_of-self c =
    let order = c.self.inside.order in
    let lower = value_of_wide c.args.lower in
    let told = c.retain.ensures in
    let is = filter_same _ (λ (r : Ranked). is_less lower (bound_at r.node)) _ (λ x b f' k. search rules) (heap_items c.self.inside.heap) told.filtered.0 told.filtered.1 in
    let kept = subst (λ (rs : List Ranked). IsPermutation rs (heap_items c.retain.new.self)) is told.filtered.2 in (
      told.heap_order,
      All-permutation (IsAtLevel order) (filter (λ (r : Ranked). is_less lower (bound_at r.node)) (heap_items c.self.inside.heap)) (heap_items c.retain.new.self) kept
          (All-filter (λ (r : Ranked). is_less lower (bound_at r.node)) (IsAtLevel order) (heap_items c.self.inside.heap) c.self.invariant.1),
    )

pub returns-clause-nodes : goal.returns-clause-nodes
returns-clause-nodes c =
    let lower = value_of_wide c.args.lower in
    let told = c.retain.ensures in
    let is = filter_same _ (λ (r : Ranked). is_less lower (bound_at r.node)) _ (λ x b f' k. search rules) (heap_items c.self.inside.heap) told.filtered.0 told.filtered.1 in
    let kept = subst (λ (rs : List Ranked). IsPermutation rs (heap_items c.retain.new.self)) is told.filtered.2 in
    subst (λ (v : RankingValue). IsPermutation (still_waiting lower v.nodes) (map node_of (heap_items c.retain.new.self))) c.self.view_is
    (subst (λ (ws : List Waiting). IsPermutation ws (map node_of (heap_items c.retain.new.self)))
    (sym (filter_of_map node_of (λ (w : Waiting). is_less lower (bound_at w)) (heap_items c.self.inside.heap)))
    (IsPermutation-map node_of (filter (λ (r : Ranked). is_less lower (bound_at r.node)) (heap_items c.self.inside.heap)) (heap_items c.retain.new.self) kept))
