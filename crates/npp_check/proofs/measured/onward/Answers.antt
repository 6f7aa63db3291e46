use Rattle.std.proofs.Common.{◌≡◌, ◌+◌, List, [], ◌∷◌, ◌++◌, map, take, get_or, subst, sym, ap, ◌∙◌}
use Rattle.std.proofs.lemmas.List.{take_more, take_all, map-append}
use Rattle.std.specs.Prelude.{Option, ℕ}
use Rattle.npp_net.specs.declared.types.Commodity.{Commodity}
use Rattle.npp_net.specs.Network.{no_commodity}
use Rattle.npp_check.specs.Measures.{AreAllOnward}
use Rattle.npp_check.proofs.MeasureLoop.{costs_of, onward_is, onward_push}
use Rattle.npp_check.proofs.measured.onward.Goals as goal

pub loop-commodity-preserved : goal.loop-commodity-preserved
loop-commodity-preserved c =
    let k : Commodity = get_or c.commodities-commodity-items.result.now c.loop-commodity.commodity-index no_commodity in
    let more = onward_push c.args.instance.now.arcs c.args.instance.now.nodes (take c.loop-commodity.commodity-index c.commodities-commodity-items.result.now) (map costs_of c.loop-commodity.tables.items)
    k (costs_of c.in_ok-distances_to.field-0) c.loop-commodity.invariant
    (onward_is c.args.instance.now.arcs c.args.instance.now.nodes k c.in_ok-distances_to.field-0 c.in_ok-distances_to.ensures.distances) in
    let ks : take (c.loop-commodity.commodity-index + 1) c.commodities-commodity-items.result.now ≡ take c.loop-commodity.commodity-index c.commodities-commodity-items.result.now ++ k ∷ [] =
    take_more c.commodities-commodity-items.result.now c.loop-commodity.commodity-index no_commodity c.loop-commodity-test.true in
    let tables : map costs_of c.push.new.self.items ≡ map costs_of c.loop-commodity.tables.items ++ costs_of c.in_ok-distances_to.field-0 ∷ [] =
    ap (map costs_of) c.in_ok-push.ensures.items ∙ map-append costs_of c.loop-commodity.tables.items (c.in_ok-distances_to.field-0 ∷ []) in
    subst (λ (z : List Commodity). AreAllOnward c.args.instance.now.arcs c.args.instance.now.nodes z (map costs_of c.push.new.self.items)) (sym ks)
    (subst (λ (z : List (List (Option ℕ))). AreAllOnward c.args.instance.now.arcs c.args.instance.now.nodes
    (take c.loop-commodity.commodity-index c.commodities-commodity-items.result.now ++ k ∷ []) z) (sym tables) more)

pub returns : goal.returns
returns c =
    let whole = take_all c.loop-commodity.commodity-index c.commodities-commodity-items.result.now c.loop-commodity-test.false in
    let here = rw whole at c.loop-commodity.invariant in
    subst (λ (ks : List Commodity). AreAllOnward c.args.instance.now.arcs c.args.instance.now.nodes ks (map costs_of c.loop-commodity.tables.items)) c.commodities-commodity-items.ensures.list here
