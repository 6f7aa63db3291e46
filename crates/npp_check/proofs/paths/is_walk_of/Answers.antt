use Rattle.std.proofs.Common.{◌≡◌, ap, sym, ◌∙◌, refl}
use Rattle.npp_net.specs.declared.types.Commodity.{Commodity}
use Rattle.npp_net.specs.Network.{no_commodity}
use Rattle.std.specs.Prelude.{slice_index_or}
use Rattle.npp_cover.specs.Useful.{commodity_at}
use Rattle.npp_check.specs.PathLines.{is_walk_of}
use Rattle.npp_check.proofs.CoverFacts.{walk_small}
use Rattle.npp_check.proofs.WalkLemmas.{walk_in_range, walk_of_true, walk_of_false}
use Rattle.npp_check.proofs.paths.is_walk_of.Goals as goal

pub walk_cost-requires-clause-in_range : goal.walk_cost-requires-clause-in_range
walk_cost-requires-clause-in_range c = walk_in_range c.args.instance.now.arcs _ _ c.args.arcs.now (c.if-is_walk.ensures.0 refl)

pub returns-then-is_walk-clause-value : goal.returns-then-is_walk-clause-value
returns-then-is_walk-clause-value c =
    let k : Commodity = slice_index_or c.commodities.result.now c.args.k no_commodity in
    let named : k ≡ commodity_at c.args.instance.now c.args.k = ap (λ ks. slice_index_or ks c.args.k no_commodity) c.commodities.ensures.list in
    walk_of_true c.args.instance.now.arcs k c.args.cost c.args.arcs.now c.is_walk.result c.is_walk.ensures.0 c.is_walk.ensures.1 c.walk_cost.result c.if-is_walk.true c.walk_cost.ensures
    ∙ ap (λ (x : Commodity). is_walk_of c.args.instance.now.arcs x c.args.cost c.args.arcs.now) named

pub returns-else-is_walk-clause-value : goal.returns-else-is_walk-clause-value
returns-else-is_walk-clause-value c =
    let k : Commodity = slice_index_or c.commodities.result.now c.args.k no_commodity in
    let named : k ≡ commodity_at c.args.instance.now c.args.k = ap (λ ks. slice_index_or ks c.args.k no_commodity) c.commodities.ensures.list in
    walk_of_false c.args.instance.now.arcs k c.args.cost c.args.arcs.now c.is_walk.result c.is_walk.ensures.0 c.is_walk.ensures.1 c.if-is_walk.false
    ∙ ap (λ (x : Commodity). is_walk_of c.args.instance.now.arcs x c.args.cost c.args.arcs.now) named

pub returns-then-is_walk-clause-small : goal.returns-then-is_walk-clause-small
returns-then-is_walk-clause-small c = λ holds.
    walk_small c.args.instance.now c.commodities.ensures.limits (commodity_at c.args.instance.now c.args.k) c.args.cost c.args.arcs.now c.requires.short
    (sym (returns-then-is_walk-clause-value c) ∙ holds)

pub returns-else-is_walk-clause-small : goal.returns-else-is_walk-clause-small
returns-else-is_walk-clause-small c = λ holds.
    walk_small c.args.instance.now c.commodities.ensures.limits (commodity_at c.args.instance.now c.args.k) c.args.cost c.args.arcs.now c.requires.short
    (sym (returns-else-is_walk-clause-value c) ∙ holds)
