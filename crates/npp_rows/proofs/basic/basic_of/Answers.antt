use Rattle.std.proofs.Common.{◌<◌, ℕ, List, [], min, fold, map, get_or, length, sym, ap, ◌∙◌, arith}
use Rattle.std.proofs.lemmas.List.{get_or_read, get_or_default}
use Rattle.npp_net.specs.Network.{no_commodity}
use Rattle.npp_net.specs.declared.types.Commodity.{Commodity}
use Rattle.npp_cover.specs.Replaces.{CoverValue, path_at}
use Rattle.npp_rows.specs.PathModel.{no_cover}
use Rattle.npp_rows.specs.Parts.{part_at}
use Rattle.npp_rows.specs.Caps.{path_model}
use Rattle.npp_rows.proofs.BasicLaws.{basic_holds}
use Rattle.npp_rows.proofs.ModelLaws.{covers_size, demand_is, basic_step}
use Rattle.npp_rows.proofs.basic.basic_of.Goals as goal

pub bounds-commodities-k : goal.bounds-commodities-k
bounds-commodities-k c = omega (arith, ap length c.commodities-commodities.ensures.list, covers_size c.args.instance.now c.args.covers.now c.requires.covers)

pub loop-k-preserved : goal.loop-k-preserved
loop-k-preserved c =
    let net = c.args.instance.now in
    let covers = c.args.covers.now in
    let parts = c.args.allowed.now.parts in
    let k = c.loop-k.k in
    let list = c.commodities-commodities.ensures.list in
    let size = covers_size net covers c.requires.covers in
    let inside : k < length c.commodities-commodities.result.now = omega (arith, ap length list, size) in
    let cover = get_or_read covers k c.index-covers-k.result c.loop-k-test.true c.index-covers-k.is no_cover in
    let part_in : k < length c.entries-parts.result.now = omega (arith, ap length c.entries-parts.ensures, c.requires.allowed.size) in
    let part = get_or_read c.entries-parts.result.now k c.index-parts-k.result part_in c.index-parts-k.is [] ∙ ap (λ (l : List (List ℕ)). get_or l k []) c.entries-parts.ensures in
    let demand = ap (λ (x : Commodity). x.demand) (get_or_default c.commodities-commodities.result.now k _ no_commodity inside)
    ∙ ap (λ (l : List Commodity). (get_or l k no_commodity).demand) list ∙ sym (demand_is net covers k (omega (arith, size))) in
    let least = c.least_cost-least.ensures
    ∙ ap (λ (ps : List ℕ). fold min c.index-covers-k.result.free (map (λ p. (path_at c.index-covers-k.result.paths p).cost) ps)) (c.entries.ensures ∙ part)
    ∙ ap (λ (x : CoverValue). fold min x.free (map (λ p. (path_at x.paths p).cost) (part_at parts k))) cover in (
      basic_step (path_model net covers) parts k c.loop-k.total _ c.free_cost-free.result c.least_cost-least.result c.most-total.result c.saturating_sub.result c.loop-k.invariant.0 c.most-total.ensures.value c.saturating_sub.ensures demand (c.free_cost-free.ensures ∙ ap (λ (x : CoverValue). x.free) cover) least,
      omega (arith, c.most-total.ensures.small, c.loop-k.invariant.1),
    )

pub returns-clause-bound : goal.returns-clause-bound
returns-clause-bound c = basic_holds c.args.instance.now (path_model c.args.instance.now c.args.covers.now) c.args.allowed.now.parts
