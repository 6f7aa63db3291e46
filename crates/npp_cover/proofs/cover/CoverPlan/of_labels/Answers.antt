use Rattle.std.proofs.Common.{rules, ◌≡◌, List, map, ◌++◌, ◌∷◌, [], refl, subst}
use Rattle.npp_net.specs.declared.types.Commodity.{Commodity}
use Rattle.npp_cover.specs.declared.label.Label.{Label}
use Rattle.npp_cover.specs.declared.rank.Rank.{Rank}
use Rattle.npp_cover.specs.Useful.{commodity_at}
use Rattle.npp_cover.specs.Paths.{AreInOrder, path_of, free_path}
use Rattle.npp_cover.proofs.CoverLemmas.{is_cover, ranks_of_labels}
use Rattle.npp_cover.proofs.cover.CoverPlan.of_labels.Goals as goal

-- the ranks are those of the labels at the destination of the commodity
ordered : (labels seen : List Label) (k kk : Commodity) (ranks : List Rank) → seen ≡ labels → kk ≡ k
    → AreInOrder seen kk.destination.0 ranks → AreInOrder labels k.destination.0 ranks
ordered labels seen k kk ranks is_seen is_k in_order =
    subst (λ (xs : List Label). AreInOrder xs k.destination.0 ranks) is_seen (subst (λ (x : Commodity). AreInOrder seen x.destination.0 ranks) is_k in_order)

pub invariant_of-result : goal.invariant_of-result
invariant_of-result c =
    let in_order = ordered c.args.labels.items c.deref.result.now (commodity_at c.args.instance.now c.args.k) c.commodity_at.result c.in_ok-ranks.ranks.items
    c.deref.ensures.value c.commodity_at.ensures.same c.in_ok-ranks.ensures in
    (search rules, ranks_of_labels c.args.labels.items (commodity_at c.args.instance.now c.args.k).destination.0 c.in_ok-ranks.ranks.items in_order)

pub returns-clause-cover : goal.returns-clause-cover
returns-clause-cover c =
    let in_order = ordered c.args.labels.items c.deref.result.now (commodity_at c.args.instance.now c.args.k) c.commodity_at.result c.in_ok-ranks.ranks.items
    c.deref.ensures.value c.commodity_at.ensures.same c.in_ok-ranks.ensures in
    is_cover c.args.instance.now.arcs (commodity_at c.args.instance.now c.args.k) c.args.span c.args.labels.items c.args.free.arcs.items
    (map (path_of c.args.labels.items) c.in_ok-ranks.ranks.items ++ free_path c.args.span.free c.args.free.arcs.items ∷ [])
    c.requires.span c.requires.closed c.requires.free (c.in_ok-ranks.ranks.items, in_order, refl)
