use Rattle.std.proofs.Common.{◌≡◌, sym, ◌∙◌, subst, All}
use Rattle.npp_net.specs.declared.types.ArcId.{ArcId}
use Rattle.std.specs.Prelude.{List, length, ◌<◌}
use Rattle.npp_cover.specs.Useful.{commodity_at}
use Rattle.npp_check.proofs.WalkLemmas.{walk_of_range}
use Rattle.npp_check.proofs.paths.path_line.Goals as goal

pub toll_of_walk-requires-clause-arcs : goal.toll_of_walk-requires-clause-arcs
toll_of_walk-requires-clause-arcs g c =
    let same : c.entries.result.now ≡ c.entries-2.result.now = c.entries.ensures ∙ sym c.entries-2.ensures in
    subst (λ (walk : List ArcId). All (λ x. x.0 < length c.args.instance.now.arcs) walk) same
    (walk_of_range c.args.instance.now.arcs (commodity_at c.args.instance.now c.args.k) c.in-Path.cost c.entries.result.now (sym c.is_walk_of.ensures.value ∙ c.if-not-is_walk_of.false))
