use Rattle.std.proofs.Common.{◌<◌, List, All, subst, sym}
use Rattle.npp_cover.specs.Paths.{PathValue}
use Rattle.npp_check.proofs.PathPriceLemmas.{costs_below}
use Rattle.npp_check.proofs.prices.walk_is_cheapest.Goals as goal

pub none_cheaper-requires-clause-costs : goal.none_cheaper-requires-clause-costs
none_cheaper-requires-clause-costs g c =
    costs_below 1000000000 c.paths.result.now (subst (λ (ps : List PathValue). All (λ p. p.cost < 1000000000) ps) (sym c.paths.ensures) c.requires.costs)
