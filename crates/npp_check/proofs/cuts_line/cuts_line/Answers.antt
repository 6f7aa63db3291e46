use Rattle.std.proofs.Common.{◌<◌, ◌^◌, arith}
use Rattle.npp_tree.specs.Outcome.{path_line_value}
use Rattle.npp_check.proofs.CoverFacts.{costs_small}
use Rattle.npp_check.proofs.CoverLemmas.{all_closed}
use Rattle.npp_check.proofs.TreeStandLemmas.{all_of_map}
use Rattle.npp_check.proofs.cuts_line.cuts_line.Goals as goal

pub earns_lower-requires-clause-costs : goal.earns_lower-requires-clause-costs
earns_lower-requires-clause-costs g c =
    costs_small c.args.instance.now c.nodes-nodes.ensures.limits c.args.covers.now
    (all_closed c.args.instance.now c.args.covers.now (omega (arith, c.requires.covers.count)) c.requires.covers.closed) c.requires.covers.few

pub earns_lower-requires-clause-cost : goal.earns_lower-requires-clause-cost
earns_lower-requires-clause-cost g c = rw c.deref-2.ensures.value (all_of_map (λ p. p.cost < 2 ^ 63) (path_line_value g.N.Exact.rational) c.args.printed.now.paths.items c.requires.printed.costs)
