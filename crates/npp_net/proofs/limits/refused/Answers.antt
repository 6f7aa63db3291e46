use Rattle.std.proofs.Common.{◌≡◌, None, rules}
use Rattle.npp_net.specs.Refusal.{refusal_of}
use Rattle.npp_net.specs.Network.{Network}
use Rattle.npp_net.proofs.LimitLemmas.{limits_hold}
use Rattle.npp_net.proofs.limits.refused.Goals as goal

pub returns-clause-limits : goal.returns-clause-limits
returns-clause-limits c =
    let net : Network = record { nodes = c.args.nodes; arcs = c.args.arcs.now; commodities = c.args.commodities.now } in
    let none : refusal_of net ≡ None = search rules in
    limits_hold net none
