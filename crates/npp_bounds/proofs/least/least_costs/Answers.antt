use Rattle.std.proofs.Common.{◌<◌, ◌≤◌, length, ap, arith}
use Rattle.npp_bounds.proofs.Progress.{found_more, found_walks}
use Rattle.npp_bounds.proofs.ZeroCheapest.{zero_earned}
use Rattle.npp_bounds.proofs.least.least_costs.Goals as goal

pub loop-i-preserved : goal.loop-i-preserved
loop-i-preserved c =
    let here = rw (c.in-Some.is, c.commodities-k-items.ensures.list) at c.in_ok-least_of.ensures in
    let within : c.loop-i.i < length c.args.instance.now.commodities = omega (arith, ap length c.commodities-k-items.ensures.list) in
    rw (c.in_ok-push-in-Some.ensures.items, c.in_ok-push-in-Some-2.ensures.items)
    (found_more _ _ _ _ _ _ _ _ within here.0 here.1 c.loop-i.invariant)

pub returns-clause-earned : goal.returns-clause-earned
returns-clause-earned c =
    let net = c.args.instance.now in
    let all : length net.commodities ≤ c.loop-i.i = omega (arith, ap length c.commodities-k-items.ensures.list) in
    zero_earned net _ _ (found_walks net.arcs net.commodities c.loop-i.i _ _ all c.loop-i.invariant)
