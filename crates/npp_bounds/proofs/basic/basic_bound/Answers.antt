use Rattle.std.proofs.Common.{ℕ, ◌<◌, List, length, pos, subst, sym}
use Rattle.npp_net.specs.declared.types.Commodity.{Commodity}
use Rattle.npp_net.specs.Network.{no_commodity}
use Rattle.npp_net.specs.Outcome.{IsUpperBound}
use Rattle.npp_bounds.proofs.SpanLemmas.{spans_next, basic_all}
use Rattle.npp_bounds.proofs.Bounded.{basic_bounds}
use Rattle.npp_bounds.proofs.basic.basic_bound.Goals as goal

pub bounds-commodities-i : goal.bounds-commodities-i
bounds-commodities-i c =
    let net = c.args.instance.now in
    let next = spans_next net.arcs c.loop-i.i net.commodities c.args.spans.now no_commodity (record { free = 0; zero = 0 }) c.loop-i-test.true c.loop-i.invariant.rest in
    subst (λ (ks : List Commodity). c.loop-i.i < length ks) (sym c.commodities-commodities.ensures.list) next.within

pub most-total-requires-clause-above : goal.most-total-requires-clause-above
most-total-requires-clause-above c =
    let net = c.args.instance.now in
    (spans_next net.arcs c.loop-i.i net.commodities c.args.spans.now no_commodity (record { free = 0; zero = 0 }) c.loop-i-test.true c.loop-i.invariant.rest).above

pub returns-clause-value : goal.returns-clause-value
returns-clause-value c = basic_all _ _ _ _ c.loop-i-test.false c.loop-i.invariant.sum

pub returns-clause-bound : goal.returns-clause-bound
returns-clause-bound c =
    let net = c.args.instance.now in
    let all = basic_all net.commodities c.args.spans.now c.loop-i.i c.loop-i.total c.loop-i-test.false c.loop-i.invariant.sum in
    subst (λ (n : ℕ). IsUpperBound net (pos n) 1) (sym all) (basic_bounds net c.args.spans.now c.requires)
