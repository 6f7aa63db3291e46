use Rattle.std.proofs.Common.{◌≡◌, ◌<◌, ◌∙◌, ap, arith, map, length}
use Rattle.std.specs.Prelude.{List, slice_index_or}
use Rattle.npp_frac.specs.Fits.{limit_of}
use Rattle.npp_net.specs.declared.types.Commodity.{Commodity}
use Rattle.npp_net.specs.Network.{no_commodity}
use Rattle.npp_tree.specs.Outcome.{path_line_value}
use Rattle.npp_check.specs.Prices.{no_path_line}
use Rattle.npp_check.proofs.CountedLemmas.{starts_at, step_refused, step_taken, paid_at}
use Rattle.npp_check.proofs.prices.revenue.Goals as goal

pub loop-k-init : goal.loop-k-init
loop-k-init g c =
    starts_at g.N.Exact.rational (limit_of g.N.Exact.WIDTH) (λ k. (slice_index_or c.args.instance.now.commodities k no_commodity).demand)
    (λ k. (slice_index_or (map (path_line_value g.N.Exact.rational) c.args.lines.now) k no_path_line).paid) c.of_whole-sum.result c.of_whole-sum.ensures

pub returns-in_err-sum : goal.returns-in_err-sum
returns-in_err-sum g c =
    let below : c.loop-k.k < length c.args.instance.now.commodities = omega arith in
    let demand : c.from.result ≡ (slice_index_or c.commodities-commodities.result.now c.loop-k.k no_commodity).demand = c.from.ensures in
    let named = demand ∙ ap (λ (ks : List Commodity). (slice_index_or ks c.loop-k.k no_commodity).demand) c.commodities-commodities.ensures.list in
    step_refused g.N.Exact.rational (limit_of g.N.Exact.WIDTH) (length c.args.instance.now.commodities) (λ k. (slice_index_or c.args.instance.now.commodities k no_commodity).demand)
    (λ k. (slice_index_or (map (path_line_value g.N.Exact.rational) c.args.lines.now) k no_path_line).paid) c.loop-k.k c.loop-k.sum c.index-lines-k.result.paid c.from.result below c.loop-k.invariant named
    (paid_at g.N.Exact.rational c.args.lines.now c.loop-k.k c.index-lines-k.result c.loop-k-test.true c.index-lines-k.is)
    c.from_residual.result c.in_err-sum.field-0.0 c.from_residual.ensures.1 c.in_err-sum.ensures

pub loop-k-preserved : goal.loop-k-preserved
loop-k-preserved g c =
    let below : c.loop-k.k < length c.args.instance.now.commodities = omega arith in
    let demand : c.from.result ≡ (slice_index_or c.commodities-commodities.result.now c.loop-k.k no_commodity).demand = c.from.ensures in
    let named = demand ∙ ap (λ (ks : List Commodity). (slice_index_or ks c.loop-k.k no_commodity).demand) c.commodities-commodities.ensures.list in
    step_taken g.N.Exact.rational (limit_of g.N.Exact.WIDTH) (length c.args.instance.now.commodities) (λ k. (slice_index_or c.args.instance.now.commodities k no_commodity).demand)
    (λ k. (slice_index_or (map (path_line_value g.N.Exact.rational) c.args.lines.now) k no_path_line).paid) c.loop-k.k c.loop-k.sum c.index-lines-k.result.paid c.from.result below c.loop-k.invariant named
    (paid_at g.N.Exact.rational c.args.lines.now c.loop-k.k c.index-lines-k.result c.loop-k-test.true c.index-lines-k.is)
    c.in_ok-sum.sum c.in_ok-sum.ensures
