use Rattle.std.proofs.Common.{◌<◌, ◌≤◌, length, take, drop, ap, ◌∙◌, arith}
use Rattle.npp_rows.specs.PathModel.{PathModel}
use Rattle.npp_leaf.proofs.PointLaws.{none_split, part_fits, one_split, all_split}
use Rattle.npp_leaf.proofs.point.shares_of.Goals as goal

pub loop-k-init : goal.loop-k-init
loop-k-init g c = rw c.new-shares.ensures.items (none_split g.N.Exact.rational c.args.index.now.parts c.args.x.now c.requires)

pub split_at-requires : goal.split_at-requires
split_at-requires g c =
    let u : c.loop-k.k < length c.args.index.now.parts = omega (arith, c.loop-k-test.true, c.commodities-k-end.ensures.count, ap (λ (m : PathModel). length m.covers) c.table.ensures.same, c.table.ensures.allowed.size) in
    omega (arith, part_fits g.N.Exact.rational c.args.index.now.parts c.args.x.now c.loop-k.k c.loop-k.shares.items c.loop-k.rest.now c.loop-k.invariant u, ap length c.part.ensures.part)

pub loop-k-preserved : goal.loop-k-preserved
loop-k-preserved g c =
    let u : c.loop-k.k < length c.args.index.now.parts = omega (arith, c.loop-k-test.true, c.commodities-k-end.ensures.count, ap (λ (m : PathModel). length m.covers) c.table.ensures.same, c.table.ensures.allowed.size) in
    rw c.in_ok-push.ensures.items
    (one_split g.N.Exact.rational c.args.index.now.parts c.args.x.now c.loop-k.k c.loop-k.shares.items c.loop-k.rest.now c.loop-k.invariant u c.of.result c.split_at.result.1.now
    (c.of.ensures ∙ c.in_ok-from_slice.ensures.items ∙ c.split_at.ensures.front ∙ ap (λ n. take n c.loop-k.rest.now) (ap length c.part.ensures.part))
    (c.split_at.ensures.back ∙ ap (λ n. drop n c.loop-k.rest.now) (ap length c.part.ensures.part))
    (omega (arith, c.split_at.ensures.back_len, ap length c.part.ensures.part)))

pub returns : goal.returns
returns g c =
    let end : length c.args.index.now.parts ≤ c.loop-k.k = omega (arith, c.loop-k-test.false, c.commodities-k-end.ensures.count, ap (λ (m : PathModel). length m.covers) c.table.ensures.same, c.table.ensures.allowed.size) in
    all_split g.N.Exact.rational c.args.index.now.parts c.args.x.now c.loop-k.k c.loop-k.shares.items c.loop-k.rest.now c.loop-k.invariant end
