use Rattle.std.proofs.Common.{List, length, map, ap, ◌∙◌, arith}
use Rattle.npp_rows.specs.PathModel.{PathModel}
use Rattle.npp_tree.specs.Points.{shares_from}
use Rattle.npp_leaf.proofs.PointLaws.{columns_hold, point_is}
use Rattle.npp_leaf.proofs.point.point_of.Goals as goal

pub split_at-requires : goal.split_at-requires
split_at-requires g c =
    omega (arith, c.tolls-count.ensures.count, ap (λ (m : PathModel). length m.caps) c.table.ensures.same, c.requires, columns_hold c.args.index.now.paths c.args.index.now.parts c.table.ensures.allowed)

pub shares_of-requires : goal.shares_of-requires
shares_of-requires g c =
    omega (
      arith,
      c.split_at.ensures.back_len,
      c.tolls-count.ensures.count,
      ap (λ (m : PathModel). length m.caps) c.table.ensures.same,
      c.requires,
      columns_hold c.args.index.now.paths c.args.index.now.parts c.table.ensures.allowed,
    )

pub returns : goal.returns
returns g c =
    let v = g.N.Exact.rational in
    point_is v c.args.index.now.paths c.args.index.now.parts c.tolls-count.result c.args.x.now c.of.result c.of-2.result
    (c.tolls-count.ensures.count ∙ ap (λ (m : PathModel). length m.caps) c.table.ensures.same)
    (c.of.ensures ∙ c.in_ok-from_slice.ensures.items ∙ c.split_at.ensures.front)
    (ap (map (map v)) c.of-2.ensures ∙ c.in_ok-shares.ensures ∙ ap (λ (l : List g.row.N.Denot). shares_from c.args.index.now.parts (map v l)) c.split_at.ensures.back)
