use Rattle.std.proofs.Common.{◌∙◌}
use Rattle.npp_rows.proofs.UnionLaws.{union_begins, union_below, union_next}
use Rattle.npp_rows.proofs.index.union.Goals as goal

pub loop-toll-init : goal.loop-toll-init
loop-toll-init c = union_begins c.args.set c.args.other _ (c.into_iter-toll-iterator.ensures.into_iter_gives ∙ c.tolls-toll-items.ensures)

pub with-all-requires : goal.with-all-requires
with-all-requires c = union_below c.args.set c.args.other _ _ c.loop-toll.invariant c.in-Some.toll.0 _ c.in-Some.ensures.steps

pub loop-toll-preserved : goal.loop-toll-preserved
loop-toll-preserved c = union_next c.args.set c.args.other _ _ c.loop-toll.invariant c.in-Some.toll.0 _ c.in-Some.ensures.steps _ c.with-all.ensures.added c.with-all.ensures.others
