use Rattle.std.proofs.Common.{◌∙◌}
use Rattle.npp_rows.proofs.RaiseLaws.{raise_begins, raise_next, raise_ends}
use Rattle.npp_rows.proofs.toll_caps.raise_on.Goals as goal

pub loop-toll-init : goal.loop-toll-init
loop-toll-init c = raise_begins c.args.set c.args.gap c.args.gaps.now _ c.requires (c.into_iter-toll-iterator.ensures.into_iter_gives ∙ c.tolls-toll-items.ensures)

pub loop-toll-preserved : goal.loop-toll-preserved
loop-toll-preserved c =
    raise_next c.args.set c.args.gap c.args.gaps.now _ _ c.loop-toll.invariant c.in-Some.toll.0 _ _ c.in-Some.ensures.steps c.raise_one.ensures.size c.raise_one.ensures.raised c.raise_one.ensures.others

pub returns-clause-size : goal.returns-clause-size
returns-clause-size c = c.loop-toll.invariant.size

pub returns-clause-gaps : goal.returns-clause-gaps
returns-clause-gaps c = raise_ends c.args.set c.args.gap c.args.gaps.now _ _ c.loop-toll.invariant c.in-None.ensures.steps.0
