use Rattle.std.proofs.Common.{refl, inr}
use Rattle.npp_search.proofs.from.grow.Goals as goal

pub loop-turn-init : goal.loop-turn-init
loop-turn-init g c = record {
  opened = c.in_ok-state.ensures.opened;
  picker = refl;
  under_way = c.in_ok-state.ensures.under_way (g.P.Picker.best_first c.args.picker.now);
}

pub returns-then-not-branch-clause-ended : goal.returns-then-not-branch-clause-ended
returns-then-not-branch-clause-ended g c = inr (c.in_ok-turn.ensures.ended c.if-not-branch.true)
