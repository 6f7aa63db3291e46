use Rattle.npp_short.specs.Reach.{cost_at}
use Rattle.npp_cover.proofs.GrowingLemmas.{IsJudgedDraft}
use Rattle.npp_cover.proofs.check.check_cover.Given as goal

-- what is left of the steps decides
abbrev pub invariant-loop-step : goal.invariant-loop-step
invariant-loop-step l =
    IsJudgedDraft l.instance (cost_at l.potentials) l.fn.k l.fn.span l.fn.draft.started l.step-items l.step-index l.growing
