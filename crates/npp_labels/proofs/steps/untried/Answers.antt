use Rattle.std.proofs.Common.{sym, ◌∙◌}
use Rattle.npp_short.specs.Reach.{cost_at}
use Rattle.npp_labels.proofs.PendingLemmas.{tried_by}
use Rattle.npp_labels.proofs.steps.untried.Goals as goal

pub returns-then-dominates : goal.returns-then-dominates
returns-then-dominates c =
    tried_by c.args.instance.now.arcs (cost_at c.args.potentials.now) c.args.free c.args.family.now.labels c.args.number c.args.arc c.in_ok-next.next c.label_of-label.result
    c.ranges.free.fits c.requires.number c.requires.arc c.requires.tail c.in_ok-next.ensures.0 c.label_of-label.ensures (sym c.dominates.ensures ∙ c.if-dominates.true)
