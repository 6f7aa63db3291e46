use Rattle.npp_short.specs.Reach.{cost_at}
use Rattle.npp_labels.proofs.WaitLemmas.{advances}
use Rattle.npp_labels.proofs.steps.advance.Goals as goal

pub returns : goal.returns
returns c =
    advances c.args.instance.now.arcs (cost_at c.args.potentials.now) c.args.free c.args.needed.now c.args.family.now.labels c.args.number c.args.left c.args.pending.now c.add.new.pending
    c.next_untried-next.result c.next_untried-next.ensures c.in_ok-add.ensures
