use Rattle.std.proofs.Common.{◌<◌, sym, subst, arith}
use Rattle.npp_net.specs.declared.types.NodeId.{NodeId}
use Rattle.npp_short.specs.Reach.{cost_at}
use Rattle.npp_cover.specs.declared.label.Label.{Label}
use Rattle.npp_cover.specs.Labels.{label_at, label_after, IsCapped}
use Rattle.npp_cover.proofs.ClosureLemmas.{open_is, head_within}
use Rattle.npp_cover.proofs.closed.is_open.Goals as goal

pub returns-then-can_win : goal.returns-then-can_win
returns-then-can_win c =
    let capped : IsCapped (label_after c.args.instance.now.arcs (label_at c.args.labels.now c.args.number) (record { parent = c.args.number; arc = c.args.arc })) c.label_after-next.result =
    subst (λ (l : Label). IsCapped (label_after c.args.instance.now.arcs l (record { parent = c.args.number; arc = c.args.arc })) c.label_after-next.result)
    c.label_at.ensures c.label_after-next.ensures in
    let lt : c.label_after-next.result.node.0 < c.args.instance.now.nodes =
    subst (λ (n : NodeId). n.0 < c.args.instance.now.nodes) (sym capped.node) (head_within c.args.instance.now c.args.arc c.requires.network c.requires.arc) in
    open_is c.args.instance.now.arcs (cost_at c.args.potentials.now) c.args.free c.args.labels.now (label_at c.args.labels.now c.args.number) c.args.number c.args.arc
    c.label_after-next.result c.args.table.now c.dominates.result c.ranges.free.fits capped (sym c.if-can_win.ensures)
    c.requires.table (omega (arith, lt, c.requires.nodes)) c.dominates.ensures
