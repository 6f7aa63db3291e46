use Rattle.npp_cover.proofs.PathLemmas.{back_more, back_end}
use Rattle.npp_cover.proofs.paths.walk_of.Goals as goal

pub loop-arc-preserved : goal.loop-arc-preserved
loop-arc-preserved c =
    back_more c.args.labels.now c.args.number c.loop-arc.at c.in-Some.arc c.loop-arc.arcs.items c.push.new.self.items c.label_at.result c.label_at-at.result
    c.requires.linked c.loop-arc.invariant.0 c.label_at.ensures c.in-Some.is c.label_at-at.ensures c.in_ok-push.ensures.items c.loop-arc.invariant.1

pub returns : goal.returns
returns c =
    back_end c.args.labels.now c.args.number c.loop-arc.at c.loop-arc.arcs.items c.reverse.new.self.items c.label_at.result c.label_at.ensures c.in_default.not-Some
    c.reverse.ensures.items c.loop-arc.invariant.1
