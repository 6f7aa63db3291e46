use Rattle.npp_cover.proofs.SetLemmas.{is_with_arc}
use Rattle.npp_cover.proofs.extend.with_arc.Goals as goal

pub returns-in-Some : goal.returns-in-Some
returns-in-Some c =
    is_with_arc c.args.instance.now.arcs c.args.tolls c.args.arc c.in-Some.toll c.with.result c.in-Some.ensures c.with.ensures.added c.with.ensures.others
