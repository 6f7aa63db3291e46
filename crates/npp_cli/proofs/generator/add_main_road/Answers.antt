use Rattle.npp_cli.specs.Generated.{main_arc}
use Rattle.npp_report.proofs.Growth.{grown_by_more}
use Rattle.npp_cli.proofs.Growth.{map_first_more}
use Rattle.npp_cli.proofs.generator.add_main_road.Goals as goal

pub loop-i-preserved : goal.loop-i-preserved
loop-i-preserved c =
    grown_by_more _ _ _ _ _ _ c.loop-i.invariant (rw c.main_arc.ensures at c.in_ok-push.ensures.items) (map_first_more (main_arc c.args.number) c.loop-i.i)
