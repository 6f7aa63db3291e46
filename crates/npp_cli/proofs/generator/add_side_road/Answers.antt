use Rattle.npp_cli.specs.Generated.{side_arcs}
use Rattle.npp_report.proofs.Growth.{grown_by_more}
use Rattle.npp_cli.proofs.Growth.{flat_map_first_more}
use Rattle.npp_cli.proofs.generator.add_side_road.Goals as goal

pub loop-i-preserved : goal.loop-i-preserved
loop-i-preserved c =
    grown_by_more _ _ _ _ _ _ c.loop-i.invariant
    (rw (c.side_node.ensures, c.side_node-in-loop-i.ensures, c.spread-cost.ensures.value) at c.in_ok-add_both_ways.ensures)
    (flat_map_first_more (side_arcs c.args.number) c.loop-i.i)
