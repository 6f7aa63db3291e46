use Rattle.std.proofs.Common.{◌∷◌, [], ℕ, List, ◌<◌, length, arith}
use Rattle.npp_cli.specs.Generated.{ramp_arcs}
use Rattle.npp_report.proofs.Growth.{grown_by_more}
use Rattle.npp_cli.proofs.Growth.{flat_map_take_more}
use Rattle.npp_cli.proofs.generator.add_ramps.Goals as goal

pub loop-i-preserved : goal.loop-i-preserved
loop-i-preserved c =
    let places : List ℕ = 0 ∷ 3 ∷ 6 ∷ 9 ∷ 12 ∷ [] in
    let in_range : c.loop-i.i-index < length places = omega arith in
    grown_by_more _ _ _ _ _ _ c.loop-i.invariant
    (rw (c.side_node.ensures, c.main_node.ensures) at c.in_ok-add_both_ways.ensures)
    (flat_map_take_more ramp_arcs places c.loop-i.i-index 0 in_range)
