use Rattle.std.proofs.Common.{◌≡◌, length}
use Rattle.npp_cover.specs.Needed.{AreArcs}
use Rattle.npp_cover.proofs.needed.note_cheapest.Given as goal

abbrev pub invariant-loop-arc : goal.invariant-loop-arc
invariant-loop-arc l = (length l.cheapest.items ≡ l.instance.nodes) × AreArcs l.instance.arcs l.cheapest.items
