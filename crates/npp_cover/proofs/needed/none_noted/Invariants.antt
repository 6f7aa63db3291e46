use Rattle.std.proofs.Common.{◌≡◌, length}
use Rattle.npp_cover.specs.Needed.{AreArcs}
use Rattle.npp_cover.proofs.needed.none_noted.Given as goal

abbrev pub invariant-loop : goal.invariant-loop
invariant-loop l = (length l.noted.items ≡ l.counter) × AreArcs l.instance.arcs l.noted.items
