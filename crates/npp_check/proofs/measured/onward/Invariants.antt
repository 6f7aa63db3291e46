use Rattle.std.proofs.Common.{map, take}
use Rattle.npp_check.specs.Measures.{AreAllOnward}
use Rattle.npp_check.proofs.MeasureLoop.{costs_of}
use Rattle.npp_check.proofs.measured.onward.Given as goal

-- the tables are those of the commodities so far
abbrev pub invariant-loop-commodity : goal.invariant-loop-commodity
invariant-loop-commodity l = AreAllOnward l.instance.arcs l.instance.nodes (take l.commodity-index l.commodity-items) (map costs_of l.tables.items)
