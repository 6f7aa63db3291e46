-- What a path is apart from the room that its list of arcs takes.
use Rattle.npp_cover.specs.declared.path.UsefulPath.{UsefulPath}
use Rattle.npp_cover.specs.Paths.{PathValue}

-- its tolls as a set, its cost, and the arcs of its walk
abbrev pub path_value : UsefulPath → PathValue
path_value p = record { tolls = p.tolls; cost = p.cost; arcs = p.walk.arcs.items }
