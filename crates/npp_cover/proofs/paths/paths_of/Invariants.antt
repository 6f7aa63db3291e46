use Rattle.std.proofs.Common.{◌≡◌, map, take}
use Rattle.npp_cover.specs.PathValue.{path_value}
use Rattle.npp_cover.specs.Paths.{path_of}
use Rattle.npp_cover.proofs.paths.paths_of.Given as goal

abbrev pub invariant-loop-rank : goal.invariant-loop-rank
invariant-loop-rank l = map path_value l.paths.items ≡ map (path_of l.labels) (take l.rank-index l.ranks)
