use Rattle.std.proofs.Common.{◌≡◌, min, fold, map, take}
use Rattle.npp_cover.specs.Replaces.{path_at}
use Rattle.npp_rows.proofs.basic.least_cost.Given as goal

abbrev pub invariant-loop-path : goal.invariant-loop-path
invariant-loop-path l = l.least ≡ fold min l.cover.free (map (λ p. (path_at l.cover.paths p).cost) (take l.path-index l.part))
