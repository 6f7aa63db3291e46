use Rattle.std.proofs.Common.{◌≡◌, map}
use Rattle.std.specs.List.{range_with_len}
use Rattle.npp_simplex.specs.Vectors.{ray_value}
use Rattle.npp_simplex.proofs.vectors.ray.Given as goal

abbrev pub invariant-loop-j : goal.invariant-loop-j
invariant-loop-j g l = map g.N.Exact.rational l.numbers.items ≡ map (ray_value l.tableau l.basis l.column) (range_with_len 0 l.j)
