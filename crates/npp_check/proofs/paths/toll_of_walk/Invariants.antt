use Rattle.std.proofs.Common.{◌≡◌, Ok, map}
use Rattle.npp_frac.specs.Fits.{limit_of}
use Rattle.npp_lp.specs.Programs.{at}
use Rattle.npp_net.specs.Walk.{walk_tolls}
use Rattle.npp_check.specs.Rules.{counted_sum}
use Rattle.npp_check.proofs.paths.toll_of_walk.Given as goal

-- the sum of the tolls so far
abbrev pub invariant-loop-toll : goal.invariant-loop-toll
invariant-loop-toll g l =
    counted_sum (limit_of g.N.Exact.WIDTH) l.toll (λ a. walk_tolls l.instance.arcs l.arcs a) (at (map g.N.Exact.rational l.tolls)) ≡ Ok (g.N.Exact.rational l.sum)
