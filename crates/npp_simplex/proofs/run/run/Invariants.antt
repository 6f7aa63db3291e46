use Rattle.std.proofs.Common.{◌≡◌, ◌-◌, Some}
use Rattle.npp_frac.specs.Fits.{limit_of}
use Rattle.npp_simplex.specs.Run.{run_from}
use Rattle.npp_simplex.proofs.run.run.Given as goal

abbrev pub invariant-loop-made : goal.invariant-loop-made
invariant-loop-made g l = run_from (Some (limit_of g.N.Exact.WIDTH)) (l.cap - l.made) l.made l.state ≡ run_from (Some (limit_of g.N.Exact.WIDTH)) l.cap 0 l.fn.first
