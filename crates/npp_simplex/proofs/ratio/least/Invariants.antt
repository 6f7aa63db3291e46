use Rattle.std.proofs.Common.{map}
use Rattle.npp_simplex.proofs.Comparing.{IsLeastUpTo}
use Rattle.npp_simplex.proofs.ratio.least.Given as goal

abbrev pub invariant-loop-s : goal.invariant-loop-s
invariant-loop-s g l = IsLeastUpTo (map g.N.Exact.rational l.numbers) l.s (g.N.Exact.rational l.best)
