use Rattle.std.proofs.Common.{◌≡◌, ℕ, ◌<◌, map}
use Rattle.npp_lp.specs.Programs.{at}
use Rattle.npp_simplex.specs.CommonForm.{over}
use Rattle.npp_simplex.proofs.long_forms.write_long_fractions.Given as goal

abbrev pub invariant-loop-j : goal.invariant-loop-j
invariant-loop-j g l = (k : ℕ) → k < l.j → at (map g.N.Exact.rational l.fractions) k ≡ at (over l.fn.sizes.denominator l.words) k
