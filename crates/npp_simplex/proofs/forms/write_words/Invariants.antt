use Rattle.std.proofs.Common.{◌≡◌, ℕ, ◌<◌, ◌≤◌, map, nat_abs}
use Rattle.npp_frac.specs.Rational.{ratio}
use Rattle.npp_lp.specs.Programs.{at}
use Rattle.npp_simplex.specs.CommonForm.{number_in}
use Rattle.npp_simplex.proofs.forms.write_words.Given as goal

abbrev pub invariant-loop-j : goal.invariant-loop-j
invariant-loop-j g l = record {
  done : (k : ℕ) → k < l.j → ratio (number_in l.words k) l.denominator ≡ at (map g.N.Exact.rational l.fractions) k;
  sizes : (k : ℕ) → k < l.j → nat_abs (number_in l.words k) ≤ l.greatest;
  below : l.greatest < l.limit;
}
