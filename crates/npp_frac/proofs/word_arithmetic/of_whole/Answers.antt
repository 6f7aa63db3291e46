use Rattle.std.proofs.Common.{refl, ◌≡◌, FitsSigned, to_z, of_z, to_z-of_z, lit<}
use Rattle.std.specs.Int.{w64}
use Rattle.npp_frac.specs.Gcd.{gcd-one}
use Rattle.npp_frac.specs.Rational.{whole_value}
use Rattle.npp_frac.proofs.word_arithmetic.of_whole.Goals as goal
use Rattle.npp_frac.proofs.word_arithmetic.of_whole.Goals.{Start}

plain : (c : Start) → to_z w64 (of_z w64 c.args.num) ≡ c.args.num
plain c = let fits : FitsSigned w64 c.args.num = c.ranges.num in to_z-of_z fits

pub invariant_of-result : goal.invariant_of-result
invariant_of-result c = record {
  positive = lit< tt;
  reduced = gcd-one _;
  num_below = rw (plain c) c.requires;
  den_below = lit< tt;
}

pub returns-clause-exact : goal.returns-clause-exact
returns-clause-exact c = whole_value _ _ (plain (goal.at.returns-clause-exact c).Start) refl
