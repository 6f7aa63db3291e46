use Rattle.std.proofs.Common.{rules, ap, sym, ◌∙◌, ◌≡◌, ◌/◌, pos, nat_abs, FitsSigned, to_z, of_z, to_z-of_z, div-le_self, lt_of_le_of_lt}
use Rattle.std.specs.Prelude.{int_div}
use Rattle.std.specs.Int.{w64}
use Rattle.npp_frac.specs.Gcd.{gcd, gcd-quotients, gcd_pos, gcd_le}
use Rattle.npp_frac.specs.Rational.{same_fields, ratio_fields, abs_quot, quotient_pos}
use Rattle.npp_frac.proofs.word_arithmetic.reduced.Goals as goal
use Rattle.npp_frac.proofs.word_arithmetic.reduced.Goals.{After-divided}

numerator : (c : After-divided) → to_z w64 (of_z w64 c.quotient.result) ≡ int_div c.args.num (pos (gcd (nat_abs c.args.num) c.args.den))
numerator c =
    let f : FitsSigned w64 c.args.num = c.ranges.num in
    let fq : FitsSigned w64 c.quotient.result = search rules in
    to_z-of_z fq ∙ c.quotient.ensures.exact ∙ ap (λ t. int_div t (pos c.args.divisor)) (to_z-of_z f) ∙ ap (λ t. int_div c.args.num (pos t)) c.requires.divisor

size_is : (c : After-divided) → nat_abs (to_z w64 (of_z w64 c.quotient.result)) ≡ nat_abs c.args.num / gcd (nat_abs c.args.num) c.args.den
size_is c = ap nat_abs (numerator c) ∙ abs_quot c.args.num _

den_is : (c : After-divided) → c.divided.result ≡ c.args.den / gcd (nat_abs c.args.num) c.args.den
den_is c = c.divided.ensures.exact ∙ ap (λ t. c.args.den / t) c.requires.divisor

pub invariant_of-result : goal.invariant_of-result
invariant_of-result c = record {
  positive = rw (den_is c) (quotient_pos (nat_abs c.args.num) c.args.den c.requires.positive);
  reduced = rw (size_is c, den_is c) (gcd-quotients (nat_abs c.args.num) c.args.den c.requires.positive);
  num_below = rw (size_is c) (lt_of_le_of_lt (div-le_self _ _) c.requires.num);
  den_below = rw (den_is c) (lt_of_le_of_lt (div-le_self _ _) c.requires.den);
}

pub returns-clause-exact : goal.returns-clause-exact
returns-clause-exact c =
    let a = (goal.at.returns-clause-exact c).After-divided in
    let f = ratio_fields c.args.num c.args.den c.requires.positive in
    same_fields _ _ (numerator a ∙ sym f.0) (den_is a ∙ sym f.1)

pub quotient-requires-clause-positive : goal.quotient-requires-clause-positive
quotient-requires-clause-positive c = rw c.requires.divisor (gcd_pos _ _ c.requires.positive)

pub quotient-requires-clause-below : goal.quotient-requires-clause-below
quotient-requires-clause-below c = rw c.requires.divisor (lt_of_le_of_lt (gcd_le _ _ c.requires.positive) c.requires.den)

pub divided-requires : goal.divided-requires
divided-requires c = rw c.requires.divisor (gcd_pos _ _ c.requires.positive)
