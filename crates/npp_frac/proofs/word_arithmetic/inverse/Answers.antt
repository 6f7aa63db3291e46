use Rattle.std.proofs.Common.{rules, ap, ap₂, ◌∙◌, ◌≡◌, pos, nat_abs, FitsSigned, to_z, of_z, to_z-of_z}
use Rattle.std.specs.Prelude.{cond, int_lt, neg_ℤ}
use Rattle.std.specs.Int.{w64}
use Rattle.npp_frac.specs.Gcd.{gcd, gcd_comm}
use Rattle.npp_frac.specs.Division.{size_of_nonzero, num_of_nonzero}
use Rattle.npp_frac.specs.Rational.{ratio_value, reciprocal}
use Rattle.npp_frac.specs.Value.{value_of_words}
use Rattle.npp_frac.proofs.word_arithmetic.inverse.Goals as goal
use Rattle.npp_frac.proofs.word_arithmetic.inverse.Goals.{After-size}

plain : (c : After-size) → to_z w64 (of_z w64 c.with_sign.result) ≡ c.with_sign.result
plain c = let fits : FitsSigned w64 c.with_sign.result = search rules in to_z-of_z fits

den_is : (c : After-size) → c.size.result ≡ nat_abs c.args.a.num
den_is c = search (rules, to_z-of_z)

size_is : (c : After-size) → nat_abs (to_z w64 (of_z w64 c.with_sign.result)) ≡ c.args.a.den
size_is c = let is : nat_abs c.with_sign.result ≡ c.args.a.den = search (rules, to_z-of_z) in ap nat_abs (plain c) ∙ is

pub invariant_of-result : goal.invariant_of-result
invariant_of-result c = record {
  positive = rw (den_is c) (size_of_nonzero c.args.a.num (num_of_nonzero (value_of_words c.args.a) c.requires));
  reduced = ap₂ gcd (size_is c) (den_is c) ∙ gcd_comm c.args.a.den (nat_abs c.args.a.num) ∙ c.args.a.reduced;
  num_below = rw (size_is c) c.args.a.den_below;
  den_below = rw (den_is c) c.args.a.num_below;
}

pub returns : goal.returns
unfolding reciprocal
returns c =
    let a = (goal.at.returns c).After-size in
    let is : c.with_sign.result ≡ cond (int_lt c.args.a.num (pos 0)) (neg_ℤ (pos c.args.a.den)) (pos c.args.a.den) = search (rules, to_z-of_z) in
    ratio_value _ _ _ (plain a ∙ is) (den_is a)
