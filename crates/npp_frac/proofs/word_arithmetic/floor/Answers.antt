use Rattle.std.proofs.Common.{rules, refl, ◌∙◌, ◌≡◌, ◌≤◌, pos, nat_abs, FitsSigned, to_z, of_z, to_z-of_z, lt_of_le_of_lt, lit<}
use Rattle.std.specs.Int.{w64, int_div_euclid}
use Rattle.npp_frac.specs.Gcd.{gcd-one}
use Rattle.npp_frac.specs.Rational.{whole_value}
use Rattle.npp_frac.specs.Floor.{floor, floor_greatest}
use Rattle.npp_frac.specs.Value.{value_of_words}
use Rattle.npp_frac.proofs.word_arithmetic.floor.Goals as goal
use Rattle.npp_frac.proofs.word_arithmetic.floor.Goals.{After-quotient_down}

plain : (c : After-quotient_down) → to_z w64 (of_z w64 c.quotient_down.result) ≡ c.quotient_down.result
plain c = let fits : FitsSigned w64 c.quotient_down.result = search rules in to_z-of_z fits

pub invariant_of-result : goal.invariant_of-result
invariant_of-result c =
    let size : nat_abs c.quotient_down.result ≤ nat_abs c.args.a.num = search (rules, to_z-of_z) in
    record {
      positive = lit< tt;
      reduced = gcd-one _;
      num_below = rw (plain c) (lt_of_le_of_lt size c.args.a.num_below);
      den_below = lit< tt;
    }

pub returns-clause-exact : goal.returns-clause-exact
unfolding floor
returns-clause-exact c =
    let a = (goal.at.returns-clause-exact c).After-quotient_down in
    let is : c.quotient_down.result ≡ int_div_euclid c.args.a.num (pos c.args.a.den) = search (rules, to_z-of_z) in
    whole_value _ _ (plain a ∙ is) refl

pub returns-clause-greatest : goal.returns-clause-greatest
returns-clause-greatest c = floor_greatest (value_of_words c.args.a)
