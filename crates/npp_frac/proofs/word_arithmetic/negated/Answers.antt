use Rattle.std.proofs.Common.{rules, refl, ◌∙◌, ◌≡◌, FitsSigned, to_z-of_z}
use Rattle.std.specs.Prelude.{neg_ℤ}
use Rattle.std.specs.Int.{w64}
use Rattle.npp_frac.specs.Rational.{same_fields, negative}
use Rattle.npp_frac.proofs.word_arithmetic.negated.Goals as goal

pub returns-clause-exact : goal.returns-clause-exact
unfolding negative
returns-clause-exact c =
    let fits : FitsSigned w64 c.negative.result = search rules in
    let is : c.negative.result ≡ neg_ℤ c.args.a.num = search (rules, to_z-of_z) in
    same_fields _ _ (to_z-of_z fits ∙ is) refl
