use Rattle.std.proofs.Common.{rules, ap, ◌∙◌, ◌≡◌, FitsSigned, to_z-of_z, ◌*ℤ◌}
use Rattle.std.specs.Int.{w64}
use Rattle.npp_frac.specs.Rational.{whole}
use Rattle.npp_frac.specs.Value.{value_of_words}
use Rattle.npp_frac.proofs.WholeNumbers.{whole-product}
use Rattle.npp_frac.proofs.word_arithmetic.whole_product.Goals as goal

pub returns-clause-exact : goal.returns-clause-exact
returns-clause-exact c =
    let fits : FitsSigned w64 c.in_ok-num.num = search rules in
    let num : c.in_ok-num.num ≡ c.args.a.num *ℤ c.args.b.num = search (rules, to_z-of_z) in
    c.of_whole.ensures.exact ∙ ap whole (to_z-of_z fits ∙ num) ∙ whole-product (value_of_words c.args.a) (value_of_words c.args.b) c.requires.whole.0 c.requires.whole.1
