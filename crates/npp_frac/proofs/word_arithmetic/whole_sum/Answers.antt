use Rattle.std.proofs.Common.{rules, ap, sym, ◌∙◌, ◌≡◌, ◌<◌, refl, nat_abs, FitsSigned, to_z-of_z, ◌+ℤ◌}
use Rattle.std.specs.Int.{w64}
use Rattle.npp_frac.specs.Rational.{whole}
use Rattle.npp_frac.specs.Value.{value_of_words}
use Rattle.npp_frac.proofs.WholeNumbers.{whole-sum}
use Rattle.npp_frac.proofs.EqualDenominators.{equal-sum_fits, fits-equal_sum}
use Rattle.npp_frac.proofs.word_arithmetic.whole_sum.Goals as goal

pub returns-in_err-num-clause-fits : goal.returns-in_err-num-clause-fits
returns-in_err-num-clause-fits c =
    let fits = fits-equal_sum (value_of_words c.args.a) (value_of_words c.args.b) (c.requires.whole.0 ∙ sym c.requires.whole.1) c.args.limit in
    search (rules, fits)

pub returns-clause-fits : goal.returns-clause-fits
returns-clause-fits c =
    let small : nat_abs (c.args.a.num +ℤ c.args.b.num) < c.args.limit = search rules in
    (λ _. equal-sum_fits (value_of_words c.args.a) (value_of_words c.args.b) (c.requires.whole.0 ∙ sym c.requires.whole.1) c.args.limit c.requires.left c.requires.right small, λ _. refl)

pub returns-clause-exact : goal.returns-clause-exact
returns-clause-exact c =
    let fits : FitsSigned w64 c.in_ok-num.num = search rules in
    let num : c.in_ok-num.num ≡ c.args.a.num +ℤ c.args.b.num = search (rules, to_z-of_z) in
    c.of_whole.ensures.exact ∙ ap whole (to_z-of_z fits ∙ num) ∙ whole-sum (value_of_words c.args.a) (value_of_words c.args.b) c.requires.whole.0 c.requires.whole.1
