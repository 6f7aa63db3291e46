use Rattle.std.proofs.Common.{◌≡◌, ◌∙◌, ap, subst}
use Rattle.std.specs.Prelude.{IfSome}
use Rattle.npp_frac.specs.Fits.{fits_add, fits_sub}
use Rattle.npp_frac.specs.Rational.{Rational, ◌+ℚ◌, ◌-ℚ◌}
use Rattle.npp_frac.specs.Value.{value_of_words}
use Rattle.npp_frac.proofs.word_arithmetic.sub.Goals as goal

pub returns-clause-fits : goal.returns-clause-fits
unfolding fits_sub
returns-clause-fits c = c.add.ensures.fits ∙ ap (λ t. fits_add c.args.limit (value_of_words c.args.a) t) c.negated.ensures.exact

pub returns-clause-exact : goal.returns-clause-exact
unfolding ◌-ℚ◌
returns-clause-exact c =
    let P : Rational → Type 0 = λ t. IfSome c.add.result (λ r. value_of_words r ≡ value_of_words c.args.a +ℚ t) in
    subst P c.negated.ensures.exact c.add.ensures.exact
