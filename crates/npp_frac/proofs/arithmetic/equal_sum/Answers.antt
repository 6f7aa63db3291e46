use Rattle.std.proofs.Common.{rules, ap, ◌∙◌, ◌≡◌, ◌<◌, refl, nat_abs, FitsSigned, to_z-of_z, ◌+ℤ◌}
use Rattle.std.specs.Int.{w128}
use Rattle.npp_frac.specs.Rational.{ratio}
use Rattle.npp_frac.specs.Value.{value_of}
use Rattle.npp_frac.proofs.EqualDenominators.{equal-sum_fits, fits-equal_sum, ratio-equal_sum}
use Rattle.npp_frac.proofs.arithmetic.equal_sum.Goals as goal

pub returns-in_err-total-clause-fits : goal.returns-in_err-total-clause-fits
returns-in_err-total-clause-fits c =
    let fits = fits-equal_sum (value_of c.args.a) (value_of c.args.b) c.requires.same c.args.limit in
    search (rules, fits)

pub returns-clause-fits : goal.returns-clause-fits
returns-clause-fits c =
    let small : nat_abs (c.args.a.num +ℤ c.args.b.num) < c.args.limit = search rules in
    (λ _. equal-sum_fits (value_of c.args.a) (value_of c.args.b) c.requires.same c.args.limit c.requires.left c.requires.right small, λ _. refl)

pub returns-clause-exact : goal.returns-clause-exact
returns-clause-exact c =
    let fits : FitsSigned w128 c.in_ok-total.total = search rules in
    let num : c.in_ok-total.total ≡ c.args.a.num +ℤ c.args.b.num = search (rules, to_z-of_z) in
    c.reduced.ensures.exact ∙ ap (λ n. ratio n c.args.b.den) (to_z-of_z fits ∙ num) ∙ ratio-equal_sum (value_of c.args.a) (value_of c.args.b) c.requires.same
