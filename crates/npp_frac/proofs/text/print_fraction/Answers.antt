use Rattle.std.proofs.Common.{rules, arith, ap, ◌∙◌, ◌≡◌, ◌≢◌, pos, FitsSigned, of_z, to_z-of_z}
use Rattle.std.specs.Int.{w128}
use Rattle.std.proofs.lemmas.Int.{ints}
use Rattle.npp_frac.specs.FitsLaws.{fits_wide}
use Rattle.npp_frac.proofs.Pairs.{whole_written, ratio_written}
use Rattle.npp_frac.proofs.text.print_fraction.Goals as goal

pub returns-in_ok-format : goal.returns-in_ok-format
returns-in_ok-format g c =
    let num_fits : FitsSigned w128 c.num-num.result = search rules in
    let den : (g.N.Exact.rational c.args.value).den ≡ 1 = omega (arith, ints, c.den-den.ensures, c.if-den-eq-WHOLE.true) in
    record {
      fits = fits_wide (g.N.Exact.rational c.args.value) g.N.Exact.WIDTH g.met.N.Exact.width (g.met.N.Exact.fits c.args.value);
      text = whole_written _ (g.N.Exact.rational c.args.value) _ c.in_ok-format.ensures.ok (to_z-of_z num_fits ∙ c.num-num.ensures) den;
    }

pub returns-in_ok-format-2 : goal.returns-in_ok-format-2
returns-in_ok-format-2 g c =
    let num_fits : FitsSigned w128 c.num-num.result = search rules in
    let den_fits : FitsSigned w128 c.den-den.result = search rules in
    let more : (g.N.Exact.rational c.args.value).den ≢ 1 = λ e. c.if-den-eq-WHOLE.false (ap (of_z w128) (c.den-den.ensures ∙ ap pos e)) in
    record {
      fits = fits_wide (g.N.Exact.rational c.args.value) g.N.Exact.WIDTH g.met.N.Exact.width (g.met.N.Exact.fits c.args.value);
      text = ratio_written _ (g.N.Exact.rational c.args.value) _ _ c.in_ok-format-2.ensures.ok (to_z-of_z num_fits ∙ c.num-num.ensures) (to_z-of_z den_fits ∙ c.den-den.ensures) more;
    }
