use Rattle.std.proofs.Common.{◌≡◌, true, false, sym, ◌∙◌, ap}
use Rattle.npp_frac.specs.Rational.{zero_ℚ, ◌-ℚ◌}
use Rattle.npp_frac.specs.Ring.{negative_is}
use Rattle.npp_frac.specs.Fits.{limit_of, fits_sub}
use Rattle.npp_frac.specs.ZeroLaws.{fits_sub-zero_left}
use Rattle.npp_simplex.proofs.numbers.negated.Goals as goal

pub unreachable-requires : goal.unreachable-requires
unreachable-requires g c =
    let m = limit_of g.N.Exact.WIDTH in
    let v = g.N.Exact.rational in
    let yes : true ≡ fits_sub m zero_ℚ (v c.args.number) = fits_sub-zero_left m (v c.args.number) (g.met.N.Exact.fits c.args.number) in
    let no : false ≡ fits_sub m zero_ℚ (v c.args.number) = c.in-Err.ensures.fits ∙ ap (λ t. fits_sub m t (v c.args.number)) c.zero.ensures in
    let clash : true ≡ false = yes ∙ sym no in
    cc

pub returns : goal.returns
returns g c = c.in-Ok.ensures.exact ∙ ap (λ t. t -ℚ g.N.Exact.rational c.args.number) c.zero.ensures ∙ sym (negative_is (g.N.Exact.rational c.args.number))
