use Rattle.std.proofs.Common.{◌≡◌, true, false, FitsSigned, to_z-of_z, ap, ap₂, sym, ◌∙◌}
use Rattle.std.specs.Int.{w128}
use Rattle.npp_frac.specs.Rational.{whole}
use Rattle.npp_frac.specs.Fits.{limit_of, fits_div}
use Rattle.npp_simplex.proofs.CommonForms.{whole_nonzero, whole_quotient_fits}
use Rattle.npp_simplex.proofs.long_forms.long_quotient.Goals as goal

pub div-requires : goal.div-requires
div-requires g c =
    let v = g.N.Exact.rational in
    let fits : FitsSigned w128 c.args.divisor = c.ranges.divisor in
    let is : v c.of_long.result ≡ whole c.args.divisor = c.of_long.ensures ∙ ap whole (to_z-of_z fits) in
    λ e. whole_nonzero c.args.divisor c.requires.nonzero (sym is ∙ e)

pub unreachable-requires : goal.unreachable-requires
unreachable-requires g c =
    let m = limit_of g.N.Exact.WIDTH in
    let v = g.N.Exact.rational in
    let upper : FitsSigned w128 c.args.number = c.ranges.number in
    let lower : FitsSigned w128 c.args.divisor = c.ranges.divisor in
    let top : v c.of_long-top.result ≡ whole c.args.number = c.of_long-top.ensures ∙ ap whole (to_z-of_z upper) in
    let bottom : v c.of_long.result ≡ whole c.args.divisor = c.of_long.ensures ∙ ap whole (to_z-of_z lower) in
    let yes : true ≡ fits_div m (v c.of_long-top.result) (v c.of_long.result) =
    whole_quotient_fits m c.args.number c.args.divisor c.requires.nonzero c.requires.number c.requires.divisor ∙ ap₂ (fits_div m) (sym top) (sym bottom) in
    let no : false ≡ fits_div m (v c.of_long-top.result) (v c.of_long.result) = c.in-Err.ensures.fits in
    let clash : true ≡ false = yes ∙ sym no in
    cc
