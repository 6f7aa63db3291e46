use Rattle.std.proofs.Common.{◌≡◌, ◌^◌, pos, ◌*ℤ◌, true, false, FitsSigned, w64, to_z-of_z, arith, ap, ap₂, sym, ◌∙◌}
use Rattle.npp_frac.specs.Rational.{whole, ◌+ℚ◌, ◌*ℚ◌}
use Rattle.npp_frac.specs.Ring.{whole-+ℤ, whole-*ℤ}
use Rattle.npp_frac.specs.Fits.{limit_of, fits_add, fits_mul}
use Rattle.npp_simplex.proofs.LongNumbers.{whole_product_fits, whole_sum_fits}
use Rattle.npp_simplex.proofs.long_forms.with_rest.Goals as goal

pub unreachable-requires : goal.unreachable-requires
unreachable-requires g c =
    let m = limit_of g.N.Exact.WIDTH in
    let v = g.N.Exact.rational in
    let yes : true ≡ fits_mul m (v c.args.value) (v c.of_whole.result) =
    whole_product_fits m c.args.high (pos (2 ^ 62)) (omega (arith, c.requires.limit)) c.requires.product ∙ ap₂ (fits_mul m) (sym c.requires.value) (sym c.of_whole.ensures) in
    let no : false ≡ fits_mul m (v c.args.value) (v c.of_whole.result) = c.in_default.ensures.fits in
    let clash : true ≡ false = yes ∙ sym no in
    cc

pub unreachable-requires-in-Err : goal.unreachable-requires-in-Err
unreachable-requires-in-Err g c =
    let m = limit_of g.N.Exact.WIDTH in
    let v = g.N.Exact.rational in
    let fits : FitsSigned w64 c.args.rest = c.ranges.rest in
    let product : v c.in-Ok.product ≡ whole (c.args.high *ℤ pos (2 ^ 62)) = c.in-Ok.ensures.exact ∙ ap₂ ◌*ℚ◌ c.requires.value c.of_whole.ensures ∙ sym (whole-*ℤ c.args.high (pos (2 ^ 62))) in
    let rest : v c.of_whole-2.result ≡ whole c.args.rest = c.of_whole-2.ensures ∙ ap whole (to_z-of_z fits) in
    let yes : true ≡ fits_add m (v c.in-Ok.product) (v c.of_whole-2.result) =
    whole_sum_fits m (c.args.high *ℤ pos (2 ^ 62)) c.args.rest (omega (arith, c.requires.limit)) c.requires.product c.requires.rest c.requires.sum ∙ ap₂ (fits_add m) (sym product) (sym rest) in
    let no : false ≡ fits_add m (v c.in-Ok.product) (v c.of_whole-2.result) = c.in-Err.ensures.fits in
    let clash : true ≡ false = yes ∙ sym no in
    cc

pub returns : goal.returns
returns g c =
    let v = g.N.Exact.rational in
    let fits : FitsSigned w64 c.args.rest = c.ranges.rest in
    let product : v c.in-Ok.product ≡ whole (c.args.high *ℤ pos (2 ^ 62)) = c.in-Ok.ensures.exact ∙ ap₂ ◌*ℚ◌ c.requires.value c.of_whole.ensures ∙ sym (whole-*ℤ c.args.high (pos (2 ^ 62))) in
    let rest : v c.of_whole-2.result ≡ whole c.args.rest = c.of_whole-2.ensures ∙ ap whole (to_z-of_z fits) in
    c.in-Ok-add.ensures.exact ∙ ap₂ ◌+ℚ◌ product rest ∙ sym (whole-+ℤ (c.args.high *ℤ pos (2 ^ 62)) c.args.rest)
