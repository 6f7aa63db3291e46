use Rattle.std.specs.Prelude.{int_div}
use Rattle.std.proofs.Common.{rules, ◌≡◌, ◌%◌, ◌<◌, ◌^◌, pos, nat_abs, w64, FitsSigned, to_z-of_z, ap, sym, ◌∙◌, lt_of_le_of_lt, div-le_self}
use Rattle.std.proofs.lemmas.Int.{to_z_pos, fits_signed_from_abs}
use Rattle.npp_frac.specs.Rational.{abs_quot}
use Rattle.npp_simplex.proofs.CommonForms.{cleared, factor_below}
use Rattle.npp_simplex.proofs.forms.multiples_for.Goals as goal

pub returns-clause-clears : goal.returns-clause-clears
returns-clause-clears c =
    let g = c.common_factor-factor.result in
    let h = c.common_factor-factor.ensures in
    let number : FitsSigned w64 c.args.number = c.ranges.number in
    let size : c.unsigned_abs-size.result ≡ nat_abs c.args.number = search (rules, to_z-of_z) in
    let none : nat_abs c.args.number % g ≡ 0 = ap (λ t. t % g) (sym size) ∙ h.of_second in
    let small : g < 2 ^ 63 = factor_below (2 ^ 63) g c.args.denominator h.above c.requires.positive h.of_first c.requires.below in
    let below : nat_abs (int_div c.args.number (pos g)) < 2 ^ 63 = rw (abs_quot c.args.number g) (lt_of_le_of_lt (div-le_self (nat_abs c.args.number) g) c.requires.number) in
    let fits : FitsSigned w64 (int_div c.args.number (pos g)) = fits_signed_from_abs w64 (int_div c.args.number (pos g)) below in
    rw (to_z-of_z number, to_z_pos w64 g small, to_z-of_z fits) (cleared c.args.number c.args.denominator g h.above none h.of_first)
