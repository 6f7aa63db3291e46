use Rattle.std.proofs.Common.{sym, ◌∙◌, ap}
use Rattle.npp_frac.specs.Fits.{limit_of, fits_div}
use Rattle.npp_frac.specs.Rational.{◌/ℚ◌}
use Rattle.npp_frac.specs.ZeroLaws.{fits_div-zero, zero-/ℚ}
use Rattle.npp_simplex.proofs.numbers.quotient.Goals as goal

pub returns-then-is_zero : goal.returns-then-is_zero
returns-then-is_zero g c =
    let v = g.N.Exact.rational in
    let none = c.is_zero.ensures.0 c.if-is_zero.true in
    record {
      fits = fits_div-zero g.N.Exact.WIDTH (v c.args.divisor) g.met.N.Exact.width ∙ ap (λ t. fits_div (limit_of g.N.Exact.WIDTH) t (v c.args.divisor)) (sym none);
      exact = none ∙ sym (zero-/ℚ (v c.args.divisor)) ∙ ap (λ t. t /ℚ v c.args.divisor) (sym none);
    }
