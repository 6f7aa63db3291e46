use Rattle.std.proofs.Common.{map, arith, ap, sym, ◌∙◌}
use Rattle.std.proofs.lemmas.Int.{ints}
use Rattle.npp_frac.specs.Rational.{is_less, ratio, zero_ℚ}
use Rattle.npp_simplex.specs.CommonForm.{number_in}
use Rattle.npp_simplex.proofs.LineForms.{whole_at, is_less_ratio}
use Rattle.npp_simplex.proofs.long.Long.is_positive.Goals as goal

pub returns-then-self : goal.returns-then-self
returns-then-self g c =
    let form = (c.self.invariant c.if-self.true).form c.if-self.true in
    is_less_ratio (number_in c.as_slice-words.result.now c.args.j) c.self.inside.denominator form.above _ (λ e. grind (arith, ints)) (λ e. grind (arith, ints))
    ∙ ap (is_less zero_ℚ) (ap (λ xs. ratio (number_in xs c.args.j) c.self.inside.denominator) c.as_slice-words.ensures.value ∙ sym (whole_at c.self.inside.is_whole c.self.inside.denominator c.self.inside.words.items (map g.N.Exact.rational c.self.inside.fractions.items) c.args.self.now c.self.view_is c.if-self.true form.above c.args.j))
