use Rattle.std.proofs.Common.{◌≡◌, pos, arith, ap, sym, ◌∙◌}
use Rattle.std.proofs.lemmas.Int.{ints}
use Rattle.npp_frac.specs.Rational.{ratio, zero_ℚ}
use Rattle.npp_lp.specs.Programs.{at}
use Rattle.npp_simplex.specs.CommonForm.{number_in}
use Rattle.npp_simplex.proofs.CommonForms.{ratio_of_zero, zero_of_ratio}
use Rattle.npp_simplex.proofs.LineForms.{whole_at}
use Rattle.npp_simplex.proofs.line.Line.is_zero.Goals as goal

pub returns-then-self : goal.returns-then-self
returns-then-self g c =
    let form = c.self.invariant.form c.if-self.true in
    let d = c.self.inside.denominator in
    let is : at c.args.self.now c.args.j ≡ ratio (number_in c.as_slice-words.result.now c.args.j) c.self.inside.denominator =
    whole_at c.self.inside.is_whole c.self.inside.denominator c.self.inside.words.items c.self.inside.long c.args.self.now c.self.view_is c.if-self.true form.above c.args.j ∙ sym (ap (λ xs. ratio (number_in xs c.args.j) c.self.inside.denominator) c.as_slice-words.ensures.value) in
    let here : number_in c.as_slice-words.result.now c.args.j ≡ pos 0 → at c.args.self.now c.args.j ≡ zero_ℚ = λ e. is ∙ ratio_of_zero _ d form.above e in
    let back : at c.args.self.now c.args.j ≡ zero_ℚ → number_in c.as_slice-words.result.now c.args.j ≡ pos 0 = λ e. zero_of_ratio _ d form.above (sym is ∙ e) in
    (λ e. here (grind (arith, ints)), λ e. let none = back e in grind (arith, ints))
