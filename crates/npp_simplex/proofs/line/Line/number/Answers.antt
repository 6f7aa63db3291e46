use Rattle.std.proofs.Common.{rules, ◌≡◌, ◌<◌, ◌^◌, pos, nat_abs, to_z-of_z, arith, ap, sym, ◌∙◌}
use Rattle.std.proofs.lemmas.Int.{ints, to_z_pos}
use Rattle.npp_frac.specs.Rational.{ratio, whole, ◌/ℚ◌}
use Rattle.npp_frac.specs.Fits.{limit_of}
use Rattle.npp_simplex.specs.CommonForm.{number_in}
use Rattle.npp_simplex.proofs.CommonForms.{ratio_quotient}
use Rattle.npp_simplex.proofs.LineForms.{whole_at, number_fits, denominator_fits, denominator_in_word}
use Rattle.npp_simplex.proofs.line.Line.number.Goals as goal

pub overflow_cast-self-inside : goal.overflow_cast-self-inside
overflow_cast-self-inside g c = let below : c.self.inside.denominator < 2 ^ 63 = denominator_in_word g.N.Exact.WIDTH c.self.inside.denominator c.self.inside.bound c.self.inside.words.items (c.self.invariant.form c.if-self.true) in search rules

pub whole_quotient-requires-clause-number : goal.whole_quotient-requires-clause-number
whole_quotient-requires-clause-number g c =
    let fits : nat_abs (number_in c.as_slice-words.result.now c.args.j) < limit_of g.N.Exact.WIDTH = rw c.as_slice-words.ensures.value (number_fits g.N.Exact.WIDTH c.self.inside.denominator c.self.inside.bound c.self.inside.words.items (c.self.invariant.form c.if-self.true) c.args.j) in
    search (rules, to_z-of_z)

pub whole_quotient-requires-clause-divisor : goal.whole_quotient-requires-clause-divisor
whole_quotient-requires-clause-divisor g c =
    let below : c.self.inside.denominator < 2 ^ 63 = denominator_in_word g.N.Exact.WIDTH c.self.inside.denominator c.self.inside.bound c.self.inside.words.items (c.self.invariant.form c.if-self.true) in
    let fits : c.self.inside.denominator < limit_of g.N.Exact.WIDTH = denominator_fits g.N.Exact.WIDTH c.self.inside.denominator c.self.inside.bound c.self.inside.words.items (c.self.invariant.form c.if-self.true) in
    omega (arith, ints)

pub returns-then-self : goal.returns-then-self
returns-then-self g c =
    let v = g.N.Exact.rational in
    let form = c.self.invariant.form c.if-self.true in
    let below : c.self.inside.denominator < 2 ^ 63 = denominator_in_word g.N.Exact.WIDTH c.self.inside.denominator c.self.inside.bound c.self.inside.words.items (c.self.invariant.form c.if-self.true) in
    let exact : v c.whole_quotient.result ≡ whole (number_in c.as_slice-words.result.now c.args.j) /ℚ whole (pos c.self.inside.denominator) = search (rules, to_z-of_z, to_z_pos) in
    exact ∙ ratio_quotient (number_in c.as_slice-words.result.now c.args.j) c.self.inside.denominator form.above
    ∙ ap (λ xs. ratio (number_in xs c.args.j) c.self.inside.denominator) c.as_slice-words.ensures.value ∙ sym (whole_at c.self.inside.is_whole c.self.inside.denominator c.self.inside.words.items c.self.inside.long c.args.self.now c.self.view_is c.if-self.true form.above c.args.j)
