use Rattle.std.proofs.Common.{map, rules, ◌≡◌, ◌<◌, ◌^◌, pos, nat_abs, to_z-of_z, arith, ap, sym, ◌∙◌}
use Rattle.std.proofs.lemmas.Int.{ints, to_z_pos}
use Rattle.npp_frac.specs.Rational.{ratio, whole, ◌/ℚ◌}
use Rattle.npp_frac.specs.Fits.{limit_of}
use Rattle.npp_simplex.specs.CommonForm.{number_in}
use Rattle.npp_simplex.proofs.CommonForms.{ratio_quotient}
use Rattle.npp_simplex.proofs.LineForms.{whole_at, long_fits, denominator_in_long}
use Rattle.npp_simplex.proofs.long.Long.number.Goals as goal

pub overflow_cast-self-inside : goal.overflow_cast-self-inside
overflow_cast-self-inside g c = let below : c.self.inside.denominator < 2 ^ 127 = denominator_in_long g.N.Exact.WIDTH c.self.inside.denominator c.self.inside.bound c.self.inside.words.items g.met.N.Exact.width ((c.self.invariant c.if-self.true).form c.if-self.true) in search rules

pub long_quotient-requires-clause-number : goal.long_quotient-requires-clause-number
long_quotient-requires-clause-number g c =
    let fits : nat_abs (number_in c.as_slice-words.result.now c.args.j) < limit_of g.N.Exact.WIDTH = rw c.as_slice-words.ensures.value (long_fits g.N.Exact.WIDTH c.self.inside.denominator c.self.inside.bound c.self.inside.words.items g.met.N.Exact.width ((c.self.invariant c.if-self.true).form c.if-self.true) c.args.j) in
    search (rules, to_z-of_z)

pub long_quotient-requires-clause-divisor : goal.long_quotient-requires-clause-divisor
long_quotient-requires-clause-divisor g c =
    let below : c.self.inside.denominator < 2 ^ 127 = denominator_in_long g.N.Exact.WIDTH c.self.inside.denominator c.self.inside.bound c.self.inside.words.items g.met.N.Exact.width ((c.self.invariant c.if-self.true).form c.if-self.true) in
    let fits : c.self.inside.denominator < limit_of g.N.Exact.WIDTH = ((c.self.invariant c.if-self.true).form c.if-self.true).denominator in
    omega (arith, ints)

pub returns-then-self : goal.returns-then-self
returns-then-self g c =
    let v = g.N.Exact.rational in
    let form = (c.self.invariant c.if-self.true).form c.if-self.true in
    let below : c.self.inside.denominator < 2 ^ 127 = denominator_in_long g.N.Exact.WIDTH c.self.inside.denominator c.self.inside.bound c.self.inside.words.items g.met.N.Exact.width ((c.self.invariant c.if-self.true).form c.if-self.true) in
    let exact : v c.long_quotient.result ≡ whole (number_in c.as_slice-words.result.now c.args.j) /ℚ whole (pos c.self.inside.denominator) = search (rules, to_z-of_z, to_z_pos) in
    exact ∙ ratio_quotient (number_in c.as_slice-words.result.now c.args.j) c.self.inside.denominator form.above
    ∙ ap (λ xs. ratio (number_in xs c.args.j) c.self.inside.denominator) c.as_slice-words.ensures.value ∙ sym (whole_at c.self.inside.is_whole c.self.inside.denominator c.self.inside.words.items (map g.N.Exact.rational c.self.inside.fractions.items) c.args.self.now c.self.view_is c.if-self.true form.above c.args.j)
