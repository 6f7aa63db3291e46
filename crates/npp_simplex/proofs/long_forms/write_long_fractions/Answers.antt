use Rattle.std.proofs.Common.{rules, ◌≡◌, ◌<◌, ◌^◌, pos, nat_abs, to_z-of_z, arith, sym, ◌∙◌}
use Rattle.std.proofs.lemmas.Int.{ints, to_z_pos}
use Rattle.npp_frac.specs.Rational.{whole, ◌/ℚ◌}
use Rattle.npp_frac.specs.Fits.{limit_of}
use Rattle.npp_lp.specs.Programs.{at}
use Rattle.npp_simplex.specs.CommonForm.{number_in, over}
use Rattle.npp_simplex.proofs.CommonForms.{over_at, ratio_quotient}
use Rattle.npp_simplex.proofs.LineForms.{long_fits, denominator_in_long}
use Rattle.npp_simplex.proofs.Rows.{filled_more}
use Rattle.npp_simplex.proofs.WordForms.{fractions_written}
use Rattle.npp_simplex.proofs.long_forms.write_long_fractions.Goals as goal

pub overflow_cast-below : goal.overflow_cast-below
overflow_cast-below g c =
    let below : c.args.sizes.denominator < 2 ^ 127 = denominator_in_long g.N.Exact.WIDTH c.args.sizes.denominator c.args.sizes.bound c.args.words.now g.met.N.Exact.width c.requires.form in
    search rules

pub loop-j-init : goal.loop-j-init
loop-j-init g c = λ k l. absurd (omega arith)

pub long_quotient-requires-clause-number : goal.long_quotient-requires-clause-number
long_quotient-requires-clause-number g c =
    let fits : nat_abs (number_in c.args.words.now c.loop-j.j) < limit_of g.N.Exact.WIDTH = long_fits g.N.Exact.WIDTH c.args.sizes.denominator c.args.sizes.bound c.args.words.now g.met.N.Exact.width c.requires.form c.loop-j.j in
    search (rules, to_z-of_z)

pub long_quotient-requires-clause-divisor : goal.long_quotient-requires-clause-divisor
long_quotient-requires-clause-divisor g c =
    let below : c.args.sizes.denominator < 2 ^ 127 = denominator_in_long g.N.Exact.WIDTH c.args.sizes.denominator c.args.sizes.bound c.args.words.now g.met.N.Exact.width c.requires.form in
    let fits : c.args.sizes.denominator < limit_of g.N.Exact.WIDTH = c.requires.form.denominator in
    omega (arith, ints)

pub loop-j-preserved : goal.loop-j-preserved
loop-j-preserved g c =
    let v = g.N.Exact.rational in
    let d = c.args.sizes.denominator in
    let ws = c.args.words.now in
    let j = c.loop-j.j in
    let form = c.requires.form in
    let below : c.args.sizes.denominator < 2 ^ 127 = denominator_in_long g.N.Exact.WIDTH d c.args.sizes.bound ws g.met.N.Exact.width form in
    let exact : v c.long_quotient.result ≡ whole (number_in c.args.words.now c.loop-j.j) /ℚ whole (pos c.args.sizes.denominator) = search (rules, to_z-of_z, to_z_pos) in
    filled_more v c.loop-j.fractions (at (over d ws)) j c.long_quotient.result c.loop-j.invariant (omega arith) (exact ∙ ratio_quotient (number_in ws j) d form.above ∙ sym (over_at d ws j form.above))

pub returns : goal.returns
returns g c = fractions_written g.N.Exact.rational c.args.sizes.denominator c.args.words.now c.loop-j.fractions (c.loop-j.auto.fractions ∙ c.requires.room) (λ k l. c.loop-j.invariant k (omega arith))
