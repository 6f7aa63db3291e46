use Rattle.std.proofs.Common.{rules, ◌≡◌, ◌≢◌, ◌<◌, pos, nat_abs, to_z-of_z, ap, ap₂, sym, ◌∙◌}
use Rattle.npp_frac.specs.Rational.{ratio, whole, ◌/ℚ◌}
use Rattle.npp_frac.specs.Fits.{limit_of, fits_div}
use Rattle.npp_lp.specs.Programs.{at}
use Rattle.npp_simplex.specs.CommonForm.{number_in}
use Rattle.npp_simplex.proofs.CommonForms.{ratio_of_zero, common_quotient, common_quotient_fits}
use Rattle.npp_simplex.proofs.LineForms.{whole_at, number_fits}
use Rattle.npp_simplex.proofs.line.Line.quotient.Goals as goal

pub whole_quotient-requires-clause-number : goal.whole_quotient-requires-clause-number
whole_quotient-requires-clause-number g c =
    let fits : nat_abs (number_in c.as_slice-words.result.now c.args.j) < limit_of g.N.Exact.WIDTH = rw c.as_slice-words.ensures.value (number_fits g.N.Exact.WIDTH c.self.inside.denominator c.self.inside.bound c.self.inside.words.items (c.self.invariant.form c.if-self.true) c.args.j) in
    search (rules, to_z-of_z)

pub whole_quotient-requires-clause-divisor : goal.whole_quotient-requires-clause-divisor
whole_quotient-requires-clause-divisor g c =
    let fits : nat_abs (number_in c.as_slice-words.result.now c.args.by) < limit_of g.N.Exact.WIDTH = rw c.as_slice-words.ensures.value (number_fits g.N.Exact.WIDTH c.self.inside.denominator c.self.inside.bound c.self.inside.words.items (c.self.invariant.form c.if-self.true) c.args.by) in
    search (rules, to_z-of_z)

pub whole_quotient-requires-clause-nonzero : goal.whole_quotient-requires-clause-nonzero
whole_quotient-requires-clause-nonzero g c =
    let form = c.self.invariant.form c.if-self.true in
    let is : at c.args.self.now c.args.by ≡ ratio (number_in c.as_slice-words.result.now c.args.by) c.self.inside.denominator =
    whole_at c.self.inside.is_whole c.self.inside.denominator c.self.inside.words.items c.self.inside.long c.args.self.now c.self.view_is c.if-self.true form.above c.args.by ∙ sym (ap (λ xs. ratio (number_in xs c.args.by) c.self.inside.denominator) c.as_slice-words.ensures.value) in
    let apart : number_in c.as_slice-words.result.now c.args.by ≢ pos 0 = λ e. c.requires.divisor (is ∙ ratio_of_zero _ c.self.inside.denominator form.above e) in
    search (rules, to_z-of_z)

pub returns-then-self-clause-fits : goal.returns-then-self-clause-fits
returns-then-self-clause-fits g c =
    let m = limit_of g.N.Exact.WIDTH in
    let form = c.self.invariant.form c.if-self.true in
    let ws = c.self.inside.words.items in
    let d = c.self.inside.denominator in
    let apart : number_in c.self.inside.words.items c.args.by ≢ pos 0 = λ e. c.requires.divisor (whole_at c.self.inside.is_whole c.self.inside.denominator c.self.inside.words.items c.self.inside.long c.args.self.now c.self.view_is c.if-self.true form.above c.args.by ∙ ratio_of_zero _ c.self.inside.denominator form.above e) in
    common_quotient_fits m (number_in ws c.args.j) (number_in ws c.args.by) d form.above apart (number_fits g.N.Exact.WIDTH c.self.inside.denominator c.self.inside.bound c.self.inside.words.items (c.self.invariant.form c.if-self.true) c.args.j) (number_fits g.N.Exact.WIDTH c.self.inside.denominator c.self.inside.bound c.self.inside.words.items (c.self.invariant.form c.if-self.true) c.args.by)
    ∙ ap₂ (fits_div m) (sym (whole_at c.self.inside.is_whole c.self.inside.denominator c.self.inside.words.items c.self.inside.long c.args.self.now c.self.view_is c.if-self.true form.above c.args.j)) (sym (whole_at c.self.inside.is_whole c.self.inside.denominator c.self.inside.words.items c.self.inside.long c.args.self.now c.self.view_is c.if-self.true form.above c.args.by))

pub returns-then-self-clause-exact : goal.returns-then-self-clause-exact
returns-then-self-clause-exact g c =
    let v = g.N.Exact.rational in
    let form = c.self.invariant.form c.if-self.true in
    let ws = c.self.inside.words.items in
    let d = c.self.inside.denominator in
    let apart : number_in c.self.inside.words.items c.args.by ≢ pos 0 = λ e. c.requires.divisor (whole_at c.self.inside.is_whole c.self.inside.denominator c.self.inside.words.items c.self.inside.long c.args.self.now c.self.view_is c.if-self.true form.above c.args.by ∙ ratio_of_zero _ c.self.inside.denominator form.above e) in
    let exact : v c.whole_quotient.result ≡ whole (number_in c.as_slice-words.result.now c.args.j) /ℚ whole (number_in c.as_slice-words.result.now c.args.by) = search (rules, to_z-of_z) in
    exact ∙ ap (λ xs. whole (number_in xs c.args.j) /ℚ whole (number_in xs c.args.by)) c.as_slice-words.ensures.value ∙ sym (common_quotient (number_in ws c.args.j) (number_in ws c.args.by) d form.above apart)
    ∙ ap₂ ◌/ℚ◌ (sym (whole_at c.self.inside.is_whole c.self.inside.denominator c.self.inside.words.items c.self.inside.long c.args.self.now c.self.view_is c.if-self.true form.above c.args.j)) (sym (whole_at c.self.inside.is_whole c.self.inside.denominator c.self.inside.words.items c.self.inside.long c.args.self.now c.self.view_is c.if-self.true form.above c.args.by))
