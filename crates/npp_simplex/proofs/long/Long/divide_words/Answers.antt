use Rattle.std.proofs.Common.{map, ◌≡◌, ℕ, refl, nat_abs, pos, ◌≤ℤ◌, FitsSigned, to_z, of_z, to_z-of_z, subst, ap, sym, ◌∙◌, length, arith}
use Rattle.std.specs.Int.{w128}
use Rattle.std.proofs.lemmas.Int.{ints, fits_signed_from_abs}
use Rattle.npp_frac.specs.Fits.{limit_of}
use Rattle.npp_lp.specs.Programs.{at}
use Rattle.npp_simplex.specs.CommonForm.{number_in, line_of, turned, IsLine}
use Rattle.npp_simplex.proofs.WordForms.{turned_above}
use Rattle.npp_simplex.proofs.LineForms.{number_in_long, same_limit}
use Rattle.npp_simplex.proofs.LinePivots.{divide_fits, divide_is, divide_inv}
use Rattle.npp_simplex.proofs.long.Long.divide_words.Goals as goal

pub returns-clause-fits : goal.returns-clause-fits
returns-clause-fits g c = λ j.
    let a = c.self.inside in
    let e = c.if-not-self.false in
    let v = g.N.Exact.rational in
    let inv = c.self.invariant e in
    let form = inv.form e in
    let y = number_in a.words.items c.args.column in
    let fits : FitsSigned w128 (number_in c.as_slice.result.now c.args.column) = fits_signed_from_abs w128 _ (rw c.as_slice.ensures.value (number_in_long g.N.Exact.WIDTH c.self.inside.denominator c.self.inside.bound c.self.inside.words.items g.met.N.Exact.width ((c.self.invariant c.if-not-self.false).form c.if-not-self.false) c.args.column)) in
    let read : to_z w128 (of_z w128 (number_in c.as_slice.result.now c.args.column)) ≡ number_in c.self.inside.words.items c.args.column = to_z-of_z fits ∙ ap (λ xs. number_in xs c.args.column) c.as_slice.ensures.value in
    let word : pos 0 ≤ℤ to_z w128 (of_z w128 (number_in c.as_slice.result.now c.args.column)) = grind (arith, ints, c.if-divisor-lt0.false) in
    let above : pos 0 ≤ℤ number_in c.self.inside.words.items c.args.column = rw (← read) word in
    let new : (j : ℕ) → number_in c.self.inside.words.items j ≡ turned (number_in c.self.inside.words.items j) (number_in c.self.inside.words.items c.args.column) = λ j. turned_above _ _ above in
    divide_fits g.N.Exact.WIDTH (limit_of g.N.Exact.WIDTH) (same_limit g.N.Exact.WIDTH) a.is_whole a.denominator a.bound a.words.items (map v a.fractions.items) c.args.self.now c.self.view_is inv e c.args.column y refl c.requires.divisor j

pub invariant_of-self : goal.invariant_of-self
invariant_of-self g c = λ z.
    let a = c.self.inside in
    let e = c.if-not-self.false in
    let v = g.N.Exact.rational in
    let inv = c.self.invariant e in
    let form = inv.form e in
    let y = number_in a.words.items c.args.column in
    let fits : FitsSigned w128 (number_in c.as_slice.result.now c.args.column) = fits_signed_from_abs w128 _ (rw c.as_slice.ensures.value (number_in_long g.N.Exact.WIDTH c.self.inside.denominator c.self.inside.bound c.self.inside.words.items g.met.N.Exact.width ((c.self.invariant c.if-not-self.false).form c.if-not-self.false) c.args.column)) in
    let read : to_z w128 (of_z w128 (number_in c.as_slice.result.now c.args.column)) ≡ number_in c.self.inside.words.items c.args.column = to_z-of_z fits ∙ ap (λ xs. number_in xs c.args.column) c.as_slice.ensures.value in
    let word : pos 0 ≤ℤ to_z w128 (of_z w128 (number_in c.as_slice.result.now c.args.column)) = grind (arith, ints, c.if-divisor-lt0.false) in
    let above : pos 0 ≤ℤ number_in c.self.inside.words.items c.args.column = rw (← read) word in
    let new : (j : ℕ) → number_in c.self.inside.words.items j ≡ turned (number_in c.self.inside.words.items j) (number_in c.self.inside.words.items c.args.column) = λ j. turned_above _ _ above in
    let size : c.unsigned_abs-self-inside.result ≡ nat_abs (number_in c.self.inside.words.items c.args.column) = c.unsigned_abs-self-inside.ensures.value ∙ ap nat_abs read in
    subst (λ n. IsLine (limit_of g.N.Exact.WIDTH) a.is_whole n a.bound a.words.items (length (map v a.fractions.items))) (sym size) (divide_inv g.N.Exact.WIDTH (limit_of g.N.Exact.WIDTH) (same_limit g.N.Exact.WIDTH) a.is_whole a.denominator a.bound a.words.items (map v a.fractions.items) c.args.self.now c.self.view_is inv e c.args.column y refl c.requires.divisor a.words.items new refl)

pub returns-clause-divided : goal.returns-clause-divided
returns-clause-divided g c = λ j.
    let a = c.self.inside in
    let e = c.if-not-self.false in
    let v = g.N.Exact.rational in
    let inv = c.self.invariant e in
    let form = inv.form e in
    let y = number_in a.words.items c.args.column in
    let fits : FitsSigned w128 (number_in c.as_slice.result.now c.args.column) = fits_signed_from_abs w128 _ (rw c.as_slice.ensures.value (number_in_long g.N.Exact.WIDTH c.self.inside.denominator c.self.inside.bound c.self.inside.words.items g.met.N.Exact.width ((c.self.invariant c.if-not-self.false).form c.if-not-self.false) c.args.column)) in
    let read : to_z w128 (of_z w128 (number_in c.as_slice.result.now c.args.column)) ≡ number_in c.self.inside.words.items c.args.column = to_z-of_z fits ∙ ap (λ xs. number_in xs c.args.column) c.as_slice.ensures.value in
    let word : pos 0 ≤ℤ to_z w128 (of_z w128 (number_in c.as_slice.result.now c.args.column)) = grind (arith, ints, c.if-divisor-lt0.false) in
    let above : pos 0 ≤ℤ number_in c.self.inside.words.items c.args.column = rw (← read) word in
    let new : (j : ℕ) → number_in c.self.inside.words.items j ≡ turned (number_in c.self.inside.words.items j) (number_in c.self.inside.words.items c.args.column) = λ j. turned_above _ _ above in
    let size : c.unsigned_abs-self-inside.result ≡ nat_abs (number_in c.self.inside.words.items c.args.column) = c.unsigned_abs-self-inside.ensures.value ∙ ap nat_abs read in
    ap (λ n. at (line_of a.is_whole n a.words.items (map v a.fractions.items)) j) size ∙ divide_is g.N.Exact.WIDTH (limit_of g.N.Exact.WIDTH) (same_limit g.N.Exact.WIDTH) a.is_whole a.denominator a.bound a.words.items (map v a.fractions.items) c.args.self.now c.self.view_is inv e c.args.column y refl c.requires.divisor a.words.items new j
