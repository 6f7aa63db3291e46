use Rattle.std.proofs.Common.{map, ◌≡◌, ℕ, ◌*◌, ◌<◌, ◌≤◌, ◌^◌, length, pos, ◌-ℤ◌, ◌*ℤ◌, nat_abs, FitsSigned, to_z-of_z, subst, ap, ap₂, sym, ◌∙◌, refl, arith}
use Rattle.std.proofs.Math.Nat.{mul-le-mul}
use Rattle.std.proofs.lemmas.List.{with_items_is}
use Rattle.std.proofs.lemmas.Int.{fits_signed_from_abs}
use Rattle.std.specs.Int.{w128}
use Rattle.npp_frac.specs.Rational.{whole}
use Rattle.npp_frac.specs.Fits.{limit_of}
use Rattle.npp_frac.specs.FitsLaws.{limit_at_most}
use Rattle.npp_lp.specs.Programs.{at}
use Rattle.npp_simplex.specs.Steps.{nonzero_columns}
use Rattle.npp_simplex.specs.CommonForm.{number_in, line_of, IsLine}
use Rattle.npp_simplex.proofs.LineForms.{whole_at, line_length, whole_columns, number_in_long, denominator_in_word, same_limit}
use Rattle.npp_simplex.proofs.LinePivots.{reduce_fits, reduce_is, reduce_inv}
use Rattle.npp_simplex.proofs.long.Long.reduce_by_words.Goals as goal

pub long_multiples_for-multiples-requires-clause-positive : goal.long_multiples_for-multiples-requires-clause-positive
long_multiples_for-multiples-requires-clause-positive g c = let f = c.other.invariant.form c.if-not-other.false in f.above

pub long_multiples_for-multiples-requires-clause-below : goal.long_multiples_for-multiples-requires-clause-below
long_multiples_for-multiples-requires-clause-below g c = let h : c.other.inside.denominator < 2 ^ 63 = denominator_in_word g.N.Exact.WIDTH c.other.inside.denominator c.other.inside.bound c.other.inside.words.items (c.other.invariant.form c.if-not-other.false) in omega (arith, h)

pub long_multiples_for-multiples-requires-clause-number : goal.long_multiples_for-multiples-requires-clause-number
long_multiples_for-multiples-requires-clause-number g c =
    let below : nat_abs (number_in c.as_slice.result.now c.args.column) < 2 ^ 127 = rw c.as_slice.ensures.value (number_in_long g.N.Exact.WIDTH c.self.inside.denominator c.self.inside.bound c.self.inside.words.items g.met.N.Exact.width ((c.self.invariant c.if-not-self.false).form c.if-not-self.false) c.args.column) in
    let fits : FitsSigned w128 (number_in c.as_slice.result.now c.args.column) = fits_signed_from_abs w128 _ below in
    rw (to_z-of_z fits) below

pub replace_by_words-requires-clause-columns : goal.replace_by_words-requires-clause-columns
replace_by_words-requires-clause-columns g c =
    let v = g.N.Exact.rational in
    let other_form = c.other.invariant.form c.if-not-other.false in
    let other_at = whole_at c.other.inside.is_whole c.other.inside.denominator c.other.inside.words.items c.other.inside.long c.args.other.now c.other.view_is c.if-not-other.false other_form.above in
    let long : length c.args.self.now ≡ length c.as_mut_slice.result.now =
    line_length c.self.inside.is_whole c.self.inside.denominator c.self.inside.words.items (map g.N.Exact.rational c.self.inside.fractions.items) c.args.self.now c.self.view_is (λ e. (c.self.invariant e).room) ∙ sym (c.self.invariant c.if-not-self.false).room ∙ ap length (sym c.as_mut_slice.ensures.value) in
    c.requires.columns ∙ whole_columns c.args.other.now c.other.inside.words.items c.other.inside.denominator (length c.args.self.now) other_form.above other_at
    ∙ ap₂ (λ zs n. nonzero_columns (λ j. whole (number_in zs j)) n) (sym c.as_slice-others.ensures.value) long

pub replace_by_words-requires-clause-sizes : goal.replace_by_words-requires-clause-sizes
replace_by_words-requires-clause-sizes g c = λ j.
    let form = (c.self.invariant c.if-not-self.false).form c.if-not-self.false in
    let other_form = c.other.invariant.form c.if-not-other.false in
    let own : nat_abs (number_in c.self.inside.words.items j) * c.long_multiples_for-multiples.result.own ≤ c.self.inside.bound * c.long_multiples_for-multiples.result.own = mul-le-mul (form.sizes j) (omega arith) in
    let taken : nat_abs c.long_multiples_for-multiples.result.other * nat_abs (number_in c.other.inside.words.items j) ≤ nat_abs c.long_multiples_for-multiples.result.other * c.other.inside.bound = mul-le-mul (omega arith) (other_form.sizes j) in
    let word = limit_at_most g.N.Exact.WIDTH g.met.N.Exact.width in
    rw (c.as_mut_slice.ensures.value, c.as_slice-others.ensures.value) (omega (arith, own, taken, c.in-Some.ensures.bound, c.in-Some.ensures.below.0, c.long_limit-limit.ensures, word))

pub invariant_of-self : goal.invariant_of-self
invariant_of-self g c = λ z.
    let a = c.self.inside in
    let sizes = c.in-Some.sizes in
    let limit = c.long_limit-limit.result in
    let other_form = c.other.invariant.form c.if-not-other.false in
    let p_above = other_form.above in
    let others = other_form.sizes in
    let other_at = whole_at c.other.inside.is_whole c.other.inside.denominator c.other.inside.words.items c.other.inside.long c.args.other.now c.other.view_is c.if-not-other.false p_above in
    let number = number_in c.self.inside.words.items c.args.column in
    let fits : FitsSigned w128 (number_in c.as_slice.result.now c.args.column) = fits_signed_from_abs w128 _ (rw c.as_slice.ensures.value (number_in_long g.N.Exact.WIDTH c.self.inside.denominator c.self.inside.bound c.self.inside.words.items g.met.N.Exact.width ((c.self.invariant c.if-not-self.false).form c.if-not-self.false) c.args.column)) in
    let clears : c.long_multiples_for-multiples.result.other *ℤ pos c.other.inside.denominator ≡ number_in c.self.inside.words.items c.args.column *ℤ pos c.long_multiples_for-multiples.result.own =
    c.long_multiples_for-multiples.ensures.clears ∙ ap (λ z. z *ℤ pos c.long_multiples_for-multiples.result.own) (to_z-of_z fits ∙ ap (λ xs. number_in xs c.args.column) c.as_slice.ensures.value) in
    let ys = c.replace_by_words.new.numbers in
    let new : (j : ℕ) → number_in c.replace_by_words.new.numbers j ≡ (number_in c.self.inside.words.items j *ℤ pos c.long_multiples_for-multiples.result.own) -ℤ (c.long_multiples_for-multiples.result.other *ℤ number_in c.other.inside.words.items j) = λ j.
    c.replace_by_words.ensures j ∙ ap₂ (λ x z. (x *ℤ pos c.long_multiples_for-multiples.result.own) -ℤ (c.long_multiples_for-multiples.result.other *ℤ z)) (ap (λ xs. number_in xs j) c.as_mut_slice.ensures.value) (ap (λ xs. number_in xs j) c.as_slice-others.ensures.value) in
    let same : length c.replace_by_words.new.numbers ≡ length c.self.inside.words.items = c.replace_by_words.auto.numbers ∙ ap length c.as_mut_slice.ensures.value in
    let held = a.words.ok.0 in
    subst (λ z. IsLine (limit_of g.N.Exact.WIDTH) a.is_whole sizes.denominator sizes.bound z (length (map g.N.Exact.rational a.fractions.items))) (sym (with_items_is a.words ys (omega (arith, same, held))))
    (reduce_inv g.N.Exact.WIDTH (limit_of g.N.Exact.WIDTH) (same_limit g.N.Exact.WIDTH) c.self.inside.is_whole c.self.inside.denominator c.self.inside.bound c.self.inside.words.items (map g.N.Exact.rational c.self.inside.fractions.items) c.args.self.now c.self.view_is (c.self.invariant c.if-not-self.false) c.if-not-self.false c.other.inside.denominator c.other.inside.bound c.other.inside.words.items c.args.other.now p_above others other_at c.args.column c.long_multiples_for-multiples.result.own c.long_multiples_for-multiples.result.other number refl c.long_multiples_for-multiples.ensures.own clears limit sizes.bound sizes.denominator c.long_limit-limit.ensures c.in-Some.ensures.bound c.in-Some.ensures.denominator c.in-Some.ensures.below.0 c.in-Some.ensures.below.1 ys new same)

pub returns-clause-fits : goal.returns-clause-fits
returns-clause-fits g c = λ j.
    let a = c.self.inside in
    let sizes = c.in-Some.sizes in
    let limit = c.long_limit-limit.result in
    let other_form = c.other.invariant.form c.if-not-other.false in
    let p_above = other_form.above in
    let others = other_form.sizes in
    let other_at = whole_at c.other.inside.is_whole c.other.inside.denominator c.other.inside.words.items c.other.inside.long c.args.other.now c.other.view_is c.if-not-other.false p_above in
    let number = number_in c.self.inside.words.items c.args.column in
    let fits : FitsSigned w128 (number_in c.as_slice.result.now c.args.column) = fits_signed_from_abs w128 _ (rw c.as_slice.ensures.value (number_in_long g.N.Exact.WIDTH c.self.inside.denominator c.self.inside.bound c.self.inside.words.items g.met.N.Exact.width ((c.self.invariant c.if-not-self.false).form c.if-not-self.false) c.args.column)) in
    let clears : c.long_multiples_for-multiples.result.other *ℤ pos c.other.inside.denominator ≡ number_in c.self.inside.words.items c.args.column *ℤ pos c.long_multiples_for-multiples.result.own =
    c.long_multiples_for-multiples.ensures.clears ∙ ap (λ z. z *ℤ pos c.long_multiples_for-multiples.result.own) (to_z-of_z fits ∙ ap (λ xs. number_in xs c.args.column) c.as_slice.ensures.value) in
    let ys = c.replace_by_words.new.numbers in
    let new : (j : ℕ) → number_in c.replace_by_words.new.numbers j ≡ (number_in c.self.inside.words.items j *ℤ pos c.long_multiples_for-multiples.result.own) -ℤ (c.long_multiples_for-multiples.result.other *ℤ number_in c.other.inside.words.items j) = λ j.
    c.replace_by_words.ensures j ∙ ap₂ (λ x z. (x *ℤ pos c.long_multiples_for-multiples.result.own) -ℤ (c.long_multiples_for-multiples.result.other *ℤ z)) (ap (λ xs. number_in xs j) c.as_mut_slice.ensures.value) (ap (λ xs. number_in xs j) c.as_slice-others.ensures.value) in
    let same : length c.replace_by_words.new.numbers ≡ length c.self.inside.words.items = c.replace_by_words.auto.numbers ∙ ap length c.as_mut_slice.ensures.value in
    let held = a.words.ok.0 in
    reduce_fits g.N.Exact.WIDTH (limit_of g.N.Exact.WIDTH) (same_limit g.N.Exact.WIDTH) c.self.inside.is_whole c.self.inside.denominator c.self.inside.bound c.self.inside.words.items (map g.N.Exact.rational c.self.inside.fractions.items) c.args.self.now c.self.view_is (c.self.invariant c.if-not-self.false) c.if-not-self.false c.other.inside.denominator c.other.inside.bound c.other.inside.words.items c.args.other.now p_above others other_at c.args.column c.long_multiples_for-multiples.result.own c.long_multiples_for-multiples.result.other number refl c.long_multiples_for-multiples.ensures.own clears limit sizes.bound sizes.denominator c.long_limit-limit.ensures c.in-Some.ensures.bound c.in-Some.ensures.denominator c.in-Some.ensures.below.0 c.in-Some.ensures.below.1 ys new j

pub returns-clause-reduced : goal.returns-clause-reduced
returns-clause-reduced g c = λ j.
    let a = c.self.inside in
    let sizes = c.in-Some.sizes in
    let limit = c.long_limit-limit.result in
    let other_form = c.other.invariant.form c.if-not-other.false in
    let p_above = other_form.above in
    let others = other_form.sizes in
    let other_at = whole_at c.other.inside.is_whole c.other.inside.denominator c.other.inside.words.items c.other.inside.long c.args.other.now c.other.view_is c.if-not-other.false p_above in
    let number = number_in c.self.inside.words.items c.args.column in
    let fits : FitsSigned w128 (number_in c.as_slice.result.now c.args.column) = fits_signed_from_abs w128 _ (rw c.as_slice.ensures.value (number_in_long g.N.Exact.WIDTH c.self.inside.denominator c.self.inside.bound c.self.inside.words.items g.met.N.Exact.width ((c.self.invariant c.if-not-self.false).form c.if-not-self.false) c.args.column)) in
    let clears : c.long_multiples_for-multiples.result.other *ℤ pos c.other.inside.denominator ≡ number_in c.self.inside.words.items c.args.column *ℤ pos c.long_multiples_for-multiples.result.own =
    c.long_multiples_for-multiples.ensures.clears ∙ ap (λ z. z *ℤ pos c.long_multiples_for-multiples.result.own) (to_z-of_z fits ∙ ap (λ xs. number_in xs c.args.column) c.as_slice.ensures.value) in
    let ys = c.replace_by_words.new.numbers in
    let new : (j : ℕ) → number_in c.replace_by_words.new.numbers j ≡ (number_in c.self.inside.words.items j *ℤ pos c.long_multiples_for-multiples.result.own) -ℤ (c.long_multiples_for-multiples.result.other *ℤ number_in c.other.inside.words.items j) = λ j.
    c.replace_by_words.ensures j ∙ ap₂ (λ x z. (x *ℤ pos c.long_multiples_for-multiples.result.own) -ℤ (c.long_multiples_for-multiples.result.other *ℤ z)) (ap (λ xs. number_in xs j) c.as_mut_slice.ensures.value) (ap (λ xs. number_in xs j) c.as_slice-others.ensures.value) in
    let same : length c.replace_by_words.new.numbers ≡ length c.self.inside.words.items = c.replace_by_words.auto.numbers ∙ ap length c.as_mut_slice.ensures.value in
    let held = a.words.ok.0 in
    ap (λ z. at (line_of a.is_whole sizes.denominator z (map g.N.Exact.rational a.fractions.items)) j) (with_items_is a.words ys (omega (arith, same, held)))
    ∙ reduce_is g.N.Exact.WIDTH (limit_of g.N.Exact.WIDTH) (same_limit g.N.Exact.WIDTH) c.self.inside.is_whole c.self.inside.denominator c.self.inside.bound c.self.inside.words.items (map g.N.Exact.rational c.self.inside.fractions.items) c.args.self.now c.self.view_is (c.self.invariant c.if-not-self.false) c.if-not-self.false c.other.inside.denominator c.other.inside.bound c.other.inside.words.items c.args.other.now p_above others other_at c.args.column c.long_multiples_for-multiples.result.own c.long_multiples_for-multiples.result.other number refl c.long_multiples_for-multiples.ensures.own clears limit sizes.bound sizes.denominator c.long_limit-limit.ensures c.in-Some.ensures.bound c.in-Some.ensures.denominator c.in-Some.ensures.below.0 c.in-Some.ensures.below.1 ys new j
