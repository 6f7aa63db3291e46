use Rattle.std.proofs.Common.{◌≡◌, ◌≢◌, ℕ, refl, length, nat_abs, w64, FitsSigned, to_z-of_z, subst, ap, ap₂, sym, ◌∙◌, arith}
use Rattle.std.specs.Vec.{with_items}
use Rattle.std.proofs.lemmas.List.{with_items_is}
use Rattle.std.proofs.lemmas.Int.{fits_signed_from_abs}
use Rattle.npp_frac.specs.Rational.{zero_ℚ, ◌/ℚ◌}
use Rattle.npp_lp.specs.Programs.{at}
use Rattle.npp_simplex.specs.CommonForm.{word_limit, number_in, line_of, turned, IsLine}
use Rattle.npp_simplex.proofs.LineForms.{below_width, within_words, number_in_word}
use Rattle.npp_simplex.proofs.LinePivots.{divide_stop, divide_is, divide_inv}
use Rattle.npp_simplex.proofs.line.Line.divide_by.Goals as goal

pub turn_signs-requires : goal.turn_signs-requires
turn_signs-requires g c =
    rw c.as_mut_slice-words.ensures.value (within_words g.N.Exact.WIDTH c.self.inside.denominator c.self.inside.bound c.self.inside.words.items (c.self.invariant.form c.if-self.true))

pub returns-then-self-clause-stop : goal.returns-then-self-clause-stop
returns-then-self-clause-stop g c =
    let apart : at c.shorten.new.self c.args.column ≢ zero_ℚ = λ e. c.requires.divisor (ap (λ z. at z c.args.column) (sym c.shorten.ensures) ∙ e) in
    rw (← c.shorten.ensures) (divide_stop g.N.Exact.WIDTH (word_limit g.N.Exact.WIDTH) (below_width g.N.Exact.WIDTH) c.self.inside.is_whole c.self.inside.denominator c.self.inside.bound c.self.inside.words.items c.self.inside.long c.shorten.new.self c.self.view_is c.self.invariant c.if-self.true c.args.column (number_in c.self.inside.words.items c.args.column) refl apart)

pub invariant_of-self : goal.invariant_of-self
invariant_of-self g c =
    let a = c.self.inside in
    let value = c.as_mut_slice-words.ensures.value in
    let ys = c.turn_signs.new.numbers in
    let y = number_in c.self.inside.words.items c.args.column in
    let fits : FitsSigned w64 (number_in c.as_mut_slice-words.result.now c.args.column) = fits_signed_from_abs w64 _ (rw c.as_mut_slice-words.ensures.value (number_in_word g.N.Exact.WIDTH c.self.inside.denominator c.self.inside.bound c.self.inside.words.items (c.self.invariant.form c.if-self.true) c.args.column)) in
    let read : number_in c.as_mut_slice-words.result.now c.args.column ≡ number_in c.self.inside.words.items c.args.column = ap (λ xs. number_in xs c.args.column) value in
    let new : (j : ℕ) → number_in c.turn_signs.new.numbers j ≡ turned (number_in c.self.inside.words.items j) (number_in c.self.inside.words.items c.args.column) = λ j.
    c.turn_signs.ensures j ∙ ap₂ turned (ap (λ xs. number_in xs j) value) (to_z-of_z fits ∙ read) in
    let size : c.unsigned_abs-self-inside.result ≡ nat_abs (number_in c.self.inside.words.items c.args.column) = c.unsigned_abs-self-inside.ensures.value ∙ ap nat_abs (to_z-of_z fits ∙ read) in
    let apart : at c.shorten.new.self c.args.column ≢ zero_ℚ = λ e. c.requires.divisor (ap (λ z. at z c.args.column) (sym c.shorten.ensures) ∙ e) in
    let same : length c.turn_signs.new.numbers ≡ length c.self.inside.words.items = c.turn_signs.auto.numbers ∙ ap length value in
    let held = a.words.ok.0 in
    let is = with_items_is a.words ys (omega (arith, same, held)) in
    subst (λ z. IsLine (word_limit g.N.Exact.WIDTH) a.is_whole z a.bound (with_items a.words ys).items (length a.long)) (sym size)
    (subst (λ z. IsLine (word_limit g.N.Exact.WIDTH) a.is_whole (nat_abs y) a.bound z (length a.long)) (sym is)
    (divide_inv g.N.Exact.WIDTH (word_limit g.N.Exact.WIDTH) (below_width g.N.Exact.WIDTH) c.self.inside.is_whole c.self.inside.denominator c.self.inside.bound c.self.inside.words.items c.self.inside.long c.shorten.new.self c.self.view_is c.self.invariant c.if-self.true c.args.column y refl apart ys new same))

pub returns-then-self-clause-divided : goal.returns-then-self-clause-divided
returns-then-self-clause-divided g c = λ j l.
    let a = c.self.inside in
    let value = c.as_mut_slice-words.ensures.value in
    let ys = c.turn_signs.new.numbers in
    let y = number_in c.self.inside.words.items c.args.column in
    let fits : FitsSigned w64 (number_in c.as_mut_slice-words.result.now c.args.column) = fits_signed_from_abs w64 _ (rw c.as_mut_slice-words.ensures.value (number_in_word g.N.Exact.WIDTH c.self.inside.denominator c.self.inside.bound c.self.inside.words.items (c.self.invariant.form c.if-self.true) c.args.column)) in
    let read : number_in c.as_mut_slice-words.result.now c.args.column ≡ number_in c.self.inside.words.items c.args.column = ap (λ xs. number_in xs c.args.column) value in
    let new : (j : ℕ) → number_in c.turn_signs.new.numbers j ≡ turned (number_in c.self.inside.words.items j) (number_in c.self.inside.words.items c.args.column) = λ j.
    c.turn_signs.ensures j ∙ ap₂ turned (ap (λ xs. number_in xs j) value) (to_z-of_z fits ∙ read) in
    let size : c.unsigned_abs-self-inside.result ≡ nat_abs (number_in c.self.inside.words.items c.args.column) = c.unsigned_abs-self-inside.ensures.value ∙ ap nat_abs (to_z-of_z fits ∙ read) in
    let apart : at c.shorten.new.self c.args.column ≢ zero_ℚ = λ e. c.requires.divisor (ap (λ z. at z c.args.column) (sym c.shorten.ensures) ∙ e) in
    let same : length c.turn_signs.new.numbers ≡ length c.self.inside.words.items = c.turn_signs.auto.numbers ∙ ap length value in
    let held = a.words.ok.0 in
    let is = with_items_is a.words ys (omega (arith, same, held)) in
    ap₂ (λ n z. at (line_of a.is_whole n z a.long) j) size is
    ∙ divide_is g.N.Exact.WIDTH (word_limit g.N.Exact.WIDTH) (below_width g.N.Exact.WIDTH) c.self.inside.is_whole c.self.inside.denominator c.self.inside.bound c.self.inside.words.items c.self.inside.long c.shorten.new.self c.self.view_is c.self.invariant c.if-self.true c.args.column y refl apart ys new j
    ∙ ap (λ z. at z j /ℚ at z c.args.column) c.shorten.ensures
