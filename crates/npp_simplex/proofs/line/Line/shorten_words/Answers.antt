use Rattle.std.proofs.Common.{◌≡◌, length, subst, sym, ◌∙◌, ap, arith}
use Rattle.std.proofs.lemmas.List.{with_items_is}
use Rattle.npp_simplex.specs.CommonForm.{word_limit, IsLine}
use Rattle.npp_simplex.proofs.LineForms.{denominator_in_word, within_words, shortened}
use Rattle.npp_simplex.proofs.line.Line.shorten_words.Goals as goal

pub shorten_words-sizes-requires-clause-below : goal.shorten_words-sizes-requires-clause-below
shorten_words-sizes-requires-clause-below g c =
    let a = c.self.inside in
    denominator_in_word g.N.Exact.WIDTH a.denominator a.bound a.words.items (c.self.invariant.form c.if-not-self.false)

pub shorten_words-sizes-requires-clause-sizes : goal.shorten_words-sizes-requires-clause-sizes
shorten_words-sizes-requires-clause-sizes g c =
    let a = c.self.inside in
    rw c.as_mut_slice.ensures.value (within_words g.N.Exact.WIDTH a.denominator a.bound a.words.items (c.self.invariant.form c.if-not-self.false))

-- the list that was written has the numbers of the slice
pub invariant_of-self : goal.invariant_of-self
invariant_of-self g c =
    let a = c.self.inside in
    let w = g.N.Exact.WIDTH in
    let ys = c.shorten_words-sizes.new.numbers in
    let s = c.shorten_words-sizes.result in
    let same : length c.shorten_words-sizes.new.numbers ≡ length c.self.inside.words.items = c.shorten_words-sizes.auto.numbers ∙ ap length c.as_mut_slice.ensures.value in
    let held = a.words.ok.0 in
    let is = with_items_is a.words ys (omega (arith, same, held)) in
    subst (λ z. IsLine (word_limit w) a.is_whole s.denominator s.bound z (length a.long)) (sym is)
    (shortened (word_limit w) a.is_whole a.denominator a.bound (length a.long) a.words.items c.self.invariant c.if-not-self.false s.denominator s.bound ys
    c.shorten_words-sizes.ensures.positive c.shorten_words-sizes.ensures.at_most c.shorten_words-sizes.ensures.bound
    (c.shorten_words-sizes.ensures.least a.bound (rw c.as_mut_slice.ensures.value (let f = c.self.invariant.form c.if-not-self.false in f.sizes))) same)
