use Rattle.std.proofs.Common.{map, ◌≡◌, length, subst, sym, ◌∙◌, ap, arith}
use Rattle.std.proofs.lemmas.List.{with_items_is}
use Rattle.npp_frac.specs.Fits.{limit_of}
use Rattle.npp_simplex.specs.CommonForm.{IsLine}
use Rattle.npp_simplex.proofs.LineForms.{denominator_in_long, within_long, shortened}
use Rattle.npp_simplex.proofs.long.Long.shorten.Goals as goal

pub shorten_long_words-sizes-requires-clause-below : goal.shorten_long_words-sizes-requires-clause-below
shorten_long_words-sizes-requires-clause-below g c =
    let a = c.self.inside in
    denominator_in_long g.N.Exact.WIDTH a.denominator a.bound a.words.items g.met.N.Exact.width ((c.self.invariant c.if-not-self.false).form c.if-not-self.false)

pub shorten_long_words-sizes-requires-clause-sizes : goal.shorten_long_words-sizes-requires-clause-sizes
shorten_long_words-sizes-requires-clause-sizes g c =
    let a = c.self.inside in
    rw c.as_mut_slice.ensures.value (within_long g.N.Exact.WIDTH a.denominator a.bound a.words.items g.met.N.Exact.width ((c.self.invariant c.if-not-self.false).form c.if-not-self.false))

-- the list that was written has the numbers of the slice
pub invariant_of-self : goal.invariant_of-self
invariant_of-self g c = λ e.
    let a = c.self.inside in
    let w = g.N.Exact.WIDTH in
    let ys = c.shorten_long_words-sizes.new.numbers in
    let s = c.shorten_long_words-sizes.result in
    let same : length c.shorten_long_words-sizes.new.numbers ≡ length c.self.inside.words.items = c.shorten_long_words-sizes.auto.numbers ∙ ap length c.as_mut_slice.ensures.value in
    let held = a.words.ok.0 in
    let is = with_items_is a.words ys (omega (arith, same, held)) in
    subst (λ z. IsLine (limit_of w) a.is_whole s.denominator s.bound z (length (map g.N.Exact.rational a.fractions.items))) (sym is)
    (shortened (limit_of w) a.is_whole a.denominator a.bound (length (map g.N.Exact.rational a.fractions.items)) a.words.items (c.self.invariant c.if-not-self.false) c.if-not-self.false s.denominator s.bound ys
    c.shorten_long_words-sizes.ensures.positive c.shorten_long_words-sizes.ensures.at_most c.shorten_long_words-sizes.ensures.bound
    (c.shorten_long_words-sizes.ensures.least a.bound (rw c.as_mut_slice.ensures.value (let f = (c.self.invariant c.if-not-self.false).form c.if-not-self.false in f.sizes))) same)
