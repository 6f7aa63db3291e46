use Rattle.std.proofs.Common.{◌≡◌, ◌<◌, length, true, ap, sym, subst, ◌∙◌, arith}
use Rattle.std.specs.Vec.{with_items}
use Rattle.std.proofs.lemmas.List.{with_items_is, length-map}
use Rattle.npp_lp.specs.Programs.{at}
use Rattle.npp_frac.specs.Rational.{ratio}
use Rattle.npp_simplex.specs.CommonForm.{word_limit, over, IsLine}
use Rattle.npp_simplex.proofs.LineForms.{line_length, some_limit}
use Rattle.npp_simplex.proofs.LinePivots.{all_cleared}
use Rattle.npp_simplex.proofs.line.Line.clear.Goals as goal

pub invariant_of-self : goal.invariant_of-self
invariant_of-self g c =
    let a = c.self.inside in
    let w = g.N.Exact.WIDTH in
    let ys = c.clear_words.new.numbers in
    let some : 1 < word_limit g.N.Exact.WIDTH = some_limit g.N.Exact.WIDTH g.met.N.Exact.width in
    let same : length c.clear_words.new.numbers ≡ length c.self.inside.words.items = c.clear_words.auto.numbers ∙ ap length c.as_mut_slice.ensures.value in
    subst (λ z. IsLine (word_limit w) true 1 0 z (length a.long)) (sym (with_items_is a.words ys (omega (arith, same, a.words.ok.0)))) (record {
      room = same ∙ c.self.invariant.room;
      form = λ e. record { above = omega arith; denominator = some; bound = omega arith; sizes = λ j. rw (c.clear_words.ensures j) (omega arith) };
    })

pub returns-clause-length : goal.returns-clause-length
returns-clause-length g c =
    let a = c.self.inside in
    let ys = c.clear_words.new.numbers in
    let same : length c.clear_words.new.numbers ≡ length c.self.inside.words.items = c.clear_words.auto.numbers ∙ ap length c.as_mut_slice.ensures.value in
    ap (λ z. length (over 1 z)) (with_items_is a.words ys (omega (arith, same, a.words.ok.0))) ∙ length-map ys (λ x. ratio x 1) ∙ same ∙ c.self.invariant.room
    ∙ sym (line_length a.is_whole a.denominator a.words.items a.long c.args.self.now c.self.view_is (λ e. c.self.invariant.room))

pub returns-clause-zeros : goal.returns-clause-zeros
returns-clause-zeros g c = λ j l.
    let a = c.self.inside in
    let ys = c.clear_words.new.numbers in
    let same : length c.clear_words.new.numbers ≡ length c.self.inside.words.items = c.clear_words.auto.numbers ∙ ap length c.as_mut_slice.ensures.value in
    ap (λ z. at (over 1 z) j) (with_items_is a.words ys (omega (arith, same, a.words.ok.0))) ∙ all_cleared 1 ys (omega arith) c.clear_words.ensures j
