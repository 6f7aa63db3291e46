use Rattle.std.proofs.Common.{◌≡◌, map, length, true, subst, ap, sym, ◌∙◌, arith}
use Rattle.std.specs.Vec.{with_items}
use Rattle.std.proofs.lemmas.List.{with_items_is}
use Rattle.npp_frac.specs.Fits.{limit_of}
use Rattle.npp_simplex.specs.CommonForm.{IsLine}
use Rattle.npp_simplex.proofs.LineForms.{line_length, wider_form}
use Rattle.npp_simplex.proofs.long.Long.take_words.Goals as goal

pub invariant_of-self : goal.invariant_of-self
invariant_of-self g c = λ e.
    let a = c.self.inside in
    let w = g.N.Exact.WIDTH in
    let ys = c.lengthen.new.numbers in
    let held = a.words.ok.0 in
    let same : length c.lengthen.new.numbers ≡ length c.self.inside.words.items = c.lengthen.auto.numbers ∙ ap length c.as_mut_slice.ensures.value in
    let is : (with_items c.self.inside.words c.lengthen.new.numbers).items ≡ c.args.words.now = with_items_is a.words ys (omega (arith, same, held)) ∙ c.lengthen.ensures in
    subst (λ z. IsLine (limit_of w) true c.args.sizes.denominator c.args.sizes.bound z (length (map g.N.Exact.rational a.fractions.items))) (sym is) (record {
      room = c.requires.room ∙ line_length a.is_whole a.denominator a.words.items (map g.N.Exact.rational a.fractions.items) c.args.self.now c.self.view_is (λ e. (c.self.invariant e).room);
      form = λ e. wider_form w c.args.sizes.denominator c.args.sizes.bound c.args.words.now c.requires.form;
    })
