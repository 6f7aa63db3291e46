use Rattle.std.proofs.Common.{sym, subst}
use Rattle.npp_frac.specs.Fits.{limit_of}
use Rattle.npp_simplex.specs.RowOrder.{AreWordsOf}
use Rattle.npp_simplex.proofs.LineForms.{whole_is, number_fits}
use Rattle.npp_simplex.proofs.line.Line.whole_numbers.Goals as goal

pub returns-then-self : goal.returns-then-self
returns-then-self g c =
    let a = c.self.inside in
    let form = c.self.invariant.form c.if-self.true in
    subst (λ xs. AreWordsOf (limit_of g.N.Exact.WIDTH) xs c.args.self.now) (sym c.as_slice.ensures.value) (record {
      denominator = a.denominator;
      above = form.above;
      numbers = whole_is a.is_whole a.denominator a.words.items a.long c.args.self.now c.self.view_is c.if-self.true;
      sizes = number_fits g.N.Exact.WIDTH a.denominator a.bound a.words.items form;
    })
