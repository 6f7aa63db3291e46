use Rattle.std.proofs.Common.{map, sym, ap, subst, ◌∙◌}
use Rattle.npp_frac.specs.Fits.{limit_of}
use Rattle.npp_lp.specs.RunningSums.{sums_meant, dual_of_sums}
use Rattle.npp_rows.specs.Taken.{Taken, AreTaken}
use Rattle.npp_rows.proofs.TakenLaws.{dual_named}
use Rattle.npp_rows.proofs.named_sums.NamedSums.judge_dual.Goals as goal

pub returns : goal.returns
returns g c = λ p ys rises same taken.
    let v = g.N.Exact.rational in
    let here = subst (λ (t : Taken g.row.N.Denot). AreTaken v (limit_of g.N.Exact.WIDTH) p ys t) (sym c.self.view_is) taken in
    c.judge_dual.ensures ∙ ap (dual_of_sums (sums_meant v c.self.inside.sums)) same
    ∙ dual_named g.N.Exact.WIDTH g.met.N.Exact.width p rises ys here.rows here.order (sums_meant v c.self.inside.sums) here.added.sums
