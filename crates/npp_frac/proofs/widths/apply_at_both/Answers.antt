use Rattle.npp_frac.specs.Fits.{limit_of}
use Rattle.npp_frac.proofs.Wider.{limit_mono, widths_agree}
use Rattle.npp_frac.proofs.widths.apply_at_both.Goals as goal

pub returns-clause-same : goal.returns-clause-same
returns-clause-same g c =
    widths_agree g.N.Exact.rational g.W.Exact.rational c.apply.result c.apply-2.result c.args.op (limit_of g.N.Exact.WIDTH) (limit_of g.W.Exact.WIDTH) _ _ _ _ (limit_mono _ _ c.requires.wider) c.requires.left c.requires.right c.apply.ensures.fits c.apply.ensures.exact c.apply-2.ensures.fits c.apply-2.ensures.exact
