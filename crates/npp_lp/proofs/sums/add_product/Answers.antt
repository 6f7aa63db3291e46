use Rattle.npp_frac.specs.Fits.{limit_of}
use Rattle.npp_lp.proofs.Joining.{mul_refused, added}
use Rattle.npp_lp.proofs.sums.add_product.Goals as goal

pub returns-in_err-mul : goal.returns-in_err-mul
returns-in_err-mul g c = mul_refused g.N.Exact.rational (limit_of g.N.Exact.WIDTH) c.from_residual.result _ c.args.sum c.args.a c.args.b c.from_residual.ensures.1 c.in_err-mul.ensures.refused c.in_err-mul.ensures.fits

pub returns : goal.returns
returns g c = added g.N.Exact.rational (limit_of g.N.Exact.WIDTH) c.add.result c.args.sum c.in_ok-mul.field-0 c.args.a c.args.b c.in_ok-mul.ensures.exact c.in_ok-mul.ensures.fits c.add.ensures.fits c.add.ensures.exact c.add.ensures.refused
