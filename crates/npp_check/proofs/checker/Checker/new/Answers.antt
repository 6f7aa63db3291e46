use Rattle.npp_frac.specs.Fits.{limit_of}
use Rattle.npp_check.proofs.CheckerLemmas.{is_new}
use Rattle.npp_check.proofs.checker.Checker.new.Goals as goal

pub returns-clause-new : goal.returns-clause-new
returns-clause-new g c = is_new (limit_of g.N.Exact.WIDTH) c.args.instance.now c.in_ok-measured.measured c.in_ok-measured.ensures.instance c.instance-net.ensures.measures
