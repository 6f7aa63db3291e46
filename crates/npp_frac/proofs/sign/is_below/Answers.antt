use Rattle.std.proofs.Common.{ap, ◌∙◌}
use Rattle.std.specs.Ordering.{is_lt}
use Rattle.npp_frac.proofs.Signs.{is_less_of_cmp}
use Rattle.npp_frac.proofs.sign.is_below.Goals as goal

pub returns : goal.returns
returns g c = c.is_lt.ensures ∙ ap is_lt c.cmp.ensures ∙ is_less_of_cmp (g.N.Exact.rational c.args.first) (g.N.Exact.rational c.args.second)
