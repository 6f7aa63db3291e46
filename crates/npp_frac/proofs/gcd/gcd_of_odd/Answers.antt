use Rattle.std.proofs.Common.{ap, sym, ◌∙◌}
use Rattle.npp_frac.specs.Gcd.{gcd}
use Rattle.npp_frac.proofs.Halving.{gcd-self}
use Rattle.npp_frac.proofs.gcd.gcd_of_odd.Goals as goal

pub returns : goal.returns
returns c = sym (gcd-self c.loop-x.x) ∙ ap (λ t. gcd c.loop-x.x t) c.loop-x-test.false ∙ c.loop-x.invariant.same
