use Rattle.std.proofs.Common.{◌∙◌}
use Rattle.npp_frac.specs.Gcd.{gcd_comm}
use Rattle.npp_frac.proofs.Halving.{gcd_rest}
use Rattle.npp_frac.proofs.gcd.nearer.Goals as goal

pub returns-then-b-ne0 : goal.returns-then-b-ne0
returns-then-b-ne0 c = gcd_rest c.args.a c.args.b

pub returns-then-a-ne0 : goal.returns-then-a-ne0
returns-then-a-ne0 c = gcd_rest c.args.b c.args.a ∙ gcd_comm c.args.b c.args.a
