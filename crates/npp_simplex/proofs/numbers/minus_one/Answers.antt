use Rattle.std.proofs.Common.{◌∙◌}
use Rattle.npp_frac.specs.ZeroLaws.{minus_one_value}
use Rattle.npp_simplex.proofs.numbers.minus_one.Goals as goal

pub returns : goal.returns
returns g c = c.of_whole.ensures ∙ minus_one_value
