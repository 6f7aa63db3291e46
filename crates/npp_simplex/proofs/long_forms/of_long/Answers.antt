use Rattle.std.proofs.Common.{ap, ◌∙◌}
use Rattle.npp_frac.specs.Rational.{whole}
use Rattle.npp_simplex.proofs.LongNumbers.{parts_are}
use Rattle.npp_simplex.proofs.long_forms.of_long.Goals as goal

pub with_rest-requires-clause-sum : goal.with_rest-requires-clause-sum
with_rest-requires-clause-sum g c = rw (parts_are c.args.number c.ranges.number) c.requires

pub returns : goal.returns
returns g c = c.with_rest.ensures ∙ ap whole (parts_are c.args.number c.ranges.number)
