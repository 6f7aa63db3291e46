use Rattle.std.proofs.Common.{rules, pos, FitsSigned, to_z-of_z, ap, ◌∙◌}
use Rattle.std.specs.Int.{w64}
use Rattle.npp_frac.specs.Rational.{whole}
use Rattle.npp_search.proofs.offer.whole_value.Goals as goal

pub returns : goal.returns
returns c = let fits : FitsSigned w64 (pos c.args.number) = search rules in c.of_whole.ensures ∙ ap whole (to_z-of_z fits)
