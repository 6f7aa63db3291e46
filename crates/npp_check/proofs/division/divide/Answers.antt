use Rattle.std.proofs.Common.{sym, ◌∙◌}
use Rattle.npp_tree.proofs.DivideLaws.{rises}
use Rattle.npp_check.proofs.division.divide.Goals as goal

pub rest_of-requires : goal.rest_of-requires
rest_of-requires c = rises c.args.part.now (sym c.is_rising.ensures ∙ c.if-not-is_rising.false)
