use Rattle.std.proofs.Common.{sym}
use Rattle.npp_lp.specs.ZeroSums.{joined_sum-zero_left, joined_sum-zero_right}
use Rattle.npp_lp.proofs.sums.add_entry.Goals as goal

pub returns-then-is_zero : goal.returns-then-is_zero
returns-then-is_zero g c = sym (joined_sum-zero_right g.N.Exact.WIDTH _ _ _ g.met.N.Exact.width (g.met.N.Exact.fits c.args.sum) (c.is_zero.ensures.0 c.if-is_zero.true))

pub returns-in-None : goal.returns-in-None
returns-in-None g c = sym (joined_sum-zero_left g.N.Exact.WIDTH _ _ _ g.met.N.Exact.width (g.met.N.Exact.fits c.args.sum) c.in-None.ensures)
