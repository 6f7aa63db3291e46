use Rattle.std.proofs.Common.{pos, map, ap, ap₂}
use Rattle.npp_frac.specs.Rational.{whole, ◌*ℚ◌}
use Rattle.npp_frac.specs.Fits.{limit_of}
use Rattle.npp_inverse.proofs.ReplyLaws.{more_revenue}
use Rattle.npp_inverse.proofs.reply.next_reply.Goals as goal

pub returns-clause-revenue : goal.returns-clause-revenue
returns-clause-revenue g c =
    more_revenue (limit_of g.N.Exact.WIDTH) c.args.table.now (map g.N.Exact.rational c.args.tolls.now) c.args.k _ (whole (pos c.demand.result) *ℚ g.N.Exact.rational c.in_ok-taken.taken.toll) _ c.requires.revenue
    (ap₂ ◌*ℚ◌ (ap (λ n. whole (pos n)) c.demand.ensures.value) c.in_ok-taken.ensures.toll) c.in_ok-total.ensures.exact
