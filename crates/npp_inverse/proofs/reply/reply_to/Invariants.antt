use Rattle.std.proofs.Common.{map}
use Rattle.npp_frac.specs.Fits.{limit_of}
use Rattle.npp_inverse.proofs.ReplyLaws.{IsReplyBelow}
use Rattle.npp_inverse.proofs.reply.reply_to.Given as goal

abbrev pub invariant-loop-k : goal.invariant-loop-k
invariant-loop-k g l = IsReplyBelow (limit_of g.N.Exact.WIDTH) l.table (map g.N.Exact.rational l.tolls) l.k l.paths.items (map g.N.Exact.rational l.paid.items) (g.N.Exact.rational l.revenue)
