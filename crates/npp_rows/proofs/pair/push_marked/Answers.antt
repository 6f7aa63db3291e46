use Rattle.std.proofs.Common.{get_or, false, refl}
use Rattle.npp_rows.proofs.MarkLaws.{shares_more}
use Rattle.npp_rows.proofs.pair.push_marked.Goals as goal

pub loop-q-preserved : goal.loop-q-preserved
loop-q-preserved g c =
    shares_more c.args.l c.loop-q.q c.args.marks.now (get_or c.args.marks.now c.loop-q.q false) _ _ _ refl c.loop-q.invariant c.in_ok-push_where.ensures
