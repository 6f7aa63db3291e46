use Rattle.std.proofs.Common.{ap, arith}
use Rattle.npp_lp.specs.declared.program.Entry.{Entry}
use Rattle.npp_rows.proofs.FeedLaws.{column_within, written_more}
use Rattle.npp_rows.proofs.row_feed.feed.Goals as goal

pub entry-requires-clause-within : goal.entry-requires-clause-within
entry-requires-clause-within g c =
    omega (arith, column_within g.N.Exact.rational c.args.program.now.columns c.args.entries.now c.requires.form c.loop-entry.entry-index c.entry-item.result c.loop-entry-test.true, ap (λ (e : Entry g.row.N.Denot). e.column) c.entry-item.is, c.loop-entry.invariant.columns)

pub loop-entry-preserved : goal.loop-entry-preserved
loop-entry-preserved g c = rw c.in-Ok.ensures.ok (written_more g.N.Exact.rational c.args.program.now.columns c.args.entries.now c.requires.form c.loop-entry.entry-index c.args.program.now c.loop-entry.program c.entry-item.result c.loop-entry-test.true c.entry-item.is c.loop-entry.invariant)
