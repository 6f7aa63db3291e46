use Rattle.npp_rows.proofs.FeedLaws.{AreWritten}
use Rattle.npp_rows.proofs.row_feed.feed.Given as goal

abbrev pub invariant-loop-entry : goal.invariant-loop-entry
invariant-loop-entry g l = AreWritten l.initial.program l.program l.entries l.entry-index
