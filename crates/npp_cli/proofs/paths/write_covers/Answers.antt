use Rattle.npp_cli.specs.PathsText.{commodity_lines}
use Rattle.npp_report.proofs.Growth.{grown_by_more}
use Rattle.npp_report.proofs.NumberedLines.{numbered_lines_more}
use Rattle.npp_cli.proofs.paths.write_covers.Goals as goal

pub loop-k-preserved : goal.loop-k-preserved
loop-k-preserved c =
    grown_by_more _ _ _ _ _ _ c.loop-k.invariant (rw c.index-covers-k.is at c.in_ok-write_cover.ensures)
    (numbered_lines_more commodity_lines c.args.covers.now _ c.index-covers-k.result c.loop-k-test.true)
