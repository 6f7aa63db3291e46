use Rattle.npp_report.specs.Lines.{toll_line}
use Rattle.npp_report.proofs.Growth.{grown_by_more}
use Rattle.npp_report.proofs.NumberedLines.{mapped_lines_more}
use Rattle.npp_report.proofs.lines.write_tolls.Goals as goal

pub loop-number-preserved : goal.loop-number-preserved
loop-number-preserved g c =
    grown_by_more _ _ _ _ _ _ c.loop-number.invariant (rw c.index-tolls-number.is at c.in_ok-write_toll.ensures)
    (mapped_lines_more toll_line g.N.Exact.rational c.args.tolls.now _ c.index-tolls-number.result c.loop-number-test.true)
