use Rattle.npp_tree.specs.Outcome.{path_line_value}
use Rattle.npp_report.specs.Lines.{path_line}
use Rattle.npp_report.proofs.Growth.{grown_by_more}
use Rattle.npp_report.proofs.NumberedLines.{mapped_lines_more}
use Rattle.npp_report.proofs.lines.write_paths.Goals as goal

pub loop-k-preserved : goal.loop-k-preserved
loop-k-preserved g c =
    grown_by_more _ _ _ _ _ _ c.loop-k.invariant (rw c.index-paths-k.is at c.in_ok-write_path.ensures)
    (mapped_lines_more path_line (path_line_value g.N.Exact.rational) c.args.paths.now _ c.index-paths-k.result c.loop-k-test.true)
