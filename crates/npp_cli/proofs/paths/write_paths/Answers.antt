use Rattle.npp_cover.specs.PathValue.{path_value}
use Rattle.npp_cli.specs.PathsText.{useful_line}
use Rattle.npp_report.proofs.Growth.{grown_by_more}
use Rattle.npp_report.proofs.NumberedLines.{mapped_lines_more}
use Rattle.npp_cli.proofs.paths.write_paths.Goals as goal

pub loop-q-preserved : goal.loop-q-preserved
loop-q-preserved c =
    grown_by_more _ _ _ _ _ _ c.loop-q.invariant (rw c.index-paths-q.is at c.in_ok-write_path.ensures)
    (mapped_lines_more (useful_line c.args.k) path_value c.args.paths.now _ c.index-paths-q.result c.loop-q-test.true)
