use Rattle.npp_rows.specs.Relax.{relaxation_rows}
use Rattle.npp_rows.specs.Rows.{IsRow}
use Rattle.npp_rows.proofs.ProgramLaws.{all_rows}
use Rattle.npp_rows.proofs.RowPlaces.{row_is_placed, row_told}
use Rattle.npp_rows.proofs.index.RelaxationIndex.row_place.Goals as goal

pub returns-clause-place : goal.returns-clause-place
returns-clause-place c = row_is_placed c.args.self.now.paths c.args.self.now.parts c.args.cuts c.args.row c.find_row.result c.find_row.ensures

pub returns-clause-row : goal.returns-clause-row
returns-clause-row c =
    row_told (IsRow c.args.self.now.paths c.args.self.now.parts c.args.cuts) (relaxation_rows c.args.self.now.paths c.args.self.now.parts c.args.cuts) c.args.row c.find_row.result (all_rows c.args.self.now.paths c.args.self.now.parts c.args.cuts)
    (row_is_placed c.args.self.now.paths c.args.self.now.parts c.args.cuts c.args.row c.find_row.result c.find_row.ensures)
