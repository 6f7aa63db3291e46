use Rattle.npp_rows.proofs.RowPlaces.{column_is_placed}
use Rattle.npp_rows.proofs.index.RelaxationIndex.column_place.Goals as goal

pub returns : goal.returns
returns c = column_is_placed c.args.self.now.paths c.args.self.now.parts c.args.column c.find_column.result c.table-table.ensures.allowed c.find_column.ensures
