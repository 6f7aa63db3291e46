use Rattle.npp_rows.proofs.RowPlaces.{choice_column_is_placed}
use Rattle.npp_rows.proofs.table.PathTable.choice_column_place.Goals as goal

pub returns : goal.returns
returns c = λ choice. choice_column_is_placed c.args.self.now choice c.args.column c.find_choice_column.result (c.find_choice_column.ensures choice)
