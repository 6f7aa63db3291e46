use Rattle.npp_rows.proofs.FoundLaws.{choice_toll_found}
use Rattle.npp_rows.proofs.table.PathTable.find_choice_column.Goals as goal

pub returns-in-Toll : goal.returns-in-Toll
returns-in-Toll c = λ choice. rw c.in-Toll.is (choice_toll_found c.args.self.now choice c.in-Toll.a c.tolls.result c.place_from.result c.tolls.ensures.count c.place_from.ensures)
