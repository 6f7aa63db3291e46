use Rattle.npp_rows.proofs.FoundLaws.{choice_cap_found, choice_follow_found}
use Rattle.npp_rows.proofs.table.PathTable.find_choice_row.Goals as goal

pub returns-in-Cap : goal.returns-in-Cap
returns-in-Cap c = λ choice. rw c.in-Cap.is (choice_cap_found c.args.self.now choice c.in-Cap.a c.tolls.result c.place_from.result c.tolls.ensures.count c.place_from.ensures)

pub returns-in-Follow : goal.returns-in-Follow
returns-in-Follow c = λ choice. rw c.in-Follow.is (choice_follow_found c.args.self.now choice c.in-Follow.k c.in-Follow.q c.follow_place.result c.follow_place.ensures.place)
