use Rattle.npp_rows.proofs.ListLaws.{found_place}
use Rattle.npp_rows.proofs.search.place_in.Goals as goal

pub returns : goal.returns
returns c = rw c.ok.ensures.value (found_place c.args.list.now c.args.number c.binary_search.result c.requires c.binary_search.ensures.position)
