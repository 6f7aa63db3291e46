use Rattle.npp_rows.proofs.ListLaws.{then_last}
use Rattle.npp_rows.proofs.table.PathTable.list_rows.Goals as goal

pub returns : goal.returns
returns c =
    let caps = rw (c.clear.ensures.items, c.tolls.ensures.count) at c.in_ok-push_singles.ensures in
    then_last c.push_follows.result _ _ _ _ caps c.push_follows.ensures
