use Rattle.std.proofs.Common.{map, ap, refl}
use Rattle.std.specs.List.{range_with_len}
use Rattle.npp_rows.specs.declared.row_names.Single.TheVariants.{Ones, OneLows}
use Rattle.npp_rows.specs.KindNames.{single_name}
use Rattle.npp_rows.proofs.ListLaws.{then_more, then_last}
use Rattle.npp_rows.proofs.index.RelaxationIndex.list_rows.Goals as goal

pub returns : goal.returns
returns c =
    let count = rw c.table-table.ensures.same at c.commodities.ensures.count in
    let count2 = rw c.table-table.ensures.same at c.commodities-2.ensures.count in
    let own = rw c.table-table.ensures.same at c.in_ok-list_rows.ensures in
    let belows = then_more _ _ _ _ _ own c.in_ok-push_pairs.ensures refl in
    let uses = then_more _ _ _ _ _ belows c.in_ok-push_pairs-2.ensures refl in
    let links = then_more _ _ _ _ _ uses c.in_ok-push_pairs-3.ensures refl in
    let ones = then_more _ _ _ _ _ links c.in_ok-push_singles.ensures (ap (λ n. map (single_name Ones) (range_with_len 0 n)) count) in
    let lows = then_more _ _ _ _ _ ones c.in_ok-push_singles-2.ensures (ap (λ n. map (single_name OneLows) (range_with_len 0 n)) count2) in
    then_last c.push_singles-3.result _ _ _ _ lows c.push_singles-3.ensures
