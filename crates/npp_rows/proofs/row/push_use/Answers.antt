use Rattle.std.proofs.Common.{sym}
use Rattle.npp_rows.proofs.ListLaws.{pushed_two}
use Rattle.npp_rows.proofs.FamilyLaws.{used_rises}
use Rattle.npp_rows.proofs.RowTerms.{use_terms}
use Rattle.npp_rows.proofs.row.push_use.Goals as goal

pub returns : goal.returns
returns g c =
    let m = c.args.index.now.paths in
    let parts = c.args.index.now.parts in
    let place = c.paid_column-paid.ensures.place in
    let paths = rw c.table-table.ensures.same at c.paths.ensures.paths in
    let free = rw c.table-table.ensures.same at c.free_cost.ensures.value in
    let first = rw (paths, c.part.ensures.part, free, c.first_share.ensures.value) at c.in_ok-push_gaps.ensures in
    let last = rw place.3 at c.push_number.ensures in
    pushed_two c.push_number.result _ _ _ _ _ _ first
    (sym (use_terms m parts c.args.a c.args.k place.0 c.paid_column-paid.ensures.toll c.requires.commodity (used_rises m parts c.args.k) place.1 place.2))
    last
