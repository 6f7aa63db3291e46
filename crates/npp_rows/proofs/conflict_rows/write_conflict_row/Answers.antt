use Rattle.std.proofs.Common.{◌<◌, length, sym, ap}
use Rattle.npp_lp.specs.Meaning.{terms_of}
use Rattle.npp_rows.proofs.ListLaws.{written_anew}
use Rattle.npp_rows.proofs.RowTerms.{cap_on_tolls}
use Rattle.npp_rows.proofs.conflict_rows.write_conflict_row.Goals as goal

pub returns-in-Cap : goal.returns-in-Cap
returns-in-Cap g c =
    let inside : c.in-Cap.a < length c.args.table.now.caps = rw c.in-Cap.is at c.requires.row in
    rw c.in-Cap.is
    (written_anew c.push_number.result _ _ _ _ (ap (terms_of g.N.Exact.rational) c.clear.ensures.items) (sym (cap_on_tolls c.args.table.now c.in-Cap.a inside)) c.push_number.ensures)
