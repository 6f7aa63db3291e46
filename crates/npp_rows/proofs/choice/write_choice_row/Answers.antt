use Rattle.std.proofs.Common.{◌<◌, length, sym, ap, refl}
use Rattle.npp_lp.specs.Meaning.{terms_of}
use Rattle.npp_rows.proofs.ListLaws.{written_anew}
use Rattle.npp_rows.proofs.RowTerms.{cap_on_tolls}
use Rattle.npp_rows.proofs.choice.write_choice_row.Goals as goal

pub returns-in-Cap : goal.returns-in-Cap
returns-in-Cap g c =
    let inside : c.in-Cap.a < length c.args.table.now.caps = rw c.in-Cap.is at c.requires.row in
    rw c.in-Cap.is
    (written_anew c.push_number.result _ _ _ _ (ap (terms_of g.N.Exact.rational) c.clear.ensures.items) (sym (cap_on_tolls c.args.table.now c.in-Cap.a inside)) c.push_number.ensures)

pub returns-in-Follow : goal.returns-in-Follow
returns-in-Follow g c = rw c.in-Follow.is (written_anew c.push_undercut.result _ _ _ _ (ap (terms_of g.N.Exact.rational) c.clear.ensures.items) refl c.push_undercut.ensures)
