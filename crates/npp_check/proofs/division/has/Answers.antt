use Rattle.std.proofs.Common.{◌∙◌}
use Rattle.npp_rows.proofs.ListLaws.{found_place}
use Rattle.npp_check.proofs.DivisionLemmas.{found_is}
use Rattle.npp_check.proofs.division.has.Goals as goal

pub returns : goal.returns
returns c =
    c.is_ok.ensures.value
    ∙ found_is c.args.list.now c.args.number c.binary_search.result (found_place c.args.list.now c.args.number c.binary_search.result c.requires c.binary_search.ensures.position)
