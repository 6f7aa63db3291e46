use Rattle.std.proofs.Common.{◌∙◌, sym, ap}
use Rattle.std.specs.Prelude.{Option, option_map}
use Rattle.npp_rows.specs.declared.names.RowName.{RowName}
use Rattle.npp_rows.specs.declared.names.Multiplier.{Multiplier}
use Rattle.npp_rows.specs.Taken.{is_after}
use Rattle.npp_check.proofs.RowLemmas.{last_row_is}
use Rattle.npp_check.proofs.node_rows.is_behind.Goals as goal

pub returns-in-Some : goal.returns-in-Some
returns-in-Some g c =
    c.is_before.ensures
    ∙ ap (λ (o : Option (Multiplier g.row.N.Denot)). is_after (option_map (λ y. y.row) o) c.args.row) c.in-Some.ensures.value
    ∙ ap (λ (o : Option RowName). is_after o c.args.row) (sym (last_row_is g.N.Exact.rational c.args.above.now))

pub returns-in-None : goal.returns-in-None
returns-in-None g c =
    ap (λ (o : Option (Multiplier g.row.N.Denot)). is_after (option_map (λ y. y.row) o) c.args.row) c.in-None.ensures.value
    ∙ ap (λ (o : Option RowName). is_after o c.args.row) (sym (last_row_is g.N.Exact.rational c.args.above.now))
