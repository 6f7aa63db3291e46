use Rattle.std.proofs.Common.{rules}
use Rattle.std.proofs.lemmas.List.Sorted.{answers_always}
use Rattle.npp_lp.specs.CoefficientLaws.{coefficient_absent, coefficient_present, found_column, missed_column}
use Rattle.npp_lp.proofs.sums.entry_in.Goals as goal

pub returns-in-Ok : goal.returns-in-Ok
returns-in-Ok g c =
    let equal = c.in-Ok.ensures.position (λ e. e.column) (answers_always _ _ _ (λ f a r h called. search rules)) in
    coefficient_present g.N.Exact.rational c.args.row.now c.in-Ok.place c.args.column c.index-row-place.result c.requires c.in-Ok.ensures.bound (found_column c.args.row.now c.requires c.args.column c.in-Ok.place equal c.index-row-place.result)

pub returns-in-Err : goal.returns-in-Err
returns-in-Err g c =
    let parted = c.in-Err.ensures.position (λ e. e.column) (answers_always _ _ _ (λ f a r h called. search rules)) in
    coefficient_absent g.N.Exact.rational c.args.row.now c.args.column (missed_column c.args.row.now c.requires c.args.column _ parted)
