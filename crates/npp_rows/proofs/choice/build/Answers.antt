use Rattle.std.proofs.Common.{◌≡◌, List, length, map, All, sym, ap, subst, ◌∙◌, arith}
use Rattle.std.proofs.lemmas.List.{length-map, get_or_default}
use Rattle.npp_lp.specs.Meaning.{terms_of, linear_program}
use Rattle.npp_lp.specs.Building.{Started, started}
use Rattle.npp_rows.specs.declared.names.RowName.{RowName}
use Rattle.npp_rows.specs.declared.names.ColumnName.TheVariants.{Toll}
use Rattle.npp_rows.specs.PathModel.{tolls}
use Rattle.npp_rows.specs.Inverse.{inverse}
use Rattle.npp_rows.specs.Rows.{IsChoiceRow}
use Rattle.npp_rows.proofs.ProgramLaws.{no_rows, one_row, row_form, finished, all_choice_rows}
use Rattle.npp_rows.proofs.choice.build.Goals as goal

pub loop-row-init : goal.loop-row-init
loop-row-init g c =
    let size : length (map Toll (tolls c.args.table.now)) ≡ length (tolls c.args.table.now) = simp length-map in
    let is = c.goal_list-list.ensures.same ∙ c.requires.started ∙ ap (λ n. let s : Started g.row.N.Denot = started n in s) (sym size) in
    rw is (no_rows g.N.Exact.rational (inverse c.args.table.now c.args.choice.now) c.args.rows.now)

pub write_choice_row-requires-clause-row : goal.write_choice_row-requires-clause-row
write_choice_row-requires-clause-row g c =
    subst (λ (rs : List RowName). All (IsChoiceRow c.args.table.now) rs) (sym c.requires.rows) (all_choice_rows c.args.table.now) c.loop-row.row-index _ c.loop-row-test.true

pub choice_right-requires-clause-row : goal.choice_right-requires-clause-row
choice_right-requires-clause-row g c =
    subst (λ (rs : List RowName). All (IsChoiceRow c.args.table.now) rs) (sym c.requires.rows) (all_choice_rows c.args.table.now) c.loop-row.row-index _ c.loop-row-test.true

pub feed-requires-clause-form : goal.feed-requires-clause-form
feed-requires-clause-form g c =
    row_form g.N.Exact.rational (inverse c.args.table.now c.args.choice.now) _ c.loop-row.program.columns c.deref.result.now c.loop-row.invariant.columns
    (ap (terms_of g.N.Exact.rational) c.deref.ensures.value ∙ c.in_ok-write_choice_row.ensures)

pub loop-row-preserved : goal.loop-row-preserved
loop-row-preserved g c =
    rw c.in_ok-feed.ensures
    (one_row g.N.Exact.rational (inverse c.args.table.now c.args.choice.now) c.args.rows.now c.loop-row.row-index _ c.loop-row.program c.deref.result.now c.choice_right.result c.loop-row-test.true
    (get_or_default c.args.rows.now c.loop-row.row-index _ _ c.loop-row-test.true) c.loop-row.invariant
    (ap (terms_of g.N.Exact.rational) c.deref.ensures.value ∙ c.in_ok-write_choice_row.ensures) c.choice_right.ensures)

pub finish-requires-clause-goal : goal.finish-requires-clause-goal
finish-requires-clause-goal g c =
    let size : length c.in_ok-goal.goal.items ≡ length (tolls c.args.table.now) = simp length-map at (ap length c.in_ok-goal.ensures) in
    let list : length (map Toll (tolls c.args.table.now)) ≡ length (tolls c.args.table.now) = simp length-map in
    omega (arith, size, list, c.loop-row.invariant.columns)

pub returns : goal.returns
returns g c =
    ap (linear_program g.N.Exact.rational) c.finish.ensures
    ∙ finished g.N.Exact.rational (inverse c.args.table.now c.args.choice.now) c.args.rows.now c.loop-row.row-index c.loop-row.program c.in_ok-goal.goal.items c.loop-row.invariant c.loop-row-test.false
    c.requires.rows c.in_ok-goal.ensures
