use Rattle.std.proofs.Common.{◌≡◌, List, length, map, All, sym, ap, subst, ◌∙◌, arith}
use Rattle.std.proofs.lemmas.List.{length-map, get_or_default}
use Rattle.npp_lp.specs.Meaning.{terms_of, linear_program}
use Rattle.npp_rows.specs.declared.names.RowName.{RowName}
use Rattle.npp_rows.specs.Meaning.{cut_value}
use Rattle.npp_rows.specs.Relax.{relaxation, relaxation_rows, relaxation_columns}
use Rattle.npp_rows.specs.Rows.{IsRow}
use Rattle.npp_rows.proofs.ProgramLaws.{no_rows, all_rows, one_row, row_form, finished}
use Rattle.npp_rows.proofs.relaxed.build.Goals as goal

pub loop-row-init : goal.loop-row-init
loop-row-init g c =
    rw (c.goal_list-list.ensures.same, c.requires.started) (no_rows g.N.Exact.rational (relaxation c.args.index.now.paths c.args.index.now.parts (map (cut_value g.N.Exact.rational) c.args.cuts.now)) c.args.rows.now)

pub write_row-requires-clause-row : goal.write_row-requires-clause-row
write_row-requires-clause-row g c =
    subst (λ (rs : List RowName). All (IsRow c.args.index.now.paths c.args.index.now.parts (length c.args.cuts.now)) rs) (sym c.requires.rows) (all_rows c.args.index.now.paths c.args.index.now.parts (length c.args.cuts.now)) c.loop-row.row-index _ c.loop-row-test.true

pub right_side-requires : goal.right_side-requires
right_side-requires g c =
    subst (λ (rs : List RowName). All (IsRow c.args.index.now.paths c.args.index.now.parts (length c.args.cuts.now)) rs) (sym c.requires.rows) (all_rows c.args.index.now.paths c.args.index.now.parts (length c.args.cuts.now)) c.loop-row.row-index _ c.loop-row-test.true

pub feed-requires-clause-form : goal.feed-requires-clause-form
feed-requires-clause-form g c =
    row_form g.N.Exact.rational (relaxation c.args.index.now.paths c.args.index.now.parts (map (cut_value g.N.Exact.rational) c.args.cuts.now)) _ c.loop-row.program.columns c.deref.result.now c.loop-row.invariant.columns
    (ap (terms_of g.N.Exact.rational) c.deref.ensures.value ∙ c.in_ok-write_row.ensures)

pub loop-row-preserved : goal.loop-row-preserved
loop-row-preserved g c =
    rw c.in_ok-feed.ensures
    (one_row g.N.Exact.rational (relaxation c.args.index.now.paths c.args.index.now.parts (map (cut_value g.N.Exact.rational) c.args.cuts.now)) c.args.rows.now c.loop-row.row-index _ c.loop-row.program c.deref.result.now c.right_side.result c.loop-row-test.true
    (get_or_default c.args.rows.now c.loop-row.row-index _ _ c.loop-row-test.true) c.loop-row.invariant
    (ap (terms_of g.N.Exact.rational) c.deref.ensures.value ∙ c.in_ok-write_row.ensures) c.right_side.ensures)

pub finish-requires-clause-goal : goal.finish-requires-clause-goal
finish-requires-clause-goal g c =
    let size : length c.in_ok-goal.goal.items ≡ length (relaxation_columns c.args.index.now.paths c.args.index.now.parts) = simp length-map at (ap length c.in_ok-goal.ensures) in
    omega (arith, size, c.loop-row.invariant.columns)

pub returns : goal.returns
returns g c =
    let size : length (map (cut_value g.N.Exact.rational) c.args.cuts.now) ≡ length c.args.cuts.now = simp length-map in
    ap (linear_program g.N.Exact.rational) c.finish.ensures
    ∙ finished g.N.Exact.rational (relaxation c.args.index.now.paths c.args.index.now.parts (map (cut_value g.N.Exact.rational) c.args.cuts.now)) c.args.rows.now c.loop-row.row-index c.loop-row.program c.in_ok-goal.goal.items c.loop-row.invariant c.loop-row-test.false
    (c.requires.rows ∙ ap (relaxation_rows c.args.index.now.paths c.args.index.now.parts) (sym size)) c.in_ok-goal.ensures
