use Rattle.std.proofs.Common.{◌≡◌, Some, length, sym, ap, subst, ◌∙◌, refl}
use Rattle.std.proofs.lemmas.List.{length-map}
use Rattle.npp_frac.specs.Fits.{limit_of}
use Rattle.npp_lp.specs.Meaning.{terms_of}
use Rattle.npp_rows.specs.Named.{NamedProgram}
use Rattle.npp_rows.specs.Meaning.{multiplier_value}
use Rattle.std.proofs.lemmas.List.FromFn.{length-range_with_len}
use Rattle.npp_rows.specs.declared.names.ColumnName.TheVariants.{Toll}
use Rattle.npp_rows.specs.PathModel.{tolls}
use Rattle.npp_rows.specs.Inverse.{conflict_program}
use Rattle.npp_rows.specs.Rows.{IsConflictRow}
use Rattle.npp_rows.proofs.ConflictLaws.{all_conflict_rows}
use Rattle.npp_rows.specs.Taken.{Taken, AreAdded}
use Rattle.npp_rows.proofs.RowPlaces.{row_told}
use Rattle.npp_rows.proofs.TakenLaws.{entries_rise, entries_inside, row_added}
use Rattle.npp_rows.proofs.named_sums.NamedSums.add_for_conflict.Goals as goal

pub write_conflict_row-requires-clause-row : goal.write_conflict_row-requires-clause-row
write_conflict_row-requires-clause-row g c = row_told (IsConflictRow c.args.table.now c.args.two.k c.args.two.l) ((conflict_program c.args.table.now c.args.two.k c.args.two.p c.args.two.l c.args.two.q).rows) c.args.multiplier.row (Some c.args.place) (all_conflict_rows c.args.table.now c.args.two.k c.args.two.p c.args.two.l c.args.two.q) (sym c.requires.place)

pub conflict_right-right-requires-clause-row : goal.conflict_right-right-requires-clause-row
conflict_right-right-requires-clause-row g c = row_told (IsConflictRow c.args.table.now c.args.two.k c.args.two.l) ((conflict_program c.args.table.now c.args.two.k c.args.two.p c.args.two.l c.args.two.q).rows) c.args.multiplier.row (Some c.args.place) (all_conflict_rows c.args.table.now c.args.two.k c.args.two.p c.args.two.l c.args.two.q) (sym c.requires.place)

pub add_row-requires-clause-rising : goal.add_row-requires-clause-rising
add_row-requires-clause-rising g c =
    let v = g.N.Exact.rational in
    let p : NamedProgram = conflict_program c.args.table.now c.args.two.k c.args.two.p c.args.two.l c.args.two.q in
    entries_rise v (p.entry c.args.multiplier.row) p.columns c.deref.result.now (ap (terms_of v) c.deref.ensures.value ∙ c.in_ok-write_conflict_row.ensures)

pub add_row-requires-clause-in_range : goal.add_row-requires-clause-in_range
add_row-requires-clause-in_range g c =
    let v = g.N.Exact.rational in
    let p : NamedProgram = conflict_program c.args.table.now c.args.two.k c.args.two.p c.args.two.l c.args.two.q in
    let size : length p.columns ≡ length c.self.inside.sums.columns = sym (ap (λ (t : Taken g.row.N.Denot). length t.sums.columns) c.self.view_is ∙ c.requires.columns ∙ sym (rw (length-map (tolls c.args.table.now) Toll) (length-range_with_len 0 (length c.args.table.now.caps)))) in
    entries_inside v (p.entry c.args.multiplier.row) p.columns c.deref.result.now (length c.self.inside.sums.columns) size (ap (terms_of v) c.deref.ensures.value ∙ c.in_ok-write_conflict_row.ensures)

pub returns-clause-sums : goal.returns-clause-sums
returns-clause-sums g c = λ ys are.
    let v = g.N.Exact.rational in
    let p : NamedProgram = conflict_program c.args.table.now c.args.two.k c.args.two.p c.args.two.l c.args.two.q in
    let old : Taken g.row.N.Denot = record { last = c.self.inside.last; sums = c.self.inside.sums } in
    let new : Taken g.row.N.Denot = record { last = Some c.args.multiplier.row; sums = c.add_row.new.self } in
    row_added v (limit_of g.N.Exact.WIDTH) p ys (multiplier_value v c.args.multiplier) old new c.args.place (terms_of v c.deref.result.now) (v c.conflict_right-right.result) c.requires.place c.add_row.ensures
    (ap (terms_of v) c.deref.ensures.value ∙ c.in_ok-write_conflict_row.ensures) c.conflict_right-right.ensures refl
    (subst (λ (t : Taken g.row.N.Denot). AreAdded v (limit_of g.N.Exact.WIDTH) p ys t) (sym c.self.view_is) are)
