use Rattle.std.proofs.Common.{◌≡◌, Some, length, map, sym, ap, subst, ◌∙◌, refl}
use Rattle.std.proofs.lemmas.List.{length-map}
use Rattle.npp_frac.specs.Fits.{limit_of}
use Rattle.npp_lp.specs.Meaning.{terms_of}
use Rattle.npp_rows.specs.Named.{NamedProgram}
use Rattle.npp_rows.specs.Places.{row_place}
use Rattle.npp_rows.specs.Meaning.{cut_value, multiplier_value}
use Rattle.npp_rows.specs.Relax.{relaxation, relaxation_rows}
use Rattle.npp_rows.specs.Rows.{IsRow}
use Rattle.npp_rows.proofs.ProgramLaws.{all_rows}
use Rattle.npp_rows.specs.Taken.{Taken, AreAdded}
use Rattle.npp_rows.proofs.RowPlaces.{row_told}
use Rattle.npp_rows.proofs.TakenLaws.{entries_rise, entries_inside, row_added}
use Rattle.npp_rows.proofs.named_sums.NamedSums.add.Goals as goal

pub write_row-requires-clause-row : goal.write_row-requires-clause-row
write_row-requires-clause-row g c = row_told (IsRow c.args.index.now.paths c.args.index.now.parts (length c.args.cuts.now)) (relaxation_rows c.args.index.now.paths c.args.index.now.parts (length c.args.cuts.now)) c.args.multiplier.row (Some c.args.place) (all_rows c.args.index.now.paths c.args.index.now.parts (length c.args.cuts.now)) (sym c.requires.place)

pub right_side-right-requires : goal.right_side-right-requires
right_side-right-requires g c = row_told (IsRow c.args.index.now.paths c.args.index.now.parts (length c.args.cuts.now)) (relaxation_rows c.args.index.now.paths c.args.index.now.parts (length c.args.cuts.now)) c.args.multiplier.row (Some c.args.place) (all_rows c.args.index.now.paths c.args.index.now.parts (length c.args.cuts.now)) (sym c.requires.place)

pub add_row-requires-clause-rising : goal.add_row-requires-clause-rising
add_row-requires-clause-rising g c =
    let v = g.N.Exact.rational in
    let p : NamedProgram = relaxation c.args.index.now.paths c.args.index.now.parts (map (cut_value v) c.args.cuts.now) in
    entries_rise v (p.entry c.args.multiplier.row) p.columns c.deref.result.now (ap (terms_of v) c.deref.ensures.value ∙ c.in_ok-write_row.ensures)

pub add_row-requires-clause-in_range : goal.add_row-requires-clause-in_range
add_row-requires-clause-in_range g c =
    let v = g.N.Exact.rational in
    let p : NamedProgram = relaxation c.args.index.now.paths c.args.index.now.parts (map (cut_value v) c.args.cuts.now) in
    let size : length p.columns ≡ length c.self.inside.sums.columns = sym (ap (λ (t : Taken g.row.N.Denot). length t.sums.columns) c.self.view_is ∙ c.requires.columns) in
    entries_inside v (p.entry c.args.multiplier.row) p.columns c.deref.result.now (length c.self.inside.sums.columns) size (ap (terms_of v) c.deref.ensures.value ∙ c.in_ok-write_row.ensures)

pub returns-clause-sums : goal.returns-clause-sums
returns-clause-sums g c = λ ys are.
    let v = g.N.Exact.rational in
    let p : NamedProgram = relaxation c.args.index.now.paths c.args.index.now.parts (map (cut_value v) c.args.cuts.now) in
    let old : Taken g.row.N.Denot = record { last = c.self.inside.last; sums = c.self.inside.sums } in
    let new : Taken g.row.N.Denot = record { last = Some c.args.multiplier.row; sums = c.add_row.new.self } in
    let place : row_place p.rows c.args.multiplier.row ≡ Some c.args.place = ap (λ n. row_place (relaxation_rows c.args.index.now.paths c.args.index.now.parts n) c.args.multiplier.row) (length-map c.args.cuts.now (cut_value v)) ∙ c.requires.place in
    row_added v (limit_of g.N.Exact.WIDTH) p ys (multiplier_value v c.args.multiplier) old new c.args.place (terms_of v c.deref.result.now) (v c.right_side-right.result) place c.add_row.ensures
    (ap (terms_of v) c.deref.ensures.value ∙ c.in_ok-write_row.ensures) c.right_side-right.ensures refl
    (subst (λ (t : Taken g.row.N.Denot). AreAdded v (limit_of g.N.Exact.WIDTH) p ys t) (sym c.self.view_is) are)
