use Rattle.std.proofs.Common.{◌≡◌, ℕ, Some, List, true, length, map, take, take_all, refl, sym, ap, subst, ◌∙◌}
use Rattle.std.proofs.lemmas.List.{length-map}
use Rattle.npp_frac.specs.Rational.{Rational}
use Rattle.npp_frac.specs.Fits.{limit_of}
use Rattle.npp_lp.specs.Meaning.{terms_of}
use Rattle.npp_lp.specs.RunningSums.{AreEmpty, AreSumsOf}
use Rattle.npp_lp.specs.RunningSumsLaws.{sums_of_none}
use Rattle.npp_rows.specs.declared.names.Multiplier.{Multiplier}
use Rattle.npp_rows.specs.RowOrder.{has_row}
use Rattle.npp_rows.specs.Places.{row_place}
use Rattle.npp_rows.specs.Named.{NamedProgram, numbered}
use Rattle.npp_rows.specs.Meaning.{cut_value, multiplier_value}
use Rattle.npp_rows.specs.Taken.{placed}
use Rattle.npp_rows.specs.Relax.{relaxation, relaxation_rows}
use Rattle.npp_rows.specs.Rows.{IsRow}
use Rattle.npp_rows.specs.Rounding.{StandOnlyIn}
use Rattle.npp_rows.proofs.ProgramLaws.{all_rows}
use Rattle.npp_rows.proofs.RowPlaces.{row_told}
use Rattle.npp_rows.proofs.TakenLaws.{passes_each, some_place, rows_meant, meant_more, entries_rise, sums_of_row}
use Rattle.npp_rows.proofs.TouchedLaws.{entries_stand}
use Rattle.npp_rows.proofs.index.RelaxationIndex.sums.Goals as goal

pub loop-multiplier-init : goal.loop-multiplier-init
loop-multiplier-init g c =
    let p : NamedProgram = relaxation c.args.self.now.paths c.args.self.now.parts (map (cut_value g.N.Exact.rational) c.args.cuts.now) in
    (sums_of_none (limit_of g.N.Exact.WIDTH) (numbered p) c.in_ok-sums.sums.all (subst (λ (n : ℕ). AreEmpty n c.in_ok-sums.sums.all) c.column_count.ensures.count c.in_ok-sums.ensures.empty), refl)

pub unwrap-place-requires : goal.unwrap-place-requires
unwrap-place-requires g c =
    let here : has_row (relaxation_rows c.args.self.now.paths c.args.self.now.parts (length c.args.cuts.now)) c.multiplier-item.result.row ≡ true =
    passes_each (λ (y : Multiplier g.row.N.Denot). has_row (relaxation_rows c.args.self.now.paths c.args.self.now.parts (length c.args.cuts.now)) y.row) c.args.multipliers.now c.loop-multiplier.multiplier-index c.multiplier-item.result c.loop-multiplier-test.true c.multiplier-item.is (sym (rows_meant g.N.Exact.rational (relaxation_rows c.args.self.now.paths c.args.self.now.parts (length c.args.cuts.now)) c.args.multipliers.now) ∙ c.requires.rows) in
    some_place (relaxation_rows c.args.self.now.paths c.args.self.now.parts (length c.args.cuts.now)) c.multiplier-item.result.row c.row_place.result (c.row_place.ensures.place) here

pub write_row-requires-clause-row : goal.write_row-requires-clause-row
write_row-requires-clause-row g c = row_told (IsRow c.args.self.now.paths c.args.self.now.parts (length c.args.cuts.now)) (relaxation_rows c.args.self.now.paths c.args.self.now.parts (length c.args.cuts.now)) c.multiplier-item.result.row (Some c.unwrap-place.result) (all_rows c.args.self.now.paths c.args.self.now.parts (length c.args.cuts.now)) (sym c.unwrap-place.ensures ∙ c.row_place.ensures.place)

pub right_side-right-requires : goal.right_side-right-requires
right_side-right-requires g c = row_told (IsRow c.args.self.now.paths c.args.self.now.parts (length c.args.cuts.now)) (relaxation_rows c.args.self.now.paths c.args.self.now.parts (length c.args.cuts.now)) c.multiplier-item.result.row (Some c.unwrap-place.result) (all_rows c.args.self.now.paths c.args.self.now.parts (length c.args.cuts.now)) (sym c.unwrap-place.ensures ∙ c.row_place.ensures.place)

pub add_row-requires-clause-rising : goal.add_row-requires-clause-rising
add_row-requires-clause-rising g c =
    let v = g.N.Exact.rational in
    let p : NamedProgram = relaxation c.args.self.now.paths c.args.self.now.parts (map (cut_value v) c.args.cuts.now) in
    entries_rise v (p.entry c.multiplier-item.result.row) p.columns c.deref.result.now (ap (terms_of v) c.deref.ensures.value ∙ c.in_ok-write_row.ensures)

pub add_row-requires-clause-stand : goal.add_row-requires-clause-stand
add_row-requires-clause-stand g c =
    let v = g.N.Exact.rational in
    let p : NamedProgram = relaxation c.args.self.now.paths c.args.self.now.parts (map (cut_value v) c.args.cuts.now) in
    let stand : StandOnlyIn p (map (multiplier_value v) c.args.multipliers.now) c.loop-multiplier.sums.columns =
    subst (λ (columns : List ℕ). StandOnlyIn p (map (multiplier_value v) c.args.multipliers.now) columns) (sym (c.loop-multiplier.invariant.1 ∙ c.in_ok-sums.ensures.columns)) c.in_ok-columns.ensures.all in
    entries_stand v p c.args.multipliers.now c.loop-multiplier.sums.columns c.loop-multiplier.multiplier-index c.multiplier-item.result c.deref.result.now stand c.loop-multiplier-test.true c.multiplier-item.is
    (ap (terms_of v) c.deref.ensures.value ∙ c.in_ok-write_row.ensures)

pub loop-multiplier-preserved : goal.loop-multiplier-preserved
loop-multiplier-preserved g c =
    let v = g.N.Exact.rational in
    let m = c.args.self.now.paths in
    let parts = c.args.self.now.parts in
    let p : NamedProgram = relaxation c.args.self.now.paths c.args.self.now.parts (map (cut_value v) c.args.cuts.now) in
    let y = multiplier_value v c.multiplier-item.result in
    let before = map (multiplier_value v) (take c.loop-multiplier.multiplier-index c.args.multipliers.now) in
    let place : row_place p.rows c.multiplier-item.result.row ≡ Some c.unwrap-place.result =
    ap (λ n. row_place (relaxation_rows m parts n) c.multiplier-item.result.row) (length-map c.args.cuts.now (cut_value v)) ∙ sym c.row_place.ensures.place ∙ c.unwrap-place.ensures in (
      subst (λ (ys : List (Multiplier Rational)). AreSumsOf (limit_of g.N.Exact.WIDTH) (numbered p) (placed p.rows ys) c.add_row.new.self.all) (sym (meant_more v c.args.multipliers.now c.loop-multiplier.multiplier-index c.multiplier-item.result c.loop-multiplier-test.true c.multiplier-item.is))
          (sums_of_row p (limit_of g.N.Exact.WIDTH) before y c.loop-multiplier.sums.all c.add_row.new.self.all c.unwrap-place.result (terms_of v c.deref.result.now) (v c.right_side-right.result) place c.in_ok-add_row.ensures.row
          (ap (terms_of v) c.deref.ensures.value ∙ c.in_ok-write_row.ensures) c.right_side-right.ensures c.loop-multiplier.invariant.0),
      c.in_ok-add_row.ensures.columns ∙ c.loop-multiplier.invariant.1,
    )

pub returns : goal.returns
returns g c =
    let v = g.N.Exact.rational in
    let p : NamedProgram = relaxation c.args.self.now.paths c.args.self.now.parts (map (cut_value v) c.args.cuts.now) in
    subst (λ (ms : List (Multiplier g.row.N.Denot)). AreSumsOf (limit_of g.N.Exact.WIDTH) (numbered p) (placed p.rows (map (multiplier_value v) ms)) c.loop-multiplier.sums.all) (take_all c.loop-multiplier.multiplier-index c.args.multipliers.now c.loop-multiplier-test.false) c.loop-multiplier.invariant.0
