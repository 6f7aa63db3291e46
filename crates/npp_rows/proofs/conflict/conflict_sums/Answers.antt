use Rattle.std.proofs.Common.{◌≡◌, true, List, length, map, take, take_all, sym, subst, ◌∙◌}
use Rattle.std.proofs.lemmas.List.{length-map}
use Rattle.std.proofs.lemmas.List.FromFn.{length-range_with_len}
use Rattle.npp_frac.specs.Rational.{Rational}
use Rattle.npp_frac.specs.Fits.{limit_of}
use Rattle.npp_rows.specs.declared.names.Multiplier.{Multiplier}
use Rattle.npp_rows.specs.declared.names.ColumnName.TheVariants.{Toll}
use Rattle.npp_rows.specs.PathModel.{tolls}
use Rattle.npp_rows.specs.RowOrder.{has_row}
use Rattle.npp_rows.specs.Named.{NamedProgram}
use Rattle.npp_rows.specs.Meaning.{multiplier_value}
use Rattle.npp_rows.specs.Taken.{AreAdded}
use Rattle.npp_rows.specs.Inverse.{conflict_program}
use Rattle.npp_rows.proofs.ConflictLaws.{conflict_row_is_placed}
use Rattle.npp_rows.proofs.TakenLaws.{passes_each, some_place, rows_meant, meant_more}
use Rattle.npp_rows.proofs.conflict.conflict_sums.Goals as goal

pub loop-multiplier-init : goal.loop-multiplier-init
loop-multiplier-init g c = ((c.in_ok-sums.ensures.empty (conflict_program c.args.table.now c.args.two.k c.args.two.p c.args.two.l c.args.two.q) (rw (length-map (tolls c.args.table.now) Toll, length-range_with_len 0 (length c.args.table.now.caps)) (sym c.tolls.ensures.count))).added, c.in_ok-sums.ensures.columns ∙ c.tolls.ensures.count)

pub unwrap-place-requires : goal.unwrap-place-requires
unwrap-place-requires g c =
    let here : has_row ((conflict_program c.args.table.now c.args.two.k c.args.two.p c.args.two.l c.args.two.q).rows) c.multiplier-item.result.row ≡ true =
    passes_each (λ (y : Multiplier g.row.N.Denot). has_row ((conflict_program c.args.table.now c.args.two.k c.args.two.p c.args.two.l c.args.two.q).rows) y.row) c.args.multipliers.now c.loop-multiplier.multiplier-index c.multiplier-item.result c.loop-multiplier-test.true c.multiplier-item.is (sym (rows_meant g.N.Exact.rational ((conflict_program c.args.table.now c.args.two.k c.args.two.p c.args.two.l c.args.two.q).rows) c.args.multipliers.now) ∙ c.requires.rows) in
    some_place ((conflict_program c.args.table.now c.args.two.k c.args.two.p c.args.two.l c.args.two.q).rows) c.multiplier-item.result.row c.conflict_place.result (conflict_row_is_placed c.args.table.now c.args.two.k c.args.two.p c.args.two.l c.args.two.q c.multiplier-item.result.row c.conflict_place.result c.conflict_place.ensures) here

pub add_for_conflict-requires-clause-columns : goal.add_for_conflict-requires-clause-columns
add_for_conflict-requires-clause-columns g c = c.loop-multiplier.invariant.1

pub add_for_conflict-requires-clause-place : goal.add_for_conflict-requires-clause-place
add_for_conflict-requires-clause-place g c = sym (conflict_row_is_placed c.args.table.now c.args.two.k c.args.two.p c.args.two.l c.args.two.q c.multiplier-item.result.row c.conflict_place.result c.conflict_place.ensures) ∙ c.unwrap-place.ensures

pub loop-multiplier-preserved : goal.loop-multiplier-preserved
loop-multiplier-preserved g c =
    let v = g.N.Exact.rational in
    let p : NamedProgram = conflict_program c.args.table.now c.args.two.k c.args.two.p c.args.two.l c.args.two.q in
    let before = map (multiplier_value g.N.Exact.rational) (take c.loop-multiplier.multiplier-index c.args.multipliers.now) in (
      subst (λ (ys : List (Multiplier Rational)). AreAdded v (limit_of g.N.Exact.WIDTH) p ys c.add_for_conflict.new.self) (sym (meant_more v c.args.multipliers.now c.loop-multiplier.multiplier-index c.multiplier-item.result c.loop-multiplier-test.true c.multiplier-item.is))
          (c.in_ok-add_for_conflict.ensures.sums before c.loop-multiplier.invariant.0),
      c.in_ok-add_for_conflict.ensures.columns ∙ c.loop-multiplier.invariant.1,
    )

pub returns : goal.returns
returns g c =
    let v = g.N.Exact.rational in
    let p : NamedProgram = conflict_program c.args.table.now c.args.two.k c.args.two.p c.args.two.l c.args.two.q in
    subst (λ (ys : List (Multiplier g.row.N.Denot)). AreAdded v (limit_of g.N.Exact.WIDTH) p (map (multiplier_value v) ys) c.loop-multiplier.sums) (take_all c.loop-multiplier.multiplier-index c.args.multipliers.now c.loop-multiplier-test.false) c.loop-multiplier.invariant.0
