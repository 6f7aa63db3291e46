use Rattle.std.proofs.Common.{◌≡◌, true, false, sym, ap, ◌∙◌}
use Rattle.std.specs.Prelude.{not}
use Rattle.npp_rows.specs.declared.names.Multiplier.{Multiplier}
use Rattle.npp_rows.specs.RowOrder.{has_row}
use Rattle.npp_rows.specs.Inverse.{conflict_program}
use Rattle.npp_rows.proofs.ConflictLaws.{conflict_row_is_placed}
use Rattle.npp_rows.proofs.TakenLaws.{passes_more, passes_not, passes_all, sought, rows_meant}
use Rattle.npp_rows.proofs.conflict.are_conflict_rows.Goals as goal

pub returns-then-is_none : goal.returns-then-is_none
returns-then-is_none g c =
    let none : has_row ((conflict_program c.args.table.now c.args.two.k c.args.two.p c.args.two.l c.args.two.q).rows) c.multiplier-item.result.row ≡ false = sought ((conflict_program c.args.table.now c.args.two.k c.args.two.p c.args.two.l c.args.two.q).rows) c.multiplier-item.result.row c.conflict_place.result c.is_none.result (conflict_row_is_placed c.args.table.now c.args.two.k c.args.two.p c.args.two.l c.args.two.q c.multiplier-item.result.row c.conflict_place.result c.conflict_place.ensures) c.is_none.ensures ∙ ap not c.if-is_none.true in
    passes_not (λ (y : Multiplier g.row.N.Denot). has_row ((conflict_program c.args.table.now c.args.two.k c.args.two.p c.args.two.l c.args.two.q).rows) y.row) c.args.multipliers.now c.loop-multiplier.multiplier-index c.multiplier-item.result c.loop-multiplier-test.true c.multiplier-item.is none
    ∙ sym (rows_meant g.N.Exact.rational ((conflict_program c.args.table.now c.args.two.k c.args.two.p c.args.two.l c.args.two.q).rows) c.args.multipliers.now)

pub loop-multiplier-preserved : goal.loop-multiplier-preserved
loop-multiplier-preserved g c =
    let some : has_row ((conflict_program c.args.table.now c.args.two.k c.args.two.p c.args.two.l c.args.two.q).rows) c.multiplier-item.result.row ≡ true = sought ((conflict_program c.args.table.now c.args.two.k c.args.two.p c.args.two.l c.args.two.q).rows) c.multiplier-item.result.row c.conflict_place.result c.is_none.result (conflict_row_is_placed c.args.table.now c.args.two.k c.args.two.p c.args.two.l c.args.two.q c.multiplier-item.result.row c.conflict_place.result c.conflict_place.ensures) c.is_none.ensures ∙ ap not c.if-is_none.false in
    passes_more (λ (y : Multiplier g.row.N.Denot). has_row ((conflict_program c.args.table.now c.args.two.k c.args.two.p c.args.two.l c.args.two.q).rows) y.row) c.args.multipliers.now c.loop-multiplier.multiplier-index c.multiplier-item.result c.loop-multiplier-test.true c.multiplier-item.is some c.loop-multiplier.invariant

pub returns : goal.returns
returns g c =
    passes_all (λ (y : Multiplier g.row.N.Denot). has_row ((conflict_program c.args.table.now c.args.two.k c.args.two.p c.args.two.l c.args.two.q).rows) y.row) c.args.multipliers.now c.loop-multiplier.multiplier-index c.loop-multiplier-test.false c.loop-multiplier.invariant
    ∙ sym (rows_meant g.N.Exact.rational ((conflict_program c.args.table.now c.args.two.k c.args.two.p c.args.two.l c.args.two.q).rows) c.args.multipliers.now)
