use Rattle.std.proofs.Common.{◌≡◌, true, false, sym, ap, ◌∙◌}
use Rattle.std.specs.Prelude.{not}
use Rattle.npp_rows.specs.declared.names.Multiplier.{Multiplier}
use Rattle.npp_rows.specs.RowOrder.{has_row}
use Rattle.npp_rows.specs.Relax.{relaxation_rows}
use Rattle.npp_rows.proofs.TakenLaws.{passes_more, passes_not, passes_all, sought, rows_meant}
use Rattle.npp_rows.proofs.index.RelaxationIndex.are_rows.Goals as goal

pub returns-then-is_none : goal.returns-then-is_none
returns-then-is_none g c =
    let none : has_row (relaxation_rows c.args.self.now.paths c.args.self.now.parts c.args.cuts) c.multiplier-item.result.row ≡ false = sought (relaxation_rows c.args.self.now.paths c.args.self.now.parts c.args.cuts) c.multiplier-item.result.row c.row_place.result c.is_none.result (c.row_place.ensures.place) c.is_none.ensures ∙ ap not c.if-is_none.true in
    passes_not (λ (y : Multiplier g.row.N.Denot). has_row (relaxation_rows c.args.self.now.paths c.args.self.now.parts c.args.cuts) y.row) c.args.multipliers.now c.loop-multiplier.multiplier-index c.multiplier-item.result c.loop-multiplier-test.true c.multiplier-item.is none
    ∙ sym (rows_meant g.N.Exact.rational (relaxation_rows c.args.self.now.paths c.args.self.now.parts c.args.cuts) c.args.multipliers.now)

pub loop-multiplier-preserved : goal.loop-multiplier-preserved
loop-multiplier-preserved g c =
    let some : has_row (relaxation_rows c.args.self.now.paths c.args.self.now.parts c.args.cuts) c.multiplier-item.result.row ≡ true = sought (relaxation_rows c.args.self.now.paths c.args.self.now.parts c.args.cuts) c.multiplier-item.result.row c.row_place.result c.is_none.result (c.row_place.ensures.place) c.is_none.ensures ∙ ap not c.if-is_none.false in
    passes_more (λ (y : Multiplier g.row.N.Denot). has_row (relaxation_rows c.args.self.now.paths c.args.self.now.parts c.args.cuts) y.row) c.args.multipliers.now c.loop-multiplier.multiplier-index c.multiplier-item.result c.loop-multiplier-test.true c.multiplier-item.is some c.loop-multiplier.invariant

pub returns : goal.returns
returns g c =
    passes_all (λ (y : Multiplier g.row.N.Denot). has_row (relaxation_rows c.args.self.now.paths c.args.self.now.parts c.args.cuts) y.row) c.args.multipliers.now c.loop-multiplier.multiplier-index c.loop-multiplier-test.false c.loop-multiplier.invariant
    ∙ sym (rows_meant g.N.Exact.rational (relaxation_rows c.args.self.now.paths c.args.self.now.parts c.args.cuts) c.args.multipliers.now)
