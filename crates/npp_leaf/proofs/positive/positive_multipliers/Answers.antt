use Rattle.std.proofs.Common.{◌<◌, Vec, length, get_or, ap, sym, ◌∙◌, arith}
use Rattle.std.proofs.lemmas.List.{get_or_default}
use Rattle.std.specs.Global.{Global}
use Rattle.npp_rows.specs.declared.names.RowName.TheVariants.{Cap}
use Rattle.npp_rows.specs.declared.names.Multiplier.{Multiplier}
use Rattle.npp_leaf.proofs.PositiveLaws.{row_taken, row_passed}
use Rattle.npp_leaf.proofs.positive.positive_multipliers.Goals as goal
use Rattle.npp_leaf.proofs.positive.positive_multipliers.Goals.{then-is_positive+in_ok-push, else-is_positive}

pub loop-i-preserved : goal.loop-i-preserved
loop-i-preserved g c =
    let v = g.N.Exact.rational in
    let l : c.loop-i.i < length c.args.values.now = c.loop-i-test.true in
    let h : c.loop-i.i < length c.args.rows.now = omega (arith, l, c.requires) in
    elim c.if-is_positive.branch [
      | then-is_positive+in_ok-push w ↦
          row_taken v c.args.rows.now c.args.values.now c.loop-i.i c.index-values-i.result h l c.index-values-i.is (get_or c.args.rows.now c.loop-i.i (Cap 0)) c.loop-i.named.items c.if-is_positive.named.items
          (get_or_default c.args.rows.now c.loop-i.i (Cap 0) (get_or c.args.rows.now c.loop-i.i (Cap 0)) h)
          (sym w.if-is_positive.true ∙ c.is_positive.ensures) c.loop-i.invariant (ap (λ (n : Vec (Multiplier g.row.N.Denot) Global). n.items) w.named-is ∙ w.in_ok-push.ensures.items)
      | else-is_positive w ↦
          row_passed v c.args.rows.now c.args.values.now c.loop-i.i c.index-values-i.result h l c.index-values-i.is (Cap 0) c.loop-i.named.items c.if-is_positive.named.items
          (sym w.if-is_positive.false ∙ c.is_positive.ensures) c.loop-i.invariant (ap (λ (n : Vec (Multiplier g.row.N.Denot) Global). n.items) w.named-is)
    ]
