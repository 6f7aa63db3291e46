use Rattle.std.proofs.Common.{◌<◌, ◌∙◌, List, [], ◌∷◌, ◌++◌, sym, ap, subst, arith, take}
use Rattle.std.proofs.lemmas.List.{take_more}
use Rattle.npp_cover.specs.declared.label.Label.{Label}
use Rattle.npp_cover.specs.Dominance.{AnswersFor}
use Rattle.npp_cover.proofs.closed.table_of.Goals as goal

pub with-requires : goal.with-requires
with-requires c =
    let lt : c.label-item.result.node.0 < c.args.nodes =
    subst (λ (l : Label). l.node.0 < c.args.nodes) (sym c.label-item.is) (c.requires c.loop-label.label-index c.label-item.result c.loop-label-test.true) in
    omega (arith, c.loop-label.invariant.0)

pub loop-label-preserved : goal.loop-label-preserved
loop-label-preserved c = (
  c.in_ok-table-2.ensures.nodes ∙ c.loop-label.invariant.0,
  subst (λ (xs : List Label). AnswersFor xs c.in_ok-table-2.table)
      (ap (λ (l : Label). take c.loop-label.label-index c.args.labels.now ++ l ∷ []) c.label-item.is
      ∙ sym (take_more c.args.labels.now c.loop-label.label-index c.label-item.result c.loop-label-test.true))
      (c.in_ok-table-2.ensures.answers (take c.loop-label.label-index c.args.labels.now) c.loop-label.invariant.1),
)
