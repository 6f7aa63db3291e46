use Rattle.std.proofs.Common.{sym, ◌∙◌}
use Rattle.npp_search.proofs.DivisionLaws.{turn_takes, turn_keeps}
use Rattle.npp_search.proofs.division.greatest.Goals as goal
use Rattle.npp_search.proofs.division.greatest.Goals.{then-is_below, else-is_below}

pub loop-place-preserved : goal.loop-place-preserved
loop-place-preserved g c =
    elim c.if-is_below.branch [
      | then-is_below w ↦
          turn_takes g.N.Exact.rational c.args.numbers.now c.loop-place.place c.loop-place.best c.index-numbers-best.result c.index-numbers-place.result c.loop-place.invariant.0 c.loop-place-test.true
          c.index-numbers-best.is c.index-numbers-place.is c.loop-place.invariant.1 c.if-is_below.best (sym c.is_below.ensures ∙ w.if-is_below.true) w.best-is
      | else-is_below w ↦
          turn_keeps g.N.Exact.rational c.args.numbers.now c.loop-place.place c.loop-place.best c.index-numbers-best.result c.index-numbers-place.result c.loop-place.invariant.0 c.loop-place-test.true
          c.index-numbers-best.is c.index-numbers-place.is c.loop-place.invariant.1 c.if-is_below.best (sym c.is_below.ensures ∙ w.if-is_below.false) w.best-is
    ]
