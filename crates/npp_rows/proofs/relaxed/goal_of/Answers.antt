use Rattle.std.proofs.Common.{◌≡◌, ◌∙◌, length, map, sym, ap, arith}
use Rattle.npp_rows.specs.Relax.{paid_goal}
use Rattle.npp_rows.proofs.RelaxedGoals.{columns_below, zeros_first, demands_next}
use Rattle.npp_rows.proofs.relaxed.goal_of.Goals as goal

pub loop-k-init : goal.loop-k-init
loop-k-init g c = (rw (c.requires.empty, c.first_paid.ensures.value) at c.in_ok-push_often.ensures) ∙ sym (zeros_first c.args.index.now.paths c.args.index.now.parts)

pub loop-k-preserved : goal.loop-k-preserved
loop-k-preserved g c =
    demands_next c.args.index.now.paths c.args.index.now.parts c.loop-k.k _ _ c.loop-k.invariant
    (rw (c.used.ensures.tolls, c.demand-demand.ensures.value, c.table-in-loop-k.ensures.same) at c.in_ok-push_often-2.ensures)

pub returns : goal.returns
returns g c =
    let count = rw c.table.ensures.same at c.commodities-k-end.ensures.count in
    let all : c.loop-k.k ≡ length c.args.index.now.paths.covers = omega (arith, count) in
    c.loop-k.invariant ∙ ap (λ n. map (paid_goal c.args.index.now.paths) (columns_below c.args.index.now.paths c.args.index.now.parts n)) all
