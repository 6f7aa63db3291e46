use Rattle.std.proofs.Common.{ℕ, arith, if◌then◌else◌}
use Rattle.npp_rows.specs.PathModel.{uses, demand_at}
use Rattle.npp_rows.specs.Parts.{chosen}
use Rattle.npp_rows.proofs.ModelLaws.{sum_range_push}
use Rattle.npp_rows.proofs.choice.payers.Goals as goal

pub loop-k-preserved : goal.loop-k-preserved
loop-k-preserved c =
    let m = c.args.table.now in
    let f : ℕ → ℕ = λ k. if uses c.args.table.now k (chosen c.args.choice.now k) c.args.toll.0 then demand_at c.args.table.now k else 0 in (
      omega (arith, c.loop-k.invariant.0, c.payer-sum.ensures.value, sum_range_push (λ k. if uses c.args.table.now k (chosen c.args.choice.now k) c.args.toll.0 then demand_at c.args.table.now k else 0) c.loop-k.k),
      omega (arith, c.loop-k.invariant.1, c.payer-sum.ensures.small),
    )
