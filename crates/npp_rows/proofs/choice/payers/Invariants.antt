use Rattle.std.proofs.Common.{◌≡◌, ◌≤◌, ◌*◌, sum_by, if◌then◌else◌}
use Rattle.std.specs.List.{range_with_len}
use Rattle.npp_rows.specs.PathModel.{uses, demand_at}
use Rattle.npp_rows.specs.Parts.{chosen}
use Rattle.npp_rows.proofs.choice.payers.Given as goal

abbrev pub invariant-loop-k : goal.invariant-loop-k
invariant-loop-k l =
    (l.sum ≡ sum_by (λ k. if uses l.table k (chosen l.choice k) l.toll.0 then demand_at l.table k else 0) (range_with_len 0 l.k))
    × (l.sum ≤ l.k * 1000000)
