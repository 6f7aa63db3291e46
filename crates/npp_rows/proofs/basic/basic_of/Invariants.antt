use Rattle.std.proofs.Common.{◌≡◌, ◌≤◌, ◌*◌, ◌^◌, ◌-◌, sum_by}
use Rattle.std.specs.List.{range_with_len}
use Rattle.npp_rows.specs.PathModel.{demand_at, cover_at}
use Rattle.npp_rows.specs.Parts.{part_at}
use Rattle.npp_rows.specs.Basic.{least_cost}
use Rattle.npp_rows.specs.Caps.{path_model}
use Rattle.npp_rows.proofs.basic.basic_of.Given as goal

abbrev pub invariant-loop-k : goal.invariant-loop-k
invariant-loop-k l =
    let m = path_model l.instance l.covers in
    (l.total ≡ sum_by (λ k. demand_at m k * ((cover_at m k).free - least_cost m k (part_at l.allowed.parts k))) (range_with_len 0 l.k)) × (l.total ≤ l.k * 2 ^ 96)
