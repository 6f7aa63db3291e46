use Rattle.std.proofs.Common.{◌≡◌, true, take, nat_lt}
use Rattle.std.specs.List.{list_all}
use Rattle.npp_rows.proofs.pair.are_below.Given as goal

abbrev pub invariant-loop-number : goal.invariant-loop-number
invariant-loop-number l = list_all (λ i. nat_lt i l.count) (take l.number-index l.numbers) ≡ true
