use Rattle.std.proofs.Common.{◌<◌, take, All}
use Rattle.npp_fixtures.proofs.families.are_below.Given as goal

abbrev pub invariant-loop-number : goal.invariant-loop-number
invariant-loop-number l = All (λ n. n < l.limit) (take l.number-index l.numbers)
