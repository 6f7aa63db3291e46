use Rattle.std.proofs.Common.{◌≡◌, take, filter, not}
use Rattle.npp_tree.specs.Family.{is_among}
use Rattle.npp_check.proofs.division.rest_of.Given as goal

-- the rest of the numbers so far
abbrev pub invariant-loop-place : goal.invariant-loop-place
invariant-loop-place l = l.rest.items ≡ filter (λ q. not (is_among l.part q)) (take l.place l.whole)
