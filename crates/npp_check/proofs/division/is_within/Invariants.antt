use Rattle.npp_tree.specs.Family.{is_among}
use Rattle.npp_check.proofs.ListLemmas.{AllFrom}
use Rattle.npp_check.proofs.division.is_within.Given as goal

-- the numbers from here on are still to be looked up
abbrev pub invariant-loop-place : goal.invariant-loop-place
invariant-loop-place l = AllFrom (is_among l.whole) l.part l.place
