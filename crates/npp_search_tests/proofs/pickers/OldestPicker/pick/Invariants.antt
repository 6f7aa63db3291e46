use Rattle.std.proofs.Common.{◌<◌, length}
use Rattle.npp_search_tests.proofs.pickers.OldestPicker.pick.Given as goal

-- the oldest so far is in the list
abbrev pub invariant-loop-place : goal.invariant-loop-place
invariant-loop-place l = l.oldest < length l.live
