use Rattle.std.proofs.Common.{◌≡◌, List, ℕ, ◌++◌, length}
use Rattle.npp_stream.specs.Stream.{TakesBytes}
use Rattle.npp_stream.proofs.PieceLemmas.{Taken}
use Rattle.npp_stream.proofs.stream.TextCheck.take.Given as goal

-- the bytes in front of the rest were taken
abbrev pub invariant-loop-end : goal.invariant-loop-end
invariant-loop-end l = (done : List ℕ) × (l.piece ≡ done ++ l.rest) × TakesBytes l.fn.self done l.self Taken

abbrev pub decreases-loop-end : goal.decreases-loop-end
decreases-loop-end l = length l.rest
