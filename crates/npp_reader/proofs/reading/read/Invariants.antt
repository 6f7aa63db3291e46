use Rattle.std.proofs.Common.{◌≡◌, ◌≤◌, ◌+◌, length}
use Rattle.npp_reader.specs.Lines.{lines_of}
use Rattle.npp_reader.specs.Reading.{reading_from, reading_of}
use Rattle.npp_reader.specs.Taking.{IsWithin}
use Rattle.npp_reader.proofs.reading.read.Given as goal

abbrev pub invariant-loop-rest : goal.invariant-loop-rest
invariant-loop-rest l =
    (reading_from l.line l.draft (lines_of l.rest) ≡ reading_of l.bytes) × (l.line + length l.rest ≤ length l.bytes + 1) × IsWithin l.draft

abbrev pub decreases-loop-rest : goal.decreases-loop-rest
decreases-loop-rest l = length l.rest
