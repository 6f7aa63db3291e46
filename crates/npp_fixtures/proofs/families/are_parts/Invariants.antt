use Rattle.std.proofs.Common.{ℕ, ◌<◌, [], length}
use Rattle.std.specs.Prelude.{slice_index_or}
use Rattle.npp_rows.specs.PathModel.{no_cover}
use Rattle.npp_rows.specs.Parts.{IsPart}
use Rattle.npp_fixtures.proofs.families.are_parts.Given as goal

-- a part of the useful paths for each commodity so far
abbrev pub invariant-loop-k : goal.invariant-loop-k
invariant-loop-k l = (j : ℕ) → j < l.k → IsPart (length (slice_index_or l.covers j no_cover).paths) (slice_index_or l.parts j [])
