use Rattle.std.proofs.Common.{ℕ, ◌<◌, length, slice_index}
use Rattle.std.specs.Prelude.{slice_index_or}
use Rattle.npp_rows.specs.PathModel.{no_cover}
use Rattle.npp_fixtures.proofs.families.is_choice.Given as goal

-- the paths so far are useful paths
abbrev pub invariant-loop-k : goal.invariant-loop-k
invariant-loop-k l = (j : ℕ) → j < l.k → slice_index l.choice j < length (slice_index_or l.covers j no_cover).paths
