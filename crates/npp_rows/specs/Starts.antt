-- Where each piece of a list of pieces begins.
use Rattle.std.specs.Prelude.{ℕ, ◌+◌, ◌<◌, ◌≤◌, List, length, map, slice_index}
use Rattle.std.specs.List.{range_with_len}
use Rattle.npp_cover.specs.Replaces.{sum_below}

-- n pieces of these sizes begin here, each after those before it, and then their end
abbrev pub starts_of : (ℕ → ℕ) → ℕ → List ℕ
starts_of size n = map (sum_below size) (range_with_len 0 (n + 1))

-- a place lies in piece k, where each piece begins at one of these starts and the last of them is their end
pub record IsPieceAt (starts : List ℕ) (place k : ℕ) : Type 0 where
  pub inside : k + 1 < length starts
  pub low : slice_index starts k ≤ place
  pub high : place < slice_index starts (k + 1)
