-- The caps of the tolls: what no toll needs to exceed.
use Rattle.std.specs.Prelude.{ℕ, ◌-◌, ◌<◌, slice_index, max, List, map, fold, flat_map, ◌==◌, if◌then◌else◌}
use Rattle.std.specs.Int.{bit_at}
use Rattle.std.specs.List.{range_with_len}
use Rattle.npp_net.specs.Network.{Network, toll_count, ceiling_of}
use Rattle.npp_cover.specs.Paths.{PathValue}
use Rattle.npp_cover.specs.Replaces.{CoverValue}
use Rattle.npp_cover.specs.Caps.{within_ceiling, IsCap}
use Rattle.npp_rows.specs.PathModel.{PathModel}

-- what a path with this toll costs less than the toll-free path of its commodity, and 0 for another path
abbrev pub toll_gap : ℕ → ℕ → PathValue → ℕ
toll_gap a free p = if bit_at p.tolls a == 1 then free - p.cost else 0

-- the greatest of these over all commodities and paths
abbrev pub greatest_gap : List CoverValue → ℕ → ℕ
greatest_gap covers a = fold max 0 (flat_map (λ c. map (toll_gap a c.free) c.paths) covers)

-- the cap of a toll: the greatest gap, or its ceiling where that is less
abbrev pub toll_cap : Network → List CoverValue → ℕ → ℕ
toll_cap net covers a = within_ceiling (ceiling_of net.arcs a) (greatest_gap covers a)

-- the caps of all tolls
abbrev pub toll_caps : Network → List CoverValue → List ℕ
toll_caps net covers = map (toll_cap net covers) (range_with_len 0 (toll_count net.arcs))

-- a cap for each toll, by what a cap is
abbrev pub AreCaps : Network → List CoverValue → List ℕ → Type 0
AreCaps net covers caps = (a : ℕ) → a < toll_count net.arcs → IsCap net.arcs covers a (slice_index caps a)

-- what an instance and its covers tell
abbrev pub path_model : Network → List CoverValue → PathModel
path_model net covers = record {
  caps = toll_caps net covers;
  demands = map (λ k. k.demand) net.commodities;
  covers = covers;
}
