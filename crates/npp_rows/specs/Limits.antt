-- The limits that the useful paths of an instance keep.
use Rattle.std.specs.Prelude.{◌≡◌, ℕ, ◌<◌, ◌≤◌, List, length, sum_by}
use Rattle.npp_cover.specs.Replaces.{CoverValue}
use Rattle.npp_rows.specs.PathModel.{PathModel, demand_at, cap_at, cover_at, path_cost, path_count}

-- how many paths some covers have together
abbrev pub path_total : List CoverValue → ℕ
path_total covers = sum_by (λ c. length c.paths) covers

-- the counts are those of an instance with few paths, and each number is below 2^31: demands and costs by the limits of
-- an instance, where no path costs more than the toll-free one, and caps since they are no greater than costs
pub record IsWithinLimits (m : PathModel) : Type 0 where
  pub tolls : length m.caps ≤ 128
  pub commodities : length m.covers ≤ 100
  pub demands : length m.demands ≡ length m.covers
  pub demand : (k : ℕ) → demand_at m k ≤ 1000000
  pub cap : (a : ℕ) → cap_at m a < 1000000000
  pub free : (k : ℕ) → (cover_at m k).free < 1000000000
  pub cost : (k q : ℕ) → path_cost m k q ≤ (cover_at m k).free
  pub paths : path_total m.covers ≤ 16777216
  -- and each commodity has a path
  pub some : (k : ℕ) → k < length m.covers → 0 < path_count m k
