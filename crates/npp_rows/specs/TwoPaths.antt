-- A useful path of each of two commodities.
use Rattle.std.specs.Prelude.{ℕ, ◌<◌, length}
use Rattle.npp_rows.specs.PathModel.{PathModel, path_count}

-- the lower commodity first
pub record AreTwoPaths (m : PathModel) (k p l q : ℕ) : Type 0 where
  pub order : k < l
  pub first : k < length m.covers
  pub first_path : p < path_count m k
  pub second : l < length m.covers
  pub second_path : q < path_count m l
