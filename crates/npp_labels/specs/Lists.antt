-- The labels that were taken.
use Rattle.std.specs.Prelude.{ℕ, List}
use Rattle.npp_cover.specs.declared.label.Label.{Label}

-- labels at so many nodes, in the order in which they were taken
pub record Lists : Type 0 where
  pub nodes : ℕ
  pub labels : List Label
