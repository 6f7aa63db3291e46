-- The tolls that the work on a node gives beside its evidence, from which a search can learn a lower value.
use Rattle.std.specs.Prelude.{◌≡◌, Option, IfSome}
use Rattle.npp_rows.specs.PathModel.{PathModel}
use Rattle.npp_rows.specs.Response.{reply}
use Rattle.npp_inverse.specs.Best.{AreWithinCaps}
use Rattle.npp_tree.specs.Bounds.{BoundValue, IsUpTo}
use Rattle.npp_leaf.specs.Found.{BestTolls, Found}

-- best tolls are from 0 to the caps, and stand with the reply to them, which earns at least the value of the evidence
pub record AreBestFound (m : PathModel) (value : Option BoundValue) (b : BestTolls) : Type 0 where
  pub capped : AreWithinCaps m b.tolls
  pub replied : b.reply ≡ reply m b.tolls
  pub earns : IfSome value (λ v. IsUpTo v b.reply.revenue)

-- the tolls of a point are from 0 to the caps, and best tolls are such
pub record FindsTolls (m : PathModel) (f : Found) : Type 0 where
  pub point : IfSome f.point (λ x. AreWithinCaps m x.tolls)
  pub best : IfSome f.best (AreBestFound m f.value)
