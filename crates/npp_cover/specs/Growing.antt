-- A draft that grows label by label.
use Rattle.std.specs.Prelude.{ℕ, ◌<◌, ◌≤◌, List, length}
use Rattle.npp_net.specs.declared.types.Span.{Span}
use Rattle.npp_net.specs.Network.{Network}
use Rattle.npp_net.specs.Distance.{IsSpan}
use Rattle.npp_cover.specs.declared.label.Label.{Label}
use Rattle.npp_cover.specs.Useful.{commodity_at}
use Rattle.npp_cover.specs.Closed.{AreFaultless}

-- the number of its commodity, the span of that, and the labels so far
pub record Growing : Type 0 where
  pub commodity : ℕ
  pub span : Span
  pub labels : List Label

-- it is for a commodity of the network, and its labels are without fault
pub record IsGrowing (net : Network) (g : Growing) : Type 0 where
  pub commodity : g.commodity < length net.commodities
  pub span : IsSpan net.arcs (commodity_at net g.commodity) g.span
  pub few : length g.labels ≤ 65536
  pub labels : AreFaultless net (commodity_at net g.commodity) g.span.free g.labels
