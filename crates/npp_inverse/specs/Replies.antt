-- What the reply to tolls is for: its paths are cheapest over all walks, and no cheapest walks earn more.
use Rattle.std.specs.Prelude.{◌≡◌, ◌≤◌, pos, List}
use Rattle.npp_frac.specs.Rational.{Rational, ratio}
use Rattle.npp_net.specs.declared.types.ArcId.{ArcId}
use Rattle.npp_net.specs.Network.{Network}
use Rattle.npp_net.specs.Toll.{TollVector}
use Rattle.npp_net.specs.Outcome.{AreCheapest, revenue}
use Rattle.npp_rows.specs.PathModel.{PathModel}
use Rattle.npp_rows.specs.Piece.{walks_of}
use Rattle.npp_rows.specs.TollVectors.{HasTolls}
use Rattle.npp_rows.specs.Response.{Reply}

-- the paths are cheapest over all walks; they earn the revenue; and no walks that are cheapest earn more
pub record IsBestReply (net : Network) (m : PathModel) (t : TollVector) (r : Reply) : Type 0 where
  pub cheapest : AreCheapest net.arcs t net.commodities (walks_of m r.paths)
  pub earned : ratio (pos (revenue net.arcs t net.commodities (walks_of m r.paths))) t.denominator ≡ r.revenue
  pub most : (walks : List (List ArcId)) → AreCheapest net.arcs t net.commodities walks
      → revenue net.arcs t net.commodities walks ≤ revenue net.arcs t net.commodities (walks_of m r.paths)

-- whatever the common denominator over which the tolls are written
abbrev pub AnswersTolls : Network → PathModel → List Rational → Reply → Type 0
AnswersTolls net m T r = (t : TollVector) → HasTolls T t → IsBestReply net m t r
