-- The walks that travellers take under tolls, each with what it costs and pays, and what they are true of.
use Rattle.std.specs.Prelude.{◌≡◌, ℕ, ◌≤◌, pos, List, map, All}
use Rattle.std.specs.List.{AllZip}
use Rattle.npp_frac.specs.Rational.{Rational, ratio}
use Rattle.npp_net.specs.declared.types.ArcId.{ArcId}
use Rattle.npp_net.specs.declared.types.NetArc.{NetArc}
use Rattle.npp_net.specs.Network.{Network}
use Rattle.npp_net.specs.Walk.{walk_cost, RepeatsNoNode}
use Rattle.npp_net.specs.Toll.{TollVector, toll_paid}
use Rattle.npp_net.specs.Outcome.{IsOutcome, IsEarned, revenue}
use Rattle.npp_lp.specs.Programs.{at}
use Rattle.npp_rows.specs.PathModel.{PathModel, commodities, useful_path}
use Rattle.npp_rows.specs.Parts.{chosen}
use Rattle.npp_rows.specs.Response.{Reply, reply}
use Rattle.npp_rows.specs.TollVectors.{HasTolls}
use Rattle.npp_tree.specs.declared.outcome.PathLine.{PathLine}

-- the path that a commodity takes in a reply, with what it pays
abbrev pub taken_line : PathModel → Reply → ℕ → PathLine Rational
taken_line m r k = let path = useful_path m k (chosen r.paths k) in record { cost = path.cost; paid = at r.paid k; arcs = path.arcs }

-- of all commodities, in order
abbrev pub reply_lines : PathModel → Reply → List (PathLine Rational)
reply_lines m r = map (taken_line m r) (commodities m)

-- the reply to some tolls
pub record IsReply (m : PathModel) (r : Reply) : Type 0 where
  pub tolls : List Rational
  pub same : r ≡ reply m tolls

-- their walks
abbrev pub walks_of : List (PathLine Rational) → List (List ArcId)
walks_of lines = map (λ (p : PathLine Rational). p.arcs) lines

-- no cheapest walks under these tolls earn more
abbrev pub EarnMost : Network → TollVector → List (List ArcId) → Type 0
EarnMost net t walks = (others : List (List ArcId)) → IsOutcome net t others
    → revenue net.arcs t net.commodities others ≤ revenue net.arcs t net.commodities walks

-- what is said of a walk is what it costs and what it pays
pub record IsPriced (arcs : List NetArc) (t : TollVector) (p : PathLine Rational) : Type 0 where
  pub cost : p.cost ≡ walk_cost arcs p.arcs
  pub paid : p.paid ≡ ratio (pos (toll_paid arcs t p.arcs)) t.denominator

-- under these tolls the walks are cheapest over all walks; they earn exactly the value, which is the most that cheapest
-- walks earn; and each is said to cost and pay what it does
pub record IsReplyOver (net : Network) (t : TollVector) (lines : List (PathLine Rational)) (value : Rational) : Type 0 where
  pub earned : IsEarned net t (walks_of lines) value.num value.den
  pub most : EarnMost net t (walks_of lines)
  pub priced : All (IsPriced net.arcs t) lines

-- no walk comes to a node twice
abbrev pub AreSimple : Network → List (List ArcId) → Type 0
AreSimple net walks = AllZip (λ k walk. RepeatsNoNode net.arcs k.origin.0 walk) net.commodities walks

-- the tolls have a common denominator; and whatever the common denominator over which they are written, the walks are the
-- travellers' reply, which earns the value. No walk comes to a node twice
pub record IsReplyTo (net : Network) (tolls : List Rational) (lines : List (PathLine Rational)) (value : Rational) : Type 0 where
  pub common : (t : TollVector) × HasTolls tolls t
  pub over : (t : TollVector) → HasTolls tolls t → IsReplyOver net t lines value
  pub simple : AreSimple net (walks_of lines)
